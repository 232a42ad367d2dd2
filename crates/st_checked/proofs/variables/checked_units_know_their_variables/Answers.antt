-- Why checked units know their variables: the laws of AssignedUnits.antt.
use Rattle.st_checked.proofs.variables.checked_units_know_their_variables.Goals as goal
use Rattle.st_checked.proofs.AssignedUnits.{checked_units_assign, checked_programs_know_variables, checked_variables_stand, checked_objects_are_full}

pub returns-clause-assigned : goal.returns-clause-assigned
returns-clause-assigned c = checked_units_assign

pub returns-clause-known : goal.returns-clause-known
returns-clause-known c = checked_programs_know_variables

pub returns-clause-variables : goal.returns-clause-variables
returns-clause-variables c = checked_variables_stand

pub returns-clause-objects : goal.returns-clause-objects
returns-clause-objects c = checked_objects_are_full
