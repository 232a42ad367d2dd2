-- Why each variable stands: the laws of VariablesStand.antt.
use Rattle.st_variables.proofs.variables_stand.each_variable_stands.Goals as goal
use Rattle.st_variables.proofs.VariablesStand.{each_variable_stands, each_object_is_full}

pub returns-clause-variables : goal.returns-clause-variables
returns-clause-variables c = each_variable_stands

pub returns-clause-objects : goal.returns-clause-objects
returns-clause-objects c = each_object_is_full
