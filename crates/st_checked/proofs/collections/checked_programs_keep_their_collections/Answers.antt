-- Why: the laws of CheckedClasses.antt.
use Rattle.st_checked.proofs.collections.checked_programs_keep_their_collections.Goals as goal
use Rattle.st_checked.proofs.CheckedClasses.{classes_stand_well, classes_extend}

pub returns-clause-superclasses : goal.returns-clause-superclasses
returns-clause-superclasses c = classes_stand_well

pub returns-clause-collections : goal.returns-clause-collections
returns-clause-collections c = classes_extend
