-- Why nothing is missing on compiled code: the laws of Present.antt and NothingMissing.antt.
use Rattle.st_rules.proofs.nothing_missing.on_compiled_code_nothing_is_missing.Goals as goal
use Rattle.st_rules.proofs.NothingMissing.{instructions_have, values_have, activations_have}
use Rattle.st_rules.proofs.SharedStands.{shared_stands}
use Rattle.st_rules.proofs.KnownClasses.{programs_know_classes}
use Rattle.st_rules.proofs.SelvesRun.{selves_fit}
use Rattle.st_rules.proofs.KnownProgram.{programs_know_literals, programs_know_shared}
use Rattle.st_rules.proofs.ObjectsRun.{objects_stand}

pub returns-clause-instructions : goal.returns-clause-instructions
returns-clause-instructions c = instructions_have

pub returns-clause-values : goal.returns-clause-values
returns-clause-values c = values_have

pub returns-clause-activations : goal.returns-clause-activations
returns-clause-activations c = activations_have

pub returns-clause-shared : goal.returns-clause-shared
returns-clause-shared c = shared_stands

pub returns-clause-objects : goal.returns-clause-objects
returns-clause-objects c = objects_stand

pub returns-clause-shared_programs : goal.returns-clause-shared_programs
returns-clause-shared_programs c = programs_know_shared

pub returns-clause-object_programs : goal.returns-clause-object_programs
returns-clause-object_programs c = programs_know_literals

pub returns-clause-selves : goal.returns-clause-selves
returns-clause-selves c = selves_fit

pub returns-clause-self_programs : goal.returns-clause-self_programs
returns-clause-self_programs c = programs_know_classes
