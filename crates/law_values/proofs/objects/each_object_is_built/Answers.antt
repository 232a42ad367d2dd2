-- Why the objects of each state are built.
use Rattle.law_values.proofs.objects.each_object_is_built.Goals as goal
use Rattle.law_values.proofs.CheckedFiles.{checked_objects_are_built}
use Rattle.law_values.proofs.BuiltRun.{objects_are_built}
use Rattle.law_values.proofs.KnownPrograms.{programs_know_built}

pub returns-clause-runs : goal.returns-clause-runs
returns-clause-runs c = objects_are_built

pub returns-clause-programs : goal.returns-clause-programs
returns-clause-programs c = programs_know_built

pub returns-clause-files : goal.returns-clause-files
returns-clause-files c = checked_objects_are_built
