-- Why every unwinding finds its target: the laws of AimedMachine.antt and AimedRun.antt.
use Rattle.st_rules.proofs.unwindings.every_unwinding_finds_its_target.Goals as goal
use Rattle.st_rules.proofs.Watched.{rules_targets_stand}
use Rattle.st_rules.proofs.AimedRun.{scoped_targets_stand, flat_targets_stand}

pub returns-clause-rules : goal.returns-clause-rules
returns-clause-rules c = rules_targets_stand

pub returns-clause-scoped : goal.returns-clause-scoped
returns-clause-scoped c = scoped_targets_stand

pub returns-clause-flat : goal.returns-clause-flat
returns-clause-flat c = flat_targets_stand
