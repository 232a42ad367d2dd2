-- Why a command has one outcome: the laws of SomeOutcome.antt and OneOutcome.antt.
use Rattle.st_run.proofs.SomeOutcome.{some_outcome}
use Rattle.st_run.proofs.OneOutcome.{one_outcome}
use Rattle.st_run.proofs.law.each_command_has_one_outcome.Goals as goal

pub returns-clause-some : goal.returns-clause-some
returns-clause-some c = some_outcome

pub returns-clause-one : goal.returns-clause-one
returns-clause-one c = one_outcome
