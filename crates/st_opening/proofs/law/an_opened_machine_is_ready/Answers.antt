use Rattle.st_opening.proofs.Readiness.{is_opened}
use Rattle.st_opening.proofs.law.an_opened_machine_is_ready.Goals as goal

pub returns : goal.returns
returns c = λ units limits. is_opened units limits
