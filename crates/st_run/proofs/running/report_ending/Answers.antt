-- The status of a run is none of a fault.
use Rattle.std.proofs.Common.{subst}
use Rattle.st_run.specs.Statuses.{IsEnding}
use Rattle.st_run.proofs.running.report_ending.Goals as goal

pub returns-in-Ok-clause-part : goal.returns-in-Ok-clause-part
returns-in-Ok-clause-part g c = λ fault. absurd (subst IsEnding fault c.status_of.ensures.ending)
