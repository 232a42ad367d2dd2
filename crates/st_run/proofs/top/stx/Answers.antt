-- What is claimed of the call, by how it ended.
use Rattle.st_run.proofs.CallLemmas.{claimed}
use Rattle.st_run.proofs.top.stx.Goals as goal

pub returns : goal.returns
returns g c = claimed _ c.call.ensures
