use Rattle.std.proofs.Common.{refl}
use Rattle.st_run.proofs.CallLemmas.{tells}
use Rattle.st_run.proofs.finish.report_usage.Goals as goal

pub returns : goal.returns
returns g c = λ out same. tells _ out _ _ same _ refl refl tt (λ is. cc) c.tell.ensures.told c.tell.ensures.part
