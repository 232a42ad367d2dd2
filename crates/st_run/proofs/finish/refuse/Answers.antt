use Rattle.std.proofs.Common.{refl, ◌∙◌}
use Rattle.st_run.proofs.CallLemmas.{tells}
use Rattle.st_run.proofs.finish.refuse.Goals as goal

pub returns-in-Ok : goal.returns-in-Ok
returns-in-Ok g c = λ out same. tells _ out _ _ same _ (c.as_slice.ensures.value ∙ c.in-Ok.ensures) refl tt (λ is. cc) c.tell.ensures.told c.tell.ensures.part

pub returns-in-Err : goal.returns-in-Err
returns-in-Err g c = λ out same. c.report_want_of_memory.ensures.finishes _ out same
