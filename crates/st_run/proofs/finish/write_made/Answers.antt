-- The text is written, or memory was wanted for it.
use Rattle.std.proofs.Common.{refl, ◌∙◌}
use Rattle.st_run.specs.Outcomes.{done}
use Rattle.st_run.proofs.CallLemmas.{made_text}
use Rattle.st_run.proofs.finish.write_made.Goals as goal

pub returns-in-Ok : goal.returns-in-Ok
returns-in-Ok g c = λ text is. made_text text _ _ _ _ (c.as_slice.ensures.value ∙ (rw c.in-Ok.is at is)) (c.write_out.ensures _ refl)

pub returns-in-Err : goal.returns-in-Err
returns-in-Err g c = λ text is. c.report_want_of_memory.ensures.finishes (done text) _ refl
