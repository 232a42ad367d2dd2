-- Memory was wanted for the generated lines.
use Rattle.std.proofs.Common.{refl}
use Rattle.st_run.proofs.CallLemmas.{want_calls}
use Rattle.st_run.proofs.top.obey_on_program.Goals as goal

pub returns-in-Err : goal.returns-in-Err
returns-in-Err g c = want_calls _ _ _ _ _ c.report_want_of_memory.ensures.status (λ o. c.report_want_of_memory.ensures.finishes o _ refl)
