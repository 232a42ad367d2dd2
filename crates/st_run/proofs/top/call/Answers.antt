-- Words that are no command, and want of memory.
use Rattle.std.proofs.Common.{refl, sym, ◌∙◌}
use Rattle.st_run.proofs.CallLemmas.{usage_calls, want_calls}
use Rattle.st_run.proofs.top.call.Goals as goal

pub returns-in-Ok-None : goal.returns-in-Ok-None
returns-in-Ok-None g c = usage_calls _ _ _ _ _ (sym c.in-Ok-None.ensures.command ∙ c.in-Ok-None.field-0-is) (c.report_usage.ensures _ refl)

pub returns-in-Err : goal.returns-in-Err
returns-in-Err g c = want_calls _ _ _ _ _ c.report_want_of_memory.ensures.status (λ o. c.report_want_of_memory.ensures.finishes o _ refl)
