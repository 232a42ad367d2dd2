-- A run that ends, and one whose Transcript memory can't hold.
use Rattle.std.proofs.Common.{refl, ap}
use Rattle.st_gen.specs.Page.{Page}
use Rattle.st_run.specs.Outcomes.{summary, IsOfRun}
use Rattle.st_run.proofs.CallLemmas.{wanted_by}
use Rattle.st_run.proofs.RunLemmas.{has_ended}
use Rattle.st_run.proofs.SomeOutcome.{some_of_run}
use Rattle.st_run.proofs.generating.run_kept.Goals as goal

pub returns-in-Ok : goal.returns-in-Ok
returns-in-Ok g c = λ units size same. c.summarize.ensures units size (has_ended c.args.command units _ _ c.in-Ok.ending _ _ _ same (ap (λ (k : Page). k.bytes) c.new-kept.ensures) c.in-Ok.ensures.ends c.count.ensures)

pub returns : goal.returns
returns g c = λ units size same. wanted_by (IsOfRun c.args.command units (summary units c.args.size.bytes)) _ _ _ (some_of_run c.args.command units (summary units c.args.size.bytes)) (λ o. c.report_want_of_memory.ensures.finishes o _ refl)
