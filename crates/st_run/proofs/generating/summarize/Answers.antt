-- The line is made, or memory is wanted.
use Rattle.std.proofs.Common.{refl, ap, ◌∙◌}
use Rattle.st_machine.specs.Meaning.{ending_of}
use Rattle.st_run.specs.Outcomes.{line_of, summary, IsOfRun}
use Rattle.st_run.proofs.CallLemmas.{wanted_by}
use Rattle.st_run.proofs.SomeOutcome.{some_of_run}
use Rattle.st_run.proofs.generating.summarize.Goals as goal

pub returns-in-Ok : goal.returns-in-Ok
returns-in-Ok g c = λ units size ended. c.write_summary.ensures units c.args.size.bytes c.args.transcript ended (c.as_slice.ensures.value ∙ c.in-Ok.ensures ∙ ap (λ n. line_of n c.args.size.bytes c.args.transcript c.args.machine.now.steps (ending_of c.args.ending)) size)

pub returns-in-Err : goal.returns-in-Err
returns-in-Err g c = λ units size ended. wanted_by (IsOfRun c.args.command units (summary units c.args.size.bytes)) _ _ _ (some_of_run c.args.command units (summary units c.args.size.bytes)) (λ o. c.report_want_of_memory.ensures.finishes o _ refl)
