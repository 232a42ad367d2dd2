-- A machine that was opened is at the beginning of the program's run.
use Rattle.std.proofs.Common.{refl, ap, subst, sym}
use Rattle.st_machine.specs.Plans.{program_in}
use Rattle.st_machine.specs.Seen.{Seen}
use Rattle.st_runner.specs.Firsts.{IsFirst}
use Rattle.st_runner.proofs.Firsts.{opens-first}
use Rattle.st_run.specs.Outcomes.{trace_lines, IsOfRun}
use Rattle.st_run.proofs.CallLemmas.{wanted_by}
use Rattle.st_run.proofs.SomeOutcome.{some_of_run}
use Rattle.st_run.proofs.tracing.trace.Goals as goal

pub returns-in-Ok : goal.returns-in-Ok
returns-in-Ok g c = c.trace_machine.ensures c.args.definition.units (ap (λ (m : Seen). program_in m.plan) c.in-Ok.ensures.opened)

pub returns-in-Err : goal.returns-in-Err
returns-in-Err g c = wanted_by (IsOfRun c.args.command c.args.definition.units trace_lines) _ _ _ (some_of_run c.args.command c.args.definition.units trace_lines) (λ o. c.report_want_of_memory.ensures.finishes o _ refl)

pub trace_machine-requires : goal.trace_machine-requires
trace_machine-requires g c = subst (λ (m : Seen). IsFirst m) (sym c.in-Ok.ensures.opened) (opens-first c.args.definition.units c.args.command.limits c.requires.readable c.requires.meets c.requires.few c.requires.bounds.steps c.in-Ok.ensures.few c.in-Ok.ensures.room)
