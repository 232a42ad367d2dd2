-- Each trace is the trace of its program's run by the rules, which is disciplined.
use Rattle.std.proofs.Common.{◌≡◌, ℕ, List, length, Option, None, Some, ap, subst}
use Rattle.st_base.specs.declared.faults.Place.{Place}
use Rattle.st_base.specs.declared.faults.Reason.{Reason}
use Rattle.st_tree.specs.declared.units.Unit as unit
use Rattle.sif_elements.specs.Reading.{Answer, Read, Refuse}
use Rattle.sif_elements.specs.Steps.{reading}
use Rattle.st_checks.specs.StaticRules.{Break, first_break}
use Rattle.st_words.specs.declared.command.Command.{Command}
use Rattle.st_words.specs.declared.command.Task.{Task}
use Rattle.st_words.specs.declared.command.Task.TheVariants as task
use Rattle.st_trace.specs.Told.{trace_of, word_of}
use Rattle.law_discipline.proofs.Disciplining.{runs_are_disciplined}
use Rattle.st_run.specs.Statuses.{IsEnding}
use Rattle.st_run.specs.Outcomes.{Outcome, refused, program_for, trace_lines, IsOfRun, OfTask}
use Rattle.st_run.specs.Commands.{OfAnswer, OfInput, OfRules, file_of}
use Rattle.law_traces.specs.Traces.{DisciplinedText, TracesAreDisciplined}

no_refusal : (place : Place) (why : Reason) (o : Outcome) → o ≡ refused place why → IsEnding o.status → ⊥
no_refusal place why o is at = subst (λ (x : Outcome). IsEnding x.status) is at

of_run : (c : Command) (us : List unit.Unit) (o : Outcome) → IsOfRun c us trace_lines o → DisciplinedText o.output
of_run c us o r = record {
  lines = trace_of r.state.events (word_of r.ending);
  disciplined = runs_are_disciplined (program_for c us) r.ending r.state r.run.by_the_rules;
  whole = ap (λ (x : Outcome). x.output) r.outcome;
}

of_rules : (c : Command) (us : List unit.Unit) (bytes : ℕ) (b : Option Break) (o : Outcome) → c.task ≡ task.Trace → OfRules c us bytes b o → IsEnding o.status → DisciplinedText o.output
of_rules c us bytes None o same is at = of_run c us o (subst (λ (t : Task). OfTask t c us bytes o) same is)
of_rules c us bytes (Some b) o same is at = absurd (no_refusal _ _ o is at)

of_answer : (c : Command) (bytes : ℕ) (a : Answer) (o : Outcome) → c.task ≡ task.Trace → OfAnswer c bytes a o → IsEnding o.status → DisciplinedText o.output
of_answer c bytes (Refuse element byte why) o same is at = absurd (no_refusal _ _ o is at)
of_answer c bytes (Read us) o same is at = of_rules c us bytes (first_break us) o same is at

pub traces_are_disciplined : TracesAreDisciplined
traces_are_disciplined c bytes o same is at = of_answer c (length (file_of c bytes)) (reading (file_of c bytes)) o same (subst (λ (t : Task). OfInput t c bytes o) same is) at
