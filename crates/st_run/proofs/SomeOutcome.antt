-- Each command has an outcome for each input: each program has a run by the rules, and the flat machine makes it.
use Rattle.std.proofs.Common.{◌≡◌, ℕ, List, [], length, Option, None, Some, refl, sym, subst}
use Rattle.st_tree.specs.declared.units.Unit as unit
use Rattle.sif_elements.specs.Reading.{Answer, Read, Refuse}
use Rattle.sif_elements.specs.Steps.{reading}
use Rattle.st_checks.specs.StaticRules.{Break, first_break}
use Rattle.st_code.specs.Written.{named_units}
use Rattle.program_image.specs.Spelled.{names_in}
use Rattle.st_rules.specs.State.{State, StepLimit, DepthLimit, CellLimit, IntegerLimit}
use Rattle.st_rules.specs.Runs.{Ending, Done, Unhandled, AtLimit, Stuck, Runs}
use Rattle.st_rules.proofs.NeverStuck.{rules_never_stuck}
use Rattle.st_rules.proofs.SomeRun.{rules_end}
use Rattle.st_rules.proofs.SameRun.{flat_run_is_the_rules_run}
use Rattle.st_words.specs.declared.command.Command.{Command}
use Rattle.st_words.specs.declared.command.Task.{Task}
use Rattle.st_words.specs.declared.command.Task.TheVariants as task
use Rattle.st_answers.specs.Listing.{ok_line, listing}
use Rattle.sif_export.specs.ExportText.{export_text}
use Rattle.st_shake.specs.Shaken.{shaken}
use Rattle.st_code.specs.Program.{Program}
use Rattle.st_run.specs.declared.status.Status.{Status}
use Rattle.st_run.specs.declared.status.Status.TheVariants as final
use Rattle.st_run.specs.Statuses.{IsEnding}
use Rattle.st_run.specs.Outcomes.{Outcome, done, refused, usage, program_for, ending_status, transcript, trace_lines, summary, ended, audited, IsOfRun, OfTask, DoneBy}
use Rattle.st_trace.specs.Audit.{audit_of}
use Rattle.st_trace.proofs.Walking.{audits_each}
use Rattle.st_run.specs.Commands.{place_at, OfInput, OfRules, OfAnswer, SomeOutcome, file_of}

-- each run has a status, since none is stuck
pub has_status : (p : Program) (e : Ending) (st : State) → Runs p e st → (s : Status) × (ending_status e ≡ Some s)
has_status p Done st runs = (final.Done, refl)
has_status p (Unhandled exception) st runs = (final.Unhandled, refl)
has_status p (AtLimit StepLimit) st runs = (final.StepLimit, refl)
has_status p (AtLimit DepthLimit) st runs = (final.DepthLimit, refl)
has_status p (AtLimit CellLimit) st runs = (final.CellLimit, refl)
has_status p (AtLimit IntegerLimit) st runs = (final.IntegerLimit, refl)
has_status p Stuck st runs = absurd (rules_never_stuck p st runs)

pub some_of_run : (c : Command) (us : List unit.Unit) (output : Ending → State → List ℕ) → (o : Outcome) × IsOfRun c us output o
some_of_run c us output =
    let p = program_for c us in
    let r = rules_end p in
    let s = has_status p r.0 r.1 r.2 in
    let m = (flat_run_is_the_rules_run (names_in (named_units us)) (named_units us) (record { steps = c.limits.steps; depth = c.limits.depth; cells = c.limits.cells })).of_the_rules r.0 r.1 r.2 in (
      ended c us r.0 s.0 r.1 m.1 (output r.0 r.1),
      record {
        ending = r.0;
        state = r.1;
        instructions = m.1;
        status = s.0;
        run = record { by_the_rules = r.2; state = m.0; by_the_machine = m.2 };
        answered = s.1;
        outcome = refl;
      },
    )

pub some_of_task : (t : Task) (c : Command) (us : List unit.Unit) (bytes : ℕ) → (o : Outcome) × OfTask t c us bytes o
some_of_task task.Run c us bytes = some_of_run c us transcript
some_of_task task.Check c us bytes = (done (ok_line us), refl)
some_of_task task.List c us bytes = (done (listing us), refl)
some_of_task task.Export c us bytes = (done (export_text us), refl)
some_of_task task.Gen c us bytes = some_of_run c us (summary us bytes)
some_of_task task.Trace c us bytes = some_of_run c us trace_lines
some_of_task task.Audit c us bytes = (done [], refl)
some_of_task task.Shake c us bytes = (done (export_text (shaken us)), refl)

pub some_of_rules : (c : Command) (us : List unit.Unit) (bytes : ℕ) (b : Option Break) → (o : Outcome) × OfRules c us bytes b o
some_of_rules c us bytes None = some_of_task c.task c us bytes
some_of_rules c us bytes (Some b) = (refused b.place b.reason, refl)

some_of_answer : (c : Command) (bytes : ℕ) (a : Answer) → (o : Outcome) × OfAnswer c bytes a o
some_of_answer c bytes (Refuse element byte why) = (refused (place_at element byte) why, refl)
some_of_answer c bytes (Read us) = some_of_rules c us bytes (first_break us)

some_of_input : (t : Task) (c : Command) (bytes : List ℕ) → (o : Outcome) × OfInput t c bytes o
some_of_input task.Audit c bytes = (audited (audit_of bytes), record { answer = audit_of bytes; audits = audits_each bytes; outcome = refl })
some_of_input task.Run c bytes = some_of_answer c (length (file_of c bytes)) (reading (file_of c bytes))
some_of_input task.Check c bytes = some_of_answer c (length (file_of c bytes)) (reading (file_of c bytes))
some_of_input task.List c bytes = some_of_answer c (length (file_of c bytes)) (reading (file_of c bytes))
some_of_input task.Export c bytes = some_of_answer c (length (file_of c bytes)) (reading (file_of c bytes))
some_of_input task.Gen c bytes = some_of_answer c (length (file_of c bytes)) (reading (file_of c bytes))
some_of_input task.Trace c bytes = some_of_answer c (length (file_of c bytes)) (reading (file_of c bytes))
some_of_input task.Shake c bytes = some_of_answer c (length (file_of c bytes)) (reading (file_of c bytes))

pub some_outcome : SomeOutcome
some_outcome None bytes = (usage, refl)
some_outcome (Some c) bytes = some_of_input c.task c bytes

-- ---- statuses

same_status : (s t : Status) → Some s ≡ Some t → s ≡ t
same_status s t is = cc

ending_is : (e : Ending) (s : Status) → ending_status e ≡ Some s → IsEnding s
ending_is Done s is = subst IsEnding (same_status final.Done s is) tt
ending_is (Unhandled v) s is = subst IsEnding (same_status final.Unhandled s is) tt
ending_is (AtLimit StepLimit) s is = subst IsEnding (same_status final.StepLimit s is) tt
ending_is (AtLimit DepthLimit) s is = subst IsEnding (same_status final.DepthLimit s is) tt
ending_is (AtLimit CellLimit) s is = subst IsEnding (same_status final.CellLimit s is) tt
ending_is (AtLimit IntegerLimit) s is = subst IsEnding (same_status final.IntegerLimit s is) tt
ending_is Stuck s is = cc

run_status : (c : Command) (us : List unit.Unit) (output : Ending → State → List ℕ) (o : Outcome) → IsOfRun c us output o → IsEnding o.status
run_status c us output o r = subst (λ (x : Outcome). IsEnding x.status) (sym r.outcome) (ending_is r.ending r.status r.answered)

pub of_task_status : (t : Task) (c : Command) (us : List unit.Unit) (bytes : ℕ) (o : Outcome) → OfTask t c us bytes o → DoneBy t o.status
of_task_status task.Run c us bytes o is = run_status c us transcript o is
of_task_status task.Check c us bytes o is = rw is refl
of_task_status task.List c us bytes o is = rw is refl
of_task_status task.Export c us bytes o is = rw is refl
of_task_status task.Gen c us bytes o is = run_status c us (summary us bytes) o is
of_task_status task.Trace c us bytes o is = run_status c us trace_lines o is
of_task_status task.Audit c us bytes o is = rw is refl
of_task_status task.Shake c us bytes o is = rw is refl
