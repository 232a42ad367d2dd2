-- What a command makes of a program: what is to be written to the output and to the report, and the status.
use Rattle.std.specs.Prelude.{◌≡◌, ℕ, List, [], ◌++◌, length, Option, Some, None}
use Rattle.st_base.specs.declared.faults.Place.{Place}
use Rattle.st_base.specs.declared.faults.Reason.{Reason}
use Rattle.st_tree.specs.declared.units.Unit as unit
use Rattle.st_code.specs.Program.{Program}
use Rattle.st_code.specs.Definitions.{program_of}
use Rattle.st_code.specs.Written.{named_units}
use Rattle.program_image.specs.Spelled.{names_in}
use Rattle.st_rules.specs.State.{State, StepLimit, DepthLimit, CellLimit, IntegerLimit}
use Rattle.st_rules.specs.Runs.{Ending, Done, Unhandled, AtLimit, Stuck, Runs}
use Rattle.st_rules.specs.Turns.{MachineRuns}
use Rattle.st_rules.specs.Flattened.{flat_of}
use Rattle.st_words.specs.declared.command.Task.{Task}
use Rattle.st_words.specs.declared.command.Task.TheVariants as task
use Rattle.st_words.specs.declared.command.Command.{Command}
use Rattle.st_answers.specs.Listing.{ok_line, listing}
use Rattle.st_gen.specs.Generated.{gen_line}
use Rattle.sif_export.specs.ExportText.{export_text}
use Rattle.st_shake.specs.Shaken.{shaken}
use Rattle.st_trace.specs.Bytes.{Audits, text_of}
use Rattle.st_trace.specs.Told.{trace_of, word_of}
use Rattle.st_trace.specs.declared.auditing.AuditAnswer.{AuditAnswer}
use Rattle.st_trace.specs.declared.auditing.AuditAnswer.TheVariants as audit
use Rattle.st_run.specs.declared.status.Status.{Status}
use Rattle.st_run.specs.declared.status.Status.TheVariants as final
use Rattle.st_run.specs.Statuses.{IsEnding}
use Rattle.st_run.specs.Reports.{refused_line, usage_line, stats_if, ending_line, audit_line, disciplined_line}

pub record Outcome : Type 0 where
  pub output : List ℕ
  pub report : List ℕ
  pub status : Status

abbrev pub done : List ℕ → Outcome
done output = record { output = output; report = []; status = final.Done }

abbrev pub refused : Place → Reason → Outcome
refused place why = record { output = []; report = refused_line place why; status = final.Refused }

abbrev pub usage : Outcome
usage = record { output = []; report = usage_line; status = final.Usage }

-- ---- a run

-- the program that units are, with the limits of the command
abbrev pub program_for : Command → List unit.Unit → Program
program_for c us =
    program_of (names_in (named_units us)) (named_units us)
    (record { steps = c.limits.steps; depth = c.limits.depth; cells = c.limits.cells })

-- what is answered of an ending; no run is stuck
abbrev pub ending_status : Ending → Option Status
ending_status Done = Some final.Done
ending_status (Unhandled exception) = Some final.Unhandled
ending_status (AtLimit StepLimit) = Some final.StepLimit
ending_status (AtLimit DepthLimit) = Some final.DepthLimit
ending_status (AtLimit CellLimit) = Some final.CellLimit
ending_status (AtLimit IntegerLimit) = Some final.IntegerLimit
ending_status Stuck = None

-- `run` writes the Transcript
abbrev pub transcript : Ending → State → List ℕ
transcript e st = st.transcript

-- `trace` writes the lines of its events, and of how it stopped
abbrev pub trace_lines : Ending → State → List ℕ
trace_lines e st = text_of (trace_of st.events (word_of e))

-- `gen` writes a line of a run that is done, and nothing of any other
abbrev pub line_of : (units bytes transcript steps : ℕ) → Ending → List ℕ
line_of units bytes transcript steps Done = gen_line units bytes transcript steps
line_of units bytes transcript steps e = []

abbrev pub summary : List unit.Unit → (bytes : ℕ) → Ending → State → List ℕ
summary us bytes e st = line_of (length us) bytes (length st.transcript) st.steps e

-- the statistics of a run where they are asked for, and the line of its ending
abbrev pub run_report : Command → List unit.Unit → Ending → State → (instructions : ℕ) → List ℕ
run_report c us e st instructions =
    stats_if c.stats st.steps st.depth st.cells instructions ++ ending_line (program_for c us) c.limits st.store e

-- what comes of a run that ended so, in this state and after so many instructions
abbrev pub ended : Command → List unit.Unit → Ending → Status → State → (instructions : ℕ) → (output : List ℕ) → Outcome
ended c us e status st instructions output =
    record { output = output; report = run_report c us e st instructions; status = status }

-- by the rules the program's run ends so in this state, and by the flat machine on its code after so many instructions
pub record RunEnds (p : Program) (e : Ending) (st : State) (instructions : ℕ) : Type 0 where
  pub by_the_rules : Runs p e st
  pub state : State
  pub by_the_machine : MachineRuns (flat_of p) p e state instructions

-- the outcome is that of the program's run, of which this is written
pub record IsOfRun (c : Command) (us : List unit.Unit) (output : Ending → State → List ℕ) (o : Outcome) : Type 0 where
  pub ending : Ending
  pub state : State
  pub instructions : ℕ
  pub status : Status
  pub run : RunEnds (program_for c us) ending state instructions
  pub answered : ending_status ending ≡ Some status
  pub outcome : o ≡ ended c us ending status state instructions (output ending state)

-- ---- a trace

abbrev pub audited : AuditAnswer → Outcome
audited (audit.Disciplined lines) = done (disciplined_line lines)
audited (audit.Refused line why) = record { output = []; report = audit_line line why; status = final.Undisciplined }
audited audit.ReadFault = done []
audited audit.OutOfMemory = done []

-- what the audit of these bytes comes to
pub record OfAudit (bytes : List ℕ) (o : Outcome) : Type 0 where
  pub answer : AuditAnswer
  pub audits : Audits bytes answer
  pub outcome : o ≡ audited answer

-- ---- a task

-- what a command makes of the units of a file of so many bytes
abbrev pub OfTask : Task → Command → List unit.Unit → (bytes : ℕ) → Outcome → Type 0
OfTask task.Run c us bytes o = IsOfRun c us transcript o
OfTask task.Check c us bytes o = o ≡ done (ok_line us)
OfTask task.List c us bytes o = o ≡ done (listing us)
OfTask task.Export c us bytes o = o ≡ done (export_text us)
OfTask task.Gen c us bytes o = IsOfRun c us (summary us bytes) o
OfTask task.Trace c us bytes o = IsOfRun c us trace_lines o
-- `audit` is asked of no program
OfTask task.Audit c us bytes o = o ≡ done []
OfTask task.Shake c us bytes o = o ≡ done (export_text (shaken us))

-- the status of a task that is done with a program: of a run by its ending
abbrev pub DoneBy : Task → Status → Type 0
DoneBy task.Run status = IsEnding status
DoneBy task.Gen status = IsEnding status
DoneBy task.Trace status = IsEnding status
DoneBy _ status = status ≡ final.Done
