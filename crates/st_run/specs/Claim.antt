-- The claim of the program: `stx` ensures `Claimed` of each call, whatever its source and its sinks are.
use Rattle.std.specs.Prelude.{◌≡◌, ◌≢◌, ◌⊎◌, ℕ, List, [], Option, IfSome}
use Rattle.st_words.specs.CommandLine.{command_of}
use Rattle.st_words.specs.declared.command.Command.{Command}
use Rattle.st_run.specs.declared.status.Status.{Status}
use Rattle.st_run.specs.declared.status.Status.TheVariants.{ReadFault, WriteFault, OutOfMemory}
use Rattle.st_run.specs.Statuses.{IsAnswer, IsEnding}
use Rattle.st_run.specs.Devices.{Device, Fails, Keeps, Gained, GainedPart}
use Rattle.st_run.specs.Reports.{read_fault_line, memory_line}
use Rattle.st_run.specs.Outcomes.{Outcome}
use Rattle.st_run.specs.Commands.{ForBytes, Reads, StaysOpen, IsValid, DoneStatus}

-- a call of the program: its words, what it did to each device, and its status
pub record Call : Type 0 where
  pub words : List (List ℕ)
  pub source : Device
  pub out : Device
  pub report : Device
  pub status : Status

abbrev pub command : Call → Option Command
command c = command_of c.words

-- the output and the report of an outcome were written, and its status answered
pub record IsDone (c : Call) (outcome : Outcome) : Type 0 where
  pub wrote : Gained c.out outcome.output
  pub told : Gained c.report outcome.report
  pub answered : c.status ≡ outcome.status

-- a line was reported, and nothing else was written
pub record IsReported (c : Call) (line : List ℕ) : Type 0 where
  pub wrote : Keeps c.out
  pub told : Gained c.report line

-- where a write stopped: in the output, in the outcome's lines, or in the line of a read fault or want of memory
pub data StopsIn (c : Call) (outcome : Outcome) : Type 0 where
  in_output : Fails c.out → GainedPart c.out outcome.output → Keeps c.report → StopsIn c outcome
  in_report : Fails c.report → Gained c.out outcome.output → GainedPart c.report outcome.report → StopsIn c outcome
  in_fault : Fails c.source → Fails c.report → Keeps c.out → GainedPart c.report read_fault_line → StopsIn c outcome
  in_want : Fails c.report → Keeps c.out → GainedPart c.report memory_line → StopsIn c outcome

abbrev pub NoneFails : Call → Type 0
NoneFails c = (¬ Fails c.source) × (¬ Fails c.out) × (¬ Fails c.report)

pub record Claimed (c : Call) : Type 0 where
  -- where the status is of no fault and no want of memory, output, report and status are those of the command
  pub done : IsAnswer c.status → ForBytes (command c) c.source.before (IsDone c)
  pub read_to_end : IsEnding c.status → IfSome c.source.after (λ bytes. bytes ≡ [])
  -- a read fault: a command read, the source failed, and what it gave before settles no refusal
  pub read_fault : c.status ≡ ReadFault → IsReported c read_fault_line
  pub read_cause : c.status ≡ ReadFault → Fails c.source × Reads (command c)
  pub read_open : c.status ≡ ReadFault → IfSome c.source.before (λ bytes. StaysOpen (command c) bytes c.source.after)
  -- a write fault: the output or the report failed, and holds a prefix of what was to be written
  pub write_fault : c.status ≡ WriteFault → ForBytes (command c) c.source.before (StopsIn c)
  pub write_cause : c.status ≡ WriteFault → Fails c.out ⊎ Fails c.report
  pub want : c.status ≡ OutOfMemory → IsReported c memory_line
  -- where no device fails the command is done, or memory is wanted; and a valid input ends as its task does
  pub complete : NoneFails c → c.status ≢ OutOfMemory → ForBytes (command c) c.source.before (IsDone c)
  pub valid : NoneFails c → c.status ≢ OutOfMemory → Reads (command c)
      → IfSome c.source.before (λ bytes. IsValid (command c) bytes → DoneStatus (command c) c.status)
