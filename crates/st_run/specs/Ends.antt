-- How a call comes to its end, as the functions have it of which `stx` is made.
use Rattle.std.specs.Prelude.{◌≡◌, ◌⊎◌, ℕ, List, [], Option, Some, None, IfSome}
use Rattle.st_words.specs.declared.command.Command.{Command}
use Rattle.st_run.specs.declared.status.Status.{Status}
use Rattle.st_run.specs.declared.status.Status.TheVariants.{ReadFault, WriteFault, OutOfMemory}
use Rattle.st_run.specs.Statuses.{IsAnswer, IsEnding}
use Rattle.st_run.specs.Devices.{Device, Fails, Keeps, Gained, GainedPart}
use Rattle.st_run.specs.Reports.{read_fault_line, memory_line}
use Rattle.st_run.specs.Outcomes.{Outcome}
use Rattle.st_run.specs.Commands.{Does, Reads, StaysOpen}

-- how a call ends that has an outcome to write: all of it is written, a write stops, or memory is wanted
pub data Finishes (outcome : Outcome) (out report : Device) (status : Status) : Type 0 where
  finished : Gained out outcome.output → Gained report outcome.report → status ≡ outcome.status → IsAnswer status
      → Finishes outcome out report status
  stops_in_output : status ≡ WriteFault → Fails out → GainedPart out outcome.output → Keeps report
      → Finishes outcome out report status
  stops_in_report : status ≡ WriteFault → Fails report → Gained out outcome.output → GainedPart report outcome.report
      → Finishes outcome out report status
  stops_in_want : status ≡ WriteFault → Fails report → Keeps out → GainedPart report memory_line
      → Finishes outcome out report status
  wants : status ≡ OutOfMemory → Keeps out → Gained report memory_line → Finishes outcome out report status

-- it ends so with one of these outcomes
pub record EndsBy (P : Outcome → Type 0) (out report : Device) (status : Status) : Type 0 where
  pub outcome : Outcome
  pub is : P outcome
  pub ends : Finishes outcome out report status

-- this is an outcome of the command, where the source tells its bytes
abbrev pub DoesTold : Option Command → Option (List ℕ) → Outcome → Type 0
DoesTold None left o = Does None [] o
DoesTold (Some c) left o = IfSome left (λ bytes. Does (Some c) bytes o)

-- How a call ends: with its outcome, whether its bytes are told or not; for want of memory; or with a read fault,
-- before which the bytes that were taken of the source settle no refusal.
pub data Calls (command : Option Command) (source out report : Device) (status : Status) : Type 0 where
  finishes : (outcome : Outcome) → Finishes outcome out report status → DoesTold command source.before outcome
      → (IsEnding status → IfSome source.after (λ bytes. bytes ≡ [])) → Calls command source out report status
  lacks : ((outcome : Outcome) → Finishes outcome out report status) → (status ≡ WriteFault) ⊎ (status ≡ OutOfMemory)
      → Calls command source out report status
  fails : status ≡ ReadFault → Keeps out → Gained report read_fault_line → Fails source → Reads command
      → IfSome source.before (λ bytes. StaysOpen command bytes source.after) → Calls command source out report status
  stops_in_fault : status ≡ WriteFault → Fails report → Fails source → Keeps out → GainedPart report read_fault_line
      → Reads command → Calls command source out report status
