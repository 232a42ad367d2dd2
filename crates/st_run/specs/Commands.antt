-- What the program is to do for its words and for the bytes of its input.
use Rattle.std.specs.Prelude.{◌≡◌, ℕ, List, [], ◌++◌, Option, None, Some, IfSome, length}
use Rattle.st_base.specs.declared.faults.Place.{Place}
use Rattle.st_tree.specs.declared.units.Unit as unit
use Rattle.sif_elements.specs.Answered.{LeavesOpen}
use Rattle.sif_elements.specs.Reading.{Answer, Read, Refuse}
use Rattle.sif_elements.specs.Steps.{reading}
use Rattle.st_checks.specs.StaticRules.{Break, first_break, MeetsRules}
use Rattle.st_words.specs.declared.command.Task.{Task}
use Rattle.st_words.specs.declared.command.Task.TheVariants as task
use Rattle.st_words.specs.declared.command.Command.{Command}
use Rattle.st_gen.specs.Generated.{generated}
use Rattle.st_trace.specs.Answering.{LeavesAuditOpen}
use Rattle.st_trace.specs.Bytes.{Audits}
use Rattle.st_trace.specs.declared.auditing.AuditAnswer.TheVariants as audit
use Rattle.st_run.specs.declared.status.Status.{Status}
use Rattle.st_run.specs.Outcomes.{Outcome, refused, usage, OfAudit, OfTask, DoneBy}

abbrev pub place_at : ℕ → ℕ → Place
place_at element byte = record { element = element; byte = byte }

-- a program is refused at the first break of the static rules
abbrev pub OfRules : Command → List unit.Unit → (bytes : ℕ) → Option Break → Outcome → Type 0
OfRules c us bytes None o = OfTask c.task c us bytes o
OfRules c us bytes (Some b) o = o ≡ refused b.place b.reason

-- a file of so many bytes is read, and refused at its first faulty element; then the static rules are tried
abbrev pub OfAnswer : Command → (bytes : ℕ) → Answer → Outcome → Type 0
OfAnswer c bytes (Refuse element byte why) o = o ≡ refused (place_at element byte) why
OfAnswer c bytes (Read us) o = OfRules c us bytes (first_break us) o

-- what stands behind the input: for `gen` the generated lines, and else nothing
abbrev pub behind_of : Task → Command → List ℕ
behind_of task.Gen c = generated c.seed c.size
behind_of _ c = []

abbrev pub behind : Command → List ℕ
behind c = behind_of c.task c

-- the file that a command reads
abbrev pub file_of : Command → List ℕ → List ℕ
file_of c bytes = bytes ++ behind c

-- what an input comes to: `audit` reads a trace, and each other command a file
abbrev pub OfInput : Task → Command → List ℕ → Outcome → Type 0
OfInput task.Audit c bytes o = OfAudit bytes o
OfInput _ c bytes o = OfAnswer c (length (file_of c bytes)) (reading (file_of c bytes)) o

-- what the program does for a command, or for words that are none, and an input
abbrev pub Does : Option Command → List ℕ → Outcome → Type 0
Does None bytes o = o ≡ usage
Does (Some c) bytes o = OfInput c.task c bytes o

-- for each command that reads, where its source tells its bytes, this holds of an outcome of it;
-- and for words that are no command
abbrev pub ForBytes : Option Command → Option (List ℕ) → (Outcome → Type 0) → Type 0
ForBytes None left P = (o : Outcome) × Does None [] o × P o
ForBytes (Some c) left P = IfSome left (λ bytes. (o : Outcome) × Does (Some c) bytes o × P o)

-- the words are a command, which reads its input
abbrev pub Reads : Option Command → Type 0
Reads None = ⊥
Reads (Some c) = Unit {0}

-- an input that the command takes
pub record IsValidFor (c : Command) (bytes : List ℕ) : Type 0 where
  pub units : List unit.Unit
  pub reads : reading (file_of c bytes) ≡ Read units
  pub meets : MeetsRules units

-- a trace that is disciplined
pub record IsValidTrace (bytes : List ℕ) : Type 0 where
  pub lines : ℕ
  pub audits : Audits bytes (audit.Disciplined lines)

abbrev pub IsValidBy : Task → Command → List ℕ → Type 0
IsValidBy task.Audit c bytes = IsValidTrace bytes
IsValidBy _ c bytes = IsValidFor c bytes

abbrev pub IsValid : Option Command → List ℕ → Type 0
IsValid None bytes = ⊥
IsValid (Some c) bytes = IsValidBy c.task c bytes

-- the bytes that were taken settle no refusal of the command
abbrev pub LeavesOpenBy : Task → List ℕ → Option (List ℕ) → Type 0
LeavesOpenBy task.Audit bytes now = LeavesAuditOpen bytes now
LeavesOpenBy _ bytes now = LeavesOpen bytes now

abbrev pub StaysOpen : Option Command → List ℕ → Option (List ℕ) → Type 0
StaysOpen None bytes now = ⊥
StaysOpen (Some c) bytes now = LeavesOpenBy c.task bytes now

-- it reads a file with a program
abbrev pub ReadsProgram : Task → Type 0
ReadsProgram task.Audit = ⊥
ReadsProgram _ = Unit {0}

-- the status of a command that is done with an input that it takes
abbrev pub DoneStatus : Option Command → Status → Type 0
DoneStatus None status = ⊥
DoneStatus (Some c) status = DoneBy c.task status

-- ---- the law

-- each command has an outcome for each input
abbrev pub SomeOutcome : Type 0
SomeOutcome = (command : Option Command) (bytes : List ℕ) → (o : Outcome) × Does command bytes o

-- and one only
abbrev pub OneOutcome : Type 0
OneOutcome =
    (command : Option Command) (bytes : List ℕ) (o o' : Outcome) → Does command bytes o → Does command bytes o' → o ≡ o'
