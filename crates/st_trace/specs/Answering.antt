-- What an audit of a source answers.
use Rattle.std.specs.Prelude.{◌≡◌, ℕ, List, [], ◌++◌, Option, Some, IfSome}
use Rattle.std.specs.Io.KnownBytes.{prepend_known}
use Rattle.st_code.specs.Texts.{Text}
use Rattle.st_trace.specs.Bytes.{Audits}
use Rattle.st_trace.specs.declared.auditing.AuditAnswer.{AuditAnswer}
use Rattle.st_trace.specs.declared.auditing.AuditAnswer.TheVariants as answer
use Rattle.st_trace.specs.declared.auditing.AuditReason.{AuditReason}

-- a judgement of these bytes is that of their audit
abbrev pub Judged : Text → AuditAnswer → Type 0
Judged input (answer.Disciplined n) = Audits input (answer.Disciplined n)
Judged input (answer.Refused n why) = Audits input (answer.Refused n why)
Judged input answer.ReadFault = Unit {0}
Judged input answer.OutOfMemory = Unit {0}

-- these bytes settle a refusal: whatever comes behind them, it is the audit's answer
abbrev pub Settles : Text → (line : ℕ) → AuditReason → Type 0
Settles taken line why = (rest : Text) → Audits (taken ++ rest) (answer.Refused line why)

-- the bytes that were taken are the input's first, and settle no refusal
pub record LeavesAuditOpen (input : Text) (now : Option Text) : Type 0 where
  pub taken : Text
  pub front : Some input ≡ prepend_known taken now
  pub unsettled : (line : ℕ) (why : AuditReason) → Settles taken line why → ⊥

abbrev pub IfDisciplined : AuditAnswer → Type 0 → Type 0
IfDisciplined (answer.Disciplined n) P = P
IfDisciplined _ P = Unit {0}

abbrev pub IfFault : AuditAnswer → Type 0 → Type 0
IfFault answer.ReadFault P = P
IfFault _ P = Unit {0}

abbrev pub UnlessFault : AuditAnswer → Type 0 → Type 0
UnlessFault answer.ReadFault P = Unit {0}
UnlessFault _ P = P
