-- An audit, byte by byte.
use Rattle.std.specs.Prelude.{◌≡◌, ℕ, zero, suc, ◌+◌, ◌-◌, true, false, [], ◌∷◌, ◌++◌, Option, Some, None, nat_eq, if◌then◌else◌}
use Rattle.st_code.specs.Texts.{Text}
use Rattle.st_trace.specs.Lines.{Line, Tells, Stops}
use Rattle.st_trace.specs.Automaton.{Auditor, first_auditor, accepts, may_stop}
use Rattle.st_trace.specs.Bytes.{most_bytes, Audits}
use Rattle.st_trace.specs.declared.auditing.AuditAnswer.{AuditAnswer}
use Rattle.st_trace.specs.declared.auditing.AuditAnswer.TheVariants as answer
use Rattle.st_trace.specs.declared.auditing.AuditReason.TheVariants as reason
use Rattle.st_trace.specs.Reading.{read_line}

-- no stop came yet, or one came
pub data Standing : Type 0 where
  Going : Auditor → Standing
  Stopped : Standing

abbrev pub going : Option Auditor → Option Standing
going None = None
going (Some a) = Some (Going a)

abbrev pub next_of : Standing → Line → Option Standing
next_of (Going a) (Tells e) = going (accepts e a)
next_of (Going a) (Stops w) = if may_stop w a then Some Stopped else None
next_of Stopped l = None

-- the input is over behind whole lines, and perhaps some bytes
abbrev pub at_end : Standing → (line : ℕ) → Text → AuditAnswer
at_end s line (c ∷ cs) = answer.Refused line reason.Line
at_end Stopped line [] = answer.Disciplined (line - 1)
at_end (Going a) line [] = answer.Refused line reason.Missing

-- behind these lines, with this line's number, room for so many bytes and these bytes of the line
abbrev pub audit_from : Text → Standing → (line room : ℕ) → Text → AuditAnswer
audit_from [] s line room so_far = at_end s line so_far
audit_from (c ∷ cs) s line room so_far =
    elim room [
      | zero ↦ answer.Refused line reason.InputTooLong
      | suc left ↦ elim (nat_eq c 10) [
        | false ↦ audit_from cs s line left (so_far ++ c ∷ [])
        | true ↦ elim (read_line so_far) [
          | None ↦ answer.Refused line reason.Line
          | Some l ↦ elim (next_of s l) [ None ↦ answer.Refused line reason.Order | Some s' ↦ audit_from cs s' (line + 1) left [] ]
        ]
      ]
    ]

unfoldable pub audit_of : Text → AuditAnswer
audit_of input = audit_from input (Going first_auditor) 1 most_bytes []

-- the audit answers as it is to, for each input
abbrev pub AuditsEach : Type 0
AuditsEach = (input : Text) → Audits input (audit_of input)

-- and no other answer is one
abbrev pub AuditsOnce : Type 0
AuditsOnce = (input : Text) (a : AuditAnswer) → Audits input a → a ≡ audit_of input
