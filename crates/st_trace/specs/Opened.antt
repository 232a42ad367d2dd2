-- An audit that has no answer yet: where it stands in its input, and what it will answer.
use Rattle.std.specs.Prelude.{◌≡◌, ◌<◌, ℕ, ◌+◌, Bool, true, false, List, [], ◌++◌, take, Option, Some, None, IfSome}
use Rattle.std.specs.Io.KnownBytes.{prepend_known}
use Rattle.st_base.specs.Streams.{Rose}
use Rattle.st_code.specs.Texts.{Text}
use Rattle.st_trace.specs.Automaton.{Auditor, first_auditor}
use Rattle.st_trace.specs.Bytes.{most_bytes}
use Rattle.st_trace.specs.Audit.{Standing, Going, Stopped, audit_from}
use Rattle.st_trace.specs.declared.auditing.AuditAnswer.{AuditAnswer}
use Rattle.st_trace.specs.declared.auditing.AuditAnswer.TheVariants as answer

-- what the lines before came to, the number of the next line, how many bytes may still come, and the first bytes of the next line
pub record Place : Type 0 where
  pub standing : Standing
  pub line : ℕ
  pub room : ℕ
  pub so_far : Text

abbrev pub place : Standing → (line room : ℕ) → Text → Place
place standing line room so_far = record { standing = standing; line = line; room = room; so_far = so_far }

abbrev pub standing_of : (has_stopped : Bool) → Auditor → Standing
standing_of true a = Stopped
standing_of false a = Going a

-- before any byte
abbrev pub first_place : Place
first_place = place (Going first_auditor) 1 most_bytes []

-- so many bytes of a line are kept: one more than the longest line has before its byte 10
abbrev pub kept : Text → Text
kept bytes = take 49 bytes

-- the answer at this place, where these bytes are still to come
unfoldable pub answer_at : Place → Text → AuditAnswer
answer_at p rest = audit_from rest p.standing p.line p.room p.so_far

-- these bytes lead from place to place, or to a refusal, whatever comes behind them; for want of memory nothing is known
abbrev pub Judges : Place → Text → Option AuditAnswer → Place → Type 0
Judges old bytes None new = (rest : Text) → answer_at old (bytes ++ rest) ≡ answer_at new rest
Judges old bytes (Some (answer.Disciplined n)) new = ⊥
Judges old bytes (Some (answer.Refused n why)) new = (rest : Text) → answer_at old (bytes ++ rest) ≡ answer.Refused n why
Judges old bytes (Some answer.ReadFault) new = ⊥
Judges old bytes (Some answer.OutOfMemory) new = Unit {0}

-- what was taken of a source leads from place to place
pub record Moves (old : Place) (left : Option Text) (new : Place) (now : Option Text) : Type 0 where
  pub taken : Text
  pub front : left ≡ prepend_known taken now
  pub same : (rest : Text) → answer_at old (taken ++ rest) ≡ answer_at new rest

-- an answer on what a source gives: for `Disciplined` it gave all; a fault leaves all as the bytes before it have left it
abbrev pub Answers : Place → Option Text → AuditAnswer → Place → Option Text → Type 0
Answers old left (answer.Disciplined n) new now = IfSome left (λ bytes. answer_at old bytes ≡ answer.Disciplined n) × IfSome now (λ bytes. bytes ≡ [])
Answers old left (answer.Refused n why) new now = IfSome left (λ bytes. answer_at old bytes ≡ answer.Refused n why)
Answers old left answer.ReadFault new now = Moves old left new now
Answers old left answer.OutOfMemory new now = Unit {0}

-- a turn goes on, or answers
abbrev pub Turns : Place → Option Text → Option AuditAnswer → Place → Option Text → Type 0
Turns old left None new now = Moves old left new now × (new.room < old.room)
Turns old left (Some a) new now = Answers old left a new now

-- what an audit of what a source gives concludes, which begins before any byte
pub record Concludes (left : Option Text) (a : AuditAnswer) (now : Option Text) : Type 0 where
  pub place : Place
  pub answers : Answers first_place left a place now

-- a count of faults rose where the source failed, and else stands
abbrev pub Causes : Option AuditAnswer → (faults faults' : ℕ) → Type 0
Causes (Some answer.ReadFault) f f' = Rose f f'
Causes _ f f' = f' ≡ f
