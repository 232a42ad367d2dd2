-- The bytes of lines, and what an audit of bytes answers.
use Rattle.std.specs.Prelude.{◌≡◌, ◌≢◌, ℕ, ◌+◌, ◌-◌, ◌≤◌, ◌<◌, ◌^◌, ◌⊎◌, Bool, true, false, List, [], ◌∷◌, ◌++◌, length, take, codes, decimal, nat_eq, if◌then◌else◌}
use Rattle.st_code.specs.Texts.{Text}
use Rattle.st_rules.specs.Events.{Event, Protect, Ensure, Curtail, Signal, Outer, Search, Tried, Handle, Default, Known, Action, Again, Ask, End}
use Rattle.st_trace.specs.Lines.{Line, Tells, Stops}
use Rattle.st_trace.specs.declared.line.StopWord.{StopWord}
use Rattle.st_trace.specs.declared.line.StopWord.TheVariants.{Done, Unhandled, Steps, Depth, Cells, Integer}
use Rattle.st_trace.specs.Disciplined.{Disciplined}
use Rattle.st_trace.specs.Auditing.{Stands}
use Rattle.st_trace.specs.declared.auditing.AuditAnswer.{AuditAnswer}
use Rattle.st_trace.specs.declared.auditing.AuditAnswer.TheVariants as answer
use Rattle.st_trace.specs.declared.auditing.AuditReason.TheVariants as reason

-- a word, and a number behind it
abbrev pub numbered : Text → ℕ → Text
numbered word n = word ++ (32 ∷ decimal n)

abbrev pub twice_numbered : Text → ℕ → ℕ → Text
twice_numbered word m n = word ++ (32 ∷ (decimal m ++ (32 ∷ decimal n)))

abbrev pub answer_word : Bool → Text
answer_word true = codes "yes"
answer_word false = codes "no"

abbrev pub end_word : Bool → Text
end_word true = codes "cut"
end_word false = codes "end"

abbrev pub event_text : Event → Text
event_text (Protect n) = numbered (codes "protect") n
event_text (Ensure n) = numbered (codes "ensure") n
event_text (Curtail n) = numbered (codes "curtail") n
event_text (Signal n) = numbered (codes "signal") n
event_text (Outer n) = numbered (codes "outer") n
event_text (Search n) = numbered (codes "search") n
event_text (Tried n fits) = codes "tried" ++ (32 ∷ (decimal n ++ (32 ∷ answer_word fits)))
event_text (Handle m n) = twice_numbered (codes "handle") m n
event_text (Default m) = numbered (codes "default") m
event_text Known = codes "known"
event_text (Action n) = numbered (codes "action") n
event_text (Again n) = numbered (codes "again") n
event_text (Ask w n) = twice_numbered (codes "ask") w n
event_text (End n cut) = numbered (end_word cut) n

abbrev pub stop_word : StopWord → Text
stop_word Done = codes "done"
stop_word Unhandled = codes "unhandled"
stop_word Steps = codes "steps"
stop_word Depth = codes "depth"
stop_word Cells = codes "cells"
stop_word Integer = codes "integer"

-- a line without its byte 10
abbrev pub line_body : Line → Text
line_body (Tells e) = event_text e
line_body (Stops w) = codes "stop" ++ (32 ∷ stop_word w)

abbrev pub line_text : Line → Text
line_text l = line_body l ++ 10 ∷ []

abbrev pub text_of : List Line → Text
text_of [] = []
text_of (l ∷ ls) = line_text l ++ text_of ls

-- its numbers are below 2^64
abbrev pub EventFits : Event → Type 0
EventFits (Protect n) = n < 2 ^ 64
EventFits (Ensure n) = n < 2 ^ 64
EventFits (Curtail n) = n < 2 ^ 64
EventFits (Signal n) = n < 2 ^ 64
EventFits (Outer n) = n < 2 ^ 64
EventFits (Search n) = n < 2 ^ 64
EventFits (Tried n fits) = n < 2 ^ 64
EventFits (Handle m n) = (m < 2 ^ 64) × (n < 2 ^ 64)
EventFits (Default m) = m < 2 ^ 64
EventFits Known = Unit {0}
EventFits (Action n) = n < 2 ^ 64
EventFits (Again n) = n < 2 ^ 64
EventFits (Ask w n) = (w < 2 ^ 64) × (n < 2 ^ 64)
EventFits (End n cut) = n < 2 ^ 64

abbrev pub LineFits : Line → Type 0
LineFits (Tells e) = EventFits e
LineFits (Stops w) = Unit {0}

abbrev pub AllFit : List Line → Type 0
AllFit [] = Unit {0}
AllFit (l ∷ ls) = LineFits l × AllFit ls

abbrev pub most_bytes : ℕ
most_bytes = 16777216

-- so many lines, whole ones within the most bytes, stand; these bytes come behind them
pub record Behind (input rest : Text) : Type 0 where
  pub lines : List Line
  pub fit : AllFit lines
  pub whole : input ≡ text_of lines ++ rest
  pub short : length (text_of lines) ≤ most_bytes
  pub stand : Stands lines

-- these bytes begin with this line
pub record NextLine (l : Line) (rest : Text) : Type 0 where
  pub fits : LineFits l
  pub others : Text
  pub whole : rest ≡ line_text l ++ others

-- no byte 10
abbrev pub no_end : Text → Bool
no_end [] = true
no_end (c ∷ cs) = if nat_eq c 10 then false else no_end cs

-- the next line ends within the most bytes
abbrev pub EndsWithin : List Line → Text → Type 0
EndsWithin lines rest = no_end (take (most_bytes - length (text_of lines)) rest) ≡ false

-- what an audit of these bytes answers
abbrev pub Audits : Text → AuditAnswer → Type 0
Audits input (answer.Disciplined n) = (lines : List Line) × AllFit lines × (input ≡ text_of lines) × (length input ≤ most_bytes) × Disciplined lines × (n ≡ length lines)
-- the next line is whole, and no such line may come
Audits input (answer.Refused n reason.Order) =
    (rest : Text) × (b : Behind input rest) × (l : Line) × (x : NextLine l rest) × (length (text_of b.lines) + length (line_text l) ≤ most_bytes) × (Stands (b.lines ++ l ∷ []) → ⊥) × (n ≡ length b.lines + 1)
-- the next line ends within the most bytes, or the input ends in it, and it is none
Audits input (answer.Refused n reason.Line) =
    (rest : Text) × (b : Behind input rest) × (rest ≢ []) × ((l : Line) → NextLine l rest → ⊥) × (EndsWithin b.lines rest ⊎ (length input ≤ most_bytes)) × (n ≡ length b.lines + 1)
Audits input (answer.Refused n reason.Missing) = (b : Behind input []) × (length input ≤ most_bytes) × (Disciplined b.lines → ⊥) × (n ≡ length b.lines + 1)
-- the line that holds the first byte too many
Audits input (answer.Refused n reason.InputTooLong) = (rest : Text) × (b : Behind input rest) × (most_bytes < length input) × (EndsWithin b.lines rest → ⊥) × (n ≡ length b.lines + 1)
-- a fault and want of memory say nothing of the bytes
Audits input answer.ReadFault = ⊥
Audits input answer.OutOfMemory = ⊥
