-- How the bytes of a line are read: its words, and the line that these words are.
use Rattle.std.specs.Prelude.{◌≡◌, ◌↔◌, ℕ, ◌+◌, ◌-◌, ◌*◌, ◌^◌, Bool, true, false, ◌&&◌, List, [], ◌∷◌, Option, Some, None, nat_eq, nat_le, nat_lt, codes, if◌then◌else◌}
use Rattle.std.specs.Str.{bytes_eq}
use Rattle.st_code.specs.Texts.{Text}
use Rattle.st_rules.specs.Events.{Event, Protect, Ensure, Curtail, Signal, Outer, Search, Tried, Handle, Default, Known, Action, Again, Ask, End}
use Rattle.st_trace.specs.declared.line.StopWord.TheVariants.{Done, Unhandled, Steps, Depth, Cells, Integer}
use Rattle.st_trace.specs.Lines.{Line, Tells, Stops}
use Rattle.st_trace.specs.Bytes.{line_body, LineFits}

-- ---- words

abbrev pub onto_first : ℕ → List Text → List Text
onto_first c [] = (c ∷ []) ∷ []
onto_first c (w ∷ ws) = (c ∷ w) ∷ ws

-- what stands between the spaces
abbrev pub words_of : Text → List Text
words_of [] = [] ∷ []
words_of (c ∷ cs) = if nat_eq c 32 then [] ∷ words_of cs else onto_first c (words_of cs)

-- the words behind a space, where there is one
abbrev pub words_behind : Option Text → List Text
words_behind None = []
words_behind (Some rest) = words_of rest

-- ---- numbers

-- a digit behind a number, where that is one below 2^64
abbrev pub with_digit : ℕ → ℕ → Option ℕ
with_digit n c = if nat_le 48 c && nat_le c 57 then (if nat_lt (n * 10 + (c - 48)) (2 ^ 64) then Some (n * 10 + (c - 48)) else None) else None

-- the number that digits write behind those of n, where each is a digit and it is below 2^64
abbrev pub value_behind : Option ℕ → Text → Option ℕ
value_behind None cs = None
value_behind (Some n) [] = Some n
value_behind (Some n) (c ∷ cs) = value_behind (with_digit n c) cs

-- some digits, of which the first is 0 only where it is the only one
abbrev pub is_plain : Text → Bool
is_plain [] = false
is_plain (c ∷ []) = true
is_plain (c ∷ d ∷ cs) = if nat_eq c 48 then false else true

-- the number below 2^64 that is written so, without leading zeros
abbrev pub number_in : Text → Option ℕ
number_in cs = if is_plain cs then value_behind (Some 0) cs else None

-- ---- lines

abbrev pub told_by : Option Event → Option Line
told_by None = None
told_by (Some e) = Some (Tells e)

abbrev pub known_in : Text → Option Line
known_in w = if bytes_eq w (codes "known") then Some (Tells Known) else None

abbrev pub stop_in : Text → Option Line
stop_in a =
    if bytes_eq a (codes "done") then Some (Stops Done) else
    if bytes_eq a (codes "unhandled") then Some (Stops Unhandled) else
    if bytes_eq a (codes "steps") then Some (Stops Steps) else
    if bytes_eq a (codes "depth") then Some (Stops Depth) else
    if bytes_eq a (codes "cells") then Some (Stops Cells) else
    if bytes_eq a (codes "integer") then Some (Stops Integer) else None

-- the event with this word and number
abbrev pub numbered_in : Text → ℕ → Option Event
numbered_in w n =
    if bytes_eq w (codes "protect") then Some (Protect n) else
    if bytes_eq w (codes "ensure") then Some (Ensure n) else
    if bytes_eq w (codes "curtail") then Some (Curtail n) else
    if bytes_eq w (codes "signal") then Some (Signal n) else
    if bytes_eq w (codes "outer") then Some (Outer n) else
    if bytes_eq w (codes "search") then Some (Search n) else
    if bytes_eq w (codes "default") then Some (Default n) else
    if bytes_eq w (codes "action") then Some (Action n) else
    if bytes_eq w (codes "again") then Some (Again n) else
    if bytes_eq w (codes "end") then Some (End n false) else
    if bytes_eq w (codes "cut") then Some (End n true) else None

-- where the number is one
abbrev pub with_number : Option ℕ → (ℕ → Option Event) → Option Event
with_number None to = None
with_number (Some n) to = to n

abbrev pub judged_in : ℕ → Text → Option Event
judged_in n b =
    if bytes_eq b (codes "yes") then Some (Tried n true) else
    if bytes_eq b (codes "no") then Some (Tried n false) else None

-- the event with this word, number and other word
abbrev pub twice_in : Text → ℕ → Text → Option Event
twice_in w m b =
    if bytes_eq w (codes "tried") then judged_in m b else
    if bytes_eq w (codes "handle") then with_number (number_in b) (λ n. Some (Handle m n)) else
    if bytes_eq w (codes "ask") then with_number (number_in b) (λ n. Some (Ask m n)) else None

-- the line that these words are
abbrev pub line_in : List Text → Option Line
line_in (w ∷ []) = known_in w
line_in (w ∷ a ∷ []) = if bytes_eq w (codes "stop") then stop_in a else told_by (with_number (number_in a) (numbered_in w))
line_in (w ∷ a ∷ b ∷ []) = told_by (with_number (number_in a) (λ n. twice_in w n b))
line_in _ = None

-- the line that these bytes are, without byte 10
unfoldable pub read_line : Text → Option Line
read_line bytes = line_in (words_of bytes)

-- what is read is what was printed, and each line that is printed is read
abbrev pub ReadsLines : Type 0
ReadsLines = (bytes : Text) (l : Line) → (LineFits l × (line_body l ≡ bytes)) ↔ (read_line bytes ≡ Some l)
