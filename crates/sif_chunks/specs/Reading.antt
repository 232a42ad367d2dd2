-- What a reader answers, as a function of what it keeps and of what its source has left.
use Rattle.std.specs.Prelude.{◌≡◌, ℕ, ◌+◌, ◌-◌, Bool, true, false, not, ◌||◌, ◌==◌, nat_lt, nat_le, List, [], ◌∷◌, ◌++◌, length, take, Option, None, Some, IfSome, if◌then◌else◌, ◌⊎◌}
use Rattle.std.specs.List.{list_all}
use Rattle.std.specs.Io.KnownBytes.{prepend_known}
use Rattle.sif_chunks.specs.Split.{Parts, onto, parts_of}
use Rattle.sif_chunks.specs.Answers.{next_of}
use Rattle.sif_chunks.specs.declared.next.Stop.{Stop}
use Rattle.sif_chunks.specs.declared.next.Next.{Next}
use Rattle.sif_chunks.specs.declared.next.Next.TheVariants.{Element, End, Unfinished, TooLong, InputTooLong, ReadFault}

-- how many bytes an input has at most
abbrev pub max_input : ℕ
max_input = 16777216

-- how many bytes the text of an element has at most
abbrev pub max_text : ℕ
max_text = 1048576

-- tab, line feed, form feed, carriage return and space
abbrev pub is_white_byte : ℕ → Bool
is_white_byte b = b == 9 || b == 10 || b == 12 || b == 13 || b == 32

abbrev pub is_white : List ℕ → Bool
is_white text = list_all is_white_byte text

-- The number and the text so far of the element, whether it was given, the answer that is repeated, the bytes
-- that were taken and not judged, and how many were taken in all.
pub record Reader : Type 0 where
  pub number : ℕ
  pub text : List ℕ
  pub is_given : Bool
  pub stop : Option Stop
  pub pending : List ℕ
  pub taken : ℕ

-- an answer, the number and the text that it is about, whether the input ends, and the parts behind the text
pub record Answer : Type 0 where
  pub kind : Next
  pub number : ℕ
  pub text : List ℕ
  pub ended : Bool
  pub behind : Parts

abbrev pub nothing : Parts
nothing = record { texts = []; rest = [] }

-- an answer behind which nothing is read
abbrev pub stopped : Next → ℕ → List ℕ → Answer
stopped kind number text = record { kind = kind; number = number; text = text; ended = true; behind = nothing }

-- the answer where no text is complete
abbrev pub last_answer : Bool → ℕ → List ℕ → Answer
last_answer ended number rest =
    if nat_lt max_text (length rest) then stopped TooLong number (take max_text rest)
    else (if not ended then stopped InputTooLong number rest
    else (if is_white rest then stopped End number []
    else stopped Unfinished number rest))

-- the answer for the first text that isn't white
abbrev pub answer_for : Bool → ℕ → List (List ℕ) → List ℕ → Answer
answer_for ended number [] rest = last_answer ended number rest
answer_for ended number (text ∷ texts) rest =
    if nat_lt max_text (length text) then stopped TooLong number (take max_text text)
    else (if is_white text then answer_for ended number texts rest
    else record { kind = Element; number = number; text = text; ended = ended; behind = record { texts = texts; rest = rest } })

abbrev pub answer_in : Bool → ℕ → Parts → Answer
answer_in ended number parts = answer_for ended number parts.texts parts.rest

-- the answer about the element with this number and this text so far, where these bytes stand behind that text
abbrev pub answer_over : ℕ → List ℕ → Bool → List ℕ → Answer
answer_over number text ended bytes = answer_in ended number (onto text (parts_of ended bytes))

-- What an answer says of the number and the text that it leaves, and of the bytes behind that text. A fault loses
-- nothing.
abbrev pub tells_over : Next → ℕ → List ℕ → Bool → List ℕ → Answer
tells_over Element number text ended bytes = record { kind = Element; number = number; text = text; ended = ended; behind = parts_of ended bytes }
tells_over ReadFault number text ended bytes = answer_over number text ended bytes
tells_over End number text ended bytes = stopped End number text
tells_over Unfinished number text ended bytes = stopped Unfinished number text
tells_over TooLong number text ended bytes = stopped TooLong number text
tells_over InputTooLong number text ended bytes = stopped InputTooLong number text

-- whether the input ends within its longest length, where so many bytes were taken and these are left
abbrev pub is_ended : ℕ → List ℕ → Bool
is_ended taken left = nat_le (length left) (max_input - taken)

-- what was taken and not judged and what is left, as far as the longest input goes
abbrev pub bytes_ahead : List ℕ → ℕ → List ℕ → List ℕ
bytes_ahead pending taken left = pending ++ take (max_input - taken) left

abbrev pub parts_ahead : List ℕ → ℕ → List ℕ → Parts
parts_ahead pending taken left = parts_of (is_ended taken left) (bytes_ahead pending taken left)

unfoldable pub answer_at : ℕ → List ℕ → List ℕ → ℕ → List ℕ → Answer
answer_at number text pending taken left = answer_over number text (is_ended taken left) (bytes_ahead pending taken left)

unfoldable pub tells : Next → ℕ → List ℕ → List ℕ → ℕ → List ℕ → Answer
tells answer number text pending taken left = tells_over answer number text (is_ended taken left) (bytes_ahead pending taken left)

abbrev pub outlook_unless : Option Stop → Reader → List ℕ → Answer
outlook_unless None reader left =
    if reader.is_given then answer_at (reader.number + 1) [] reader.pending reader.taken left
    else answer_at reader.number reader.text reader.pending reader.taken left
outlook_unless (Some stop) reader left = stopped (next_of stop) reader.number reader.text

-- what a reader answers next
unfoldable pub outlook : Reader → List ℕ → Answer
outlook reader left = outlook_unless reader.stop reader left

-- what an answer says of the reader that it leaves
unfoldable pub told : Next → Reader → List ℕ → Answer
told answer reader left = tells answer reader.number reader.text reader.pending reader.taken left

-- how many bytes were judged
abbrev pub judged : Reader → ℕ
judged reader = reader.taken - length reader.pending

-- The answer about the element with this number and this text so far, where the first bytes were taken and not judged
-- and the last would come, whether the input ended behind them or not. Where it doesn't, `InputTooLong` stands for what
-- these bytes leave open.
abbrev pub ahead : ℕ → List ℕ → List ℕ → Bool → List ℕ → Answer
ahead number text pending ended bytes = answer_over number text ended (pending ++ bytes)

-- what an answer says of the bytes behind its text, likewise
abbrev pub ahead_of : Next → ℕ → List ℕ → List ℕ → Bool → List ℕ → Answer
ahead_of answer number text pending ended bytes = tells_over answer number text ended (pending ++ bytes)

abbrev pub over_unless : Option Stop → Reader → Bool → List ℕ → Answer
over_unless None reader ended bytes =
    if reader.is_given then ahead (reader.number + 1) [] reader.pending ended bytes
    else ahead reader.number reader.text reader.pending ended bytes
over_unless (Some stop) reader ended bytes = stopped (next_of stop) reader.number reader.text

-- what a reader would answer next if these bytes came, whether the input ended behind them or not
unfoldable pub outlook_over : Reader → Bool → List ℕ → Answer
outlook_over reader ended bytes = over_unless reader.stop reader ended bytes

-- what an answer says of the reader that it leaves, likewise
unfoldable pub told_over : Next → Reader → Bool → List ℕ → Answer
told_over answer reader ended bytes = ahead_of answer reader.number reader.text reader.pending ended bytes

-- these bytes were taken from what was left, and counted
pub record Takes (old new : ℕ) (left now : Option (List ℕ)) (got : List ℕ) : Type 0 where
  pub bytes : left ≡ prepend_known got now
  pub count : new ≡ old + length got

-- whatever comes behind the bytes that were taken
abbrev pub Follows : (Bool → List ℕ → Answer) → List ℕ → (Bool → List ℕ → Answer) → Type 0
Follows before got after = (ended : Bool) (more : List ℕ) → before ended (got ++ more) ≡ after ended more

-- the bytes that were taken are the last, and leave the answer open where the input doesn't end behind them
pub record IsLast (before : Bool → List ℕ → Answer) (got : List ℕ) (open_end : Answer) (pending : List ℕ) (now : Option (List ℕ)) : Type 0 where
  pub ended : IfSome now (λ bytes. bytes ≡ [])
  pub judged : pending ≡ []
  pub unsettled : before false got ≡ open_end

-- the bytes that were taken are kept, and leave the answer open
pub record IsOpen (before : Bool → List ℕ → Answer) (got : List ℕ) (open_end : Answer) (after : Bool → List ℕ → Answer) : Type 0 where
  pub follows : Follows before got after
  pub unsettled : after false [] ≡ open_end

-- what the bytes that were taken settle
abbrev pub Settles : Next → (Bool → List ℕ → Answer) → List ℕ → Answer → (Bool → List ℕ → Answer) → List ℕ → Option (List ℕ) → Type 0
Settles Element before got open_end after pending now = Follows before got after ⊎ IsLast before got open_end pending now
Settles ReadFault before got open_end after pending now = IsOpen before got open_end after
Settles End before got open_end after pending now = Unit {0}
Settles Unfinished before got open_end after pending now = Unit {0}
Settles TooLong before got open_end after pending now = Unit {0}
Settles InputTooLong before got open_end after pending now = Unit {0}

-- Some bytes were taken and counted, and an element or a read fault follows from these alone: an element whatever
-- comes behind them, or at the end of the input; after a read fault they leave every other answer open.
abbrev pub Settled : Next → Reader → Option (List ℕ) → Reader → Option (List ℕ) → Type 0
Settled answer old left new now =
    (got : List ℕ) × Takes old.taken new.taken left now got
    × Settles answer (outlook_over old) got (stopped InputTooLong new.number new.text) (told_over answer new) new.pending now
