-- One turn of a reader, and what it leaves of the answer.
use Rattle.std.specs.Prelude.{◌≡◌, ◌-◌, ◌*◌, ◌<◌, ◌≤◌, ℕ, List, [], false, length, Option, None, Some}
use Rattle.std.specs.Option.{option_map}
use Rattle.sif_chunks.specs.Reading.{answer_at, tells, ahead, ahead_of, stopped, Takes, Follows, Settles, max_input}
use Rattle.sif_chunks.specs.Window.{Held}
use Rattle.sif_chunks.specs.declared.next.Next.{Next}
use Rattle.sif_chunks.specs.declared.next.Next.TheVariants.{Element, End, Unfinished, TooLong, InputTooLong, ReadFault}

-- how many bytes were judged
abbrev pub judged_of : Held → ℕ
judged_of held = held.taken - length held.pending

-- taking a byte counts twice, and judging it once
abbrev pub progress : Held → ℕ
progress held = 2 * held.taken - length held.pending

-- the answer is still to come, and is what it was, whatever comes behind the bytes that were taken
pub record Moves (text : List ℕ) (old : Held) (left : Option (List ℕ)) (text' : List ℕ) (new : Held) (now : Option (List ℕ)) (got : List ℕ) : Type 0 where
  pub takes : Takes old.taken new.taken left now got
  pub input : new.taken ≤ max_input
  pub same : (number : ℕ) → Follows (ahead number text old.pending) got (ahead number text' new.pending)

-- the answer is given
pub record Gives (answer : Next) (text : List ℕ) (old : Held) (left : Option (List ℕ)) (text' : List ℕ) (new : Held) (now : Option (List ℕ)) : Type 0 where
  pub same : (number : ℕ) → option_map (answer_at number text old.pending old.taken) left ≡ option_map (tells answer number text' new.pending new.taken) now
  pub settled : (got : List ℕ) × Takes old.taken new.taken left now got
      × ((number : ℕ) → Settles answer (ahead number text old.pending) got (stopped InputTooLong number text') (ahead_of answer number text' new.pending) new.pending now)

-- an element ends with the bang that is left, and stays open where the input goes on
abbrev pub EndKind : Next → List ℕ → Held → List ℕ → Held → Type 0
EndKind Element text old text' new = (0 < length old.pending) × (new.pending ≡ []) × ((number : ℕ) → ahead number text old.pending false [] ≡ stopped InputTooLong number text')
EndKind End text old text' new = Unit {0}
EndKind Unfinished text old text' new = Unit {0}
EndKind TooLong text old text' new = Unit {0}
EndKind InputTooLong text old text' new = ⊥
EndKind ReadFault text old text' new = ⊥

-- what is answered where the input ends, and what it says of the text and of the bytes in hand
pub record Ends (answer : Next) (text : List ℕ) (old : Held) (text' : List ℕ) (new : Held) : Type 0 where
  pub taken : new.taken ≡ old.taken
  pub judged : length new.pending ≤ length old.pending
  pub same : (number : ℕ) → answer_at number text old.pending old.taken [] ≡ tells answer number text' new.pending new.taken []
  pub kind : EndKind answer text old text' new

-- an answer is given, or there is less to do
abbrev pub Turns : Option Next → List ℕ → Held → Option (List ℕ) → List ℕ → Held → Option (List ℕ) → Type 0
Turns None text old left text' new now = ((got : List ℕ) × Moves text old left text' new now got) × (progress old < progress new)
Turns (Some answer) text old left text' new now = Gives answer text old left text' new now
