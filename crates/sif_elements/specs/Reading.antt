-- Reading a file: what its first faulty element is and why, or which units it is (ANSI NCITS 319, 4.1).
use Rattle.std.specs.Prelude.{◌≡◌, ℕ, ◌+◌, ◌<◌, ◌≤◌, Bool, true, false, ◌&&◌, nat_le, List, [], ◌∷◌, ◌++◌, length, take}
use Rattle.st_base.specs.declared.faults.Reason.{Reason}
use Rattle.st_base.specs.declared.faults.Reason.TheVariants as reason
use Rattle.sif_chunks.specs.Split.{Parts, parts_of}
use Rattle.sif_chunks.specs.Reading.{max_input, max_text, is_white}
use Rattle.st_tree.specs.Grammar.{Tree}
use Rattle.st_tree.specs.declared.headers.Header.TheVariants.{Whole, Awaits, Annotates}
use Rattle.st_tree.specs.declared.headers.Target.{Target}
use Rattle.st_tree.specs.Headers.{UnitOf, production_of, Says, Faulty}
use Rattle.st_tree.specs.Numbers.{unit, annotated}
use Rattle.st_tree.specs.Units.{element, first_element, TextIs, TextFault}
use Rattle.st_tree.specs.declared.units.UnitKind.{UnitKind}
use Rattle.st_tree.specs.declared.units.Annotation.{Annotation}
use Rattle.st_tree.specs.declared.units.Unit.{Unit}
use Rattle.sif_elements.specs.declared.progress.Progress.{Progress}
use Rattle.sif_elements.specs.declared.progress.Progress.TheVariants.{Start, Between, Awaiting}

-- an element is in the grammar after those before it
pub data Takes : Progress → List ℕ → Progress → Type 0 where
  version : {text : List ℕ} {kind : UnitKind} → first_element text ≡ Says (Whole kind) → Takes Start text (Between (unit kind [] ∷ []))
  whole : {text : List ℕ} {kind : UnitKind} {us : List Unit} → element text ≡ Says (Whole kind) → Takes (Between us) text (Between (us ++ unit kind [] ∷ []))
  header : {text : List ℕ} {target : Target} {us : List Unit} → element text ≡ Says (Awaits target) → Takes (Between us) text (Awaiting us target)
  annotation : {text : List ℕ} {a : Annotation} {us : List Unit} → element text ≡ Says (Annotates a) → Takes (Between us) text (Between (annotated us a))
  text_of_header : {text : List ℕ} {target : Target} {tree : Tree} {kind : UnitKind} {us : List Unit}
      → TextIs (production_of target) text tree → UnitOf target tree kind → Takes (Awaiting us target) text (Between (us ++ unit kind [] ∷ []))

-- it isn't, and this is its first fault
pub data Spoils : Progress → List ℕ → ℕ → Reason → Type 0 where
  no_version : {text : List ℕ} {byte : ℕ} {why : Reason} → first_element text ≡ Faulty byte why → Spoils Start text byte why
  no_element : {text : List ℕ} {byte : ℕ} {why : Reason} {us : List Unit} → element text ≡ Faulty byte why → Spoils (Between us) text byte why
  no_text : {text : List ℕ} {byte : ℕ} {why : Reason} {target : Target} {us : List Unit} → TextFault (production_of target) text byte why → Spoils (Awaiting us target) text byte why

-- what reading answers: units, or the number of an element, a byte of it and a reason
pub data Answer : Type 0 where
  Read : List Unit → Answer
  Refuse : ℕ → ℕ → Reason → Answer

-- What is answered of texts and a rest ahead, the next element having this number. The flag says that the input ends
-- behind the rest; else its longest length does. The cases of one text are tried in this order.
pub data Answers : Progress → Bool → ℕ → List (List ℕ) → List ℕ → Answer → Type 0 where
  long_text : {p : Progress} {ended : Bool} {n : ℕ} {text rest : List ℕ} {texts : List (List ℕ)} → max_text < length text → Answers p ended n (text ∷ texts) rest (Refuse n max_text reason.ElementTooLong)
  white_text : {p : Progress} {ended : Bool} {n : ℕ} {text rest : List ℕ} {texts : List (List ℕ)} {a : Answer}
      → length text ≤ max_text → is_white text ≡ true → Answers p ended n texts rest a → Answers p ended n (text ∷ texts) rest a
  spoiled : {p : Progress} {ended : Bool} {n byte : ℕ} {why : Reason} {text rest : List ℕ} {texts : List (List ℕ)}
      → length text ≤ max_text → is_white text ≡ false → Spoils p text byte why → Answers p ended n (text ∷ texts) rest (Refuse n byte why)
  taken : {p q : Progress} {ended : Bool} {n : ℕ} {text rest : List ℕ} {texts : List (List ℕ)} {a : Answer}
      → length text ≤ max_text → is_white text ≡ false → Takes p text q → Answers q ended (n + 1) texts rest a → Answers p ended n (text ∷ texts) rest a
  long_rest : {p : Progress} {ended : Bool} {n : ℕ} {rest : List ℕ} → max_text < length rest → Answers p ended n [] rest (Refuse n max_text reason.ElementTooLong)
  long_input : {p : Progress} {n : ℕ} {rest : List ℕ} → length rest ≤ max_text → Answers p false n [] rest (Refuse n (length rest) reason.InputTooLong)
  unfinished : {p : Progress} {n : ℕ} {rest : List ℕ} → length rest ≤ max_text → is_white rest ≡ false → Answers p true n [] rest (Refuse n (length rest) reason.Unfinished)
  nothing_read : {n : ℕ} {rest : List ℕ} → length rest ≤ max_text → is_white rest ≡ true → Answers Start true n [] rest (Refuse n 0 reason.MissingVersion)
  no_text_behind : {n : ℕ} {rest : List ℕ} {us : List Unit} {target : Target} → length rest ≤ max_text → is_white rest ≡ true → Answers (Awaiting us target) true n [] rest (Refuse n 0 reason.MissingText)
  all_read : {n : ℕ} {rest : List ℕ} {us : List Unit} → length rest ≤ max_text → is_white rest ≡ true → Answers (Between us) true n [] rest (Read us)

-- whether bytes are a whole input of at most the longest length
abbrev pub is_whole : Bool → List ℕ → Bool
is_whole ended bytes = ended && nat_le (length bytes) max_input

-- the texts and the rest of the first bytes, as many as the longest input has
abbrev pub parts : Bool → List ℕ → Parts
parts ended bytes = parts_of (is_whole ended bytes) (take max_input bytes)

-- The first faulty element of an input that begins with these bytes, and ends behind them where the flag says so.
pub record Refuses (bytes : List ℕ) (ended : Bool) (number byte : ℕ) (why : Reason) : Type 0 where
  pub answers : Answers Start (is_whole ended bytes) 1 (parts ended bytes).texts (parts ended bytes).rest (Refuse number byte why)
  -- where more may come, an input is too long only once it has one byte more than the longest
  pub longer : ended ≡ false → why ≡ reason.InputTooLong → max_input < length bytes

-- The bytes are a whole input, and these are its units.
abbrev pub Reads : List ℕ → List Unit → Type 0
Reads bytes us = Answers Start (is_whole true bytes) 1 (parts true bytes).texts (parts true bytes).rest (Read us)
