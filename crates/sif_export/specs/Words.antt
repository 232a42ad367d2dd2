-- The words of a text: how each is spelled, and what stands between two of them.
use Rattle.std.specs.Prelude.{◌≡◌, ℕ, ℤ, List, [], ◌∷◌, ◌++◌, Bool, true, false, if◌then◌else◌, Option, Result, Ok, Err, ◌==◌, ◌||◌, ◌&&◌}
use Rattle.std.specs.Fmt.{signed_decimal}
use Rattle.std.specs.Io.KnownBytes.{append_known}
use Rattle.st_base.specs.Streams.{GainsPrefix}
use Rattle.st_base.specs.TokenBytes.{is_letter, is_word_byte, is_operator_byte}
use Rattle.st_base.specs.Lexes.{is_identifier, is_run}
use Rattle.sif_chunks.specs.Split.{doubled}
pub use Rattle.sif_export.specs.declared.sign.Gap.{Gap}
pub use Rattle.sif_export.specs.declared.sign.Gap.TheVariants.{Joined, Blank, Line}
pub use Rattle.sif_export.specs.declared.sign.Sign.{Sign}
use Rattle.sif_export.specs.declared.sign.Sign.TheVariants as sign

-- each quote twice
abbrev pub quotes_doubled : List ℕ → List ℕ
quotes_doubled [] = []
quotes_doubled (b ∷ bs) = if b == 39 then 39 ∷ 39 ∷ quotes_doubled bs else b ∷ quotes_doubled bs

-- between quotes, each quote twice
abbrev pub quoted : List ℕ → List ℕ
quoted text = 39 ∷ quotes_doubled text ++ 39 ∷ []

-- whole keywords from here on; the flag says that one has begun
abbrev pub goes_on_as_keywords : Bool → List ℕ → Bool
goes_on_as_keywords begun [] = if begun then false else true
goes_on_as_keywords false (c ∷ cs) = is_letter c && goes_on_as_keywords true cs
goes_on_as_keywords true (c ∷ cs) = if c == 58 then goes_on_as_keywords false cs else is_word_byte c && goes_on_as_keywords true cs

-- one keyword or more, without a gap
abbrev pub are_keywords : List ℕ → Bool
are_keywords [] = false
are_keywords (c ∷ cs) = is_letter c && goes_on_as_keywords true cs

-- a symbol that needs no quotes
unfoldable pub is_bare_symbol : List ℕ → Bool
is_bare_symbol t = is_identifier t || are_keywords t || is_run is_operator_byte t

-- A parameter with its colon, a negative integer and a comment are one word each.
pub data Word : Type 0 where
  Mark : Sign → Word
  Named : List ℕ → Word
  Key : List ℕ → Word
  Operator : List ℕ → Word
  Parameter : List ℕ → Word
  Number : ℤ → Word
  Char : ℕ → Word
  Str : List ℕ → Word
  Symbol : List ℕ → Word
  Remark : List ℕ → Word

abbrev pub spell_sign : Sign → List ℕ
spell_sign sign.ParenOpen = 40 ∷ []
spell_sign sign.ParenClose = 41 ∷ []
spell_sign sign.ArrayOpen = 35 ∷ 40 ∷ []
spell_sign sign.BlockOpen = 91 ∷ []
spell_sign sign.BlockClose = 93 ∷ []
spell_sign sign.Assign = 58 ∷ 61 ∷ []
spell_sign sign.Caret = 94 ∷ []
spell_sign sign.Period = 46 ∷ []
spell_sign sign.PeriodLine = 46 ∷ []
spell_sign sign.Semicolon = 59 ∷ []
spell_sign sign.Bar = 124 ∷ []
spell_sign sign.BarLine = 124 ∷ []

abbrev pub spell : Word → List ℕ
spell (Mark s) = spell_sign s
spell (Named t) = t
spell (Key t) = t
spell (Operator t) = t
spell (Parameter t) = 58 ∷ t
spell (Number z) = signed_decimal z
spell (Char c) = 36 ∷ c ∷ []
spell (Str t) = quoted t
spell (Symbol t) = 35 ∷ (if is_bare_symbol t then t else quoted t)
spell (Remark t) = 34 ∷ t ++ 34 ∷ []

-- no gap stands before it
abbrev pub closes_sign : Sign → Bool
closes_sign sign.ParenClose = true
closes_sign sign.BlockClose = true
closes_sign sign.Period = true
closes_sign sign.PeriodLine = true
closes_sign sign.Semicolon = true
closes_sign _ = false

abbrev pub closes : Word → Bool
closes (Mark s) = closes_sign s
closes _ = false

-- the gap behind it
abbrev pub behind_sign : Sign → Gap
behind_sign sign.ParenOpen = Joined
behind_sign sign.ArrayOpen = Joined
behind_sign sign.BlockOpen = Joined
behind_sign sign.Caret = Joined
behind_sign sign.PeriodLine = Line
behind_sign sign.BarLine = Line
behind_sign _ = Blank

abbrev pub behind : Word → Gap
behind (Mark s) = behind_sign s
behind _ = Blank

-- nothing, a space, or a line's end and a tab
abbrev pub gap_bytes : Gap → List ℕ
gap_bytes Joined = []
gap_bytes Blank = 32 ∷ []
gap_bytes Line = 10 ∷ 9 ∷ []

-- a word with the gap before it
abbrev pub led : Gap → Word → List ℕ
led g w = (if closes w then [] else gap_bytes g) ++ spell w

-- the text of words where this gap is due
abbrev pub laid : Gap → List Word → List ℕ
laid g [] = []
laid g (w ∷ ws) = led g w ++ laid (behind w) ws

-- the gap that is due behind them
abbrev pub due : Gap → List Word → Gap
due g [] = g
due g (w ∷ ws) = due (behind w) ws

-- what a call did that writes these bytes: all of them, or a prefix where it failed
abbrev pub Gains : {A E : Type 0} → Option (List ℕ) → Option (List ℕ) → Result A E → List ℕ → Type 0
Gains old new (Ok r) bytes = new ≡ append_known old bytes
Gains old new (Err e) bytes = GainsPrefix old new bytes

-- what a call did that writes this text, each bang twice
abbrev pub Puts : {A E : Type 0} → Option (List ℕ) → Option (List ℕ) → Result A E → List ℕ → Type 0
Puts old new result text = Gains old new result (doubled text)

-- the words were written, and this gap is due
pub record Done (from : Gap) (old : Option (List ℕ)) (to : Gap) (new : Option (List ℕ)) (words : List Word) : Type 0 where
  pub written : new ≡ append_known old (doubled (laid from words))
  pub gap : to ≡ due from words

-- what a call did that writes these words, and answers the gap that is due behind them
abbrev pub Lays : {E : Type 0} → Gap → Option (List ℕ) → Option (List ℕ) → Result Gap E → List Word → Type 0
Lays from old new (Ok to) words = Done from old to new words
Lays from old new (Err e) words = GainsPrefix old new (doubled (laid from words))

-- a word that is spelled so, and has a gap on both sides
abbrev pub IsSpelled : Word → List ℕ → Type 0
IsSpelled w text = (spell w ≡ text) × (closes w ≡ false) × (behind w ≡ Blank)
