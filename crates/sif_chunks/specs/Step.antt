-- What one step over the bytes does to a text, whatever follows the bytes.
use Rattle.std.specs.Prelude.{◌≡◌, ◌≢◌, ◌<◌, ◌≤◌, ℕ, Bool, List, [], ◌∷◌, ◌++◌, length, drop}
use Rattle.sif_chunks.specs.Split.{onto, with_text, parts_of}
use Rattle.sif_chunks.specs.Reading.{max_text}
use Rattle.sif_chunks.specs.declared.step.Step.{Step}
use Rattle.sif_chunks.specs.declared.step.Step.TheVariants.{Doubled, Separator, TooLong, More}

-- what is left goes on with the text
pub record GoesOn (old bytes : List ℕ) (count : ℕ) (new : List ℕ) : Type 0 where
  pub same : (ended : Bool) (more : List ℕ) → onto old (parts_of ended (bytes ++ more)) ≡ onto new (parts_of ended (drop count bytes ++ more))

-- the text is complete, and what is left stands behind its separator
pub record IsCut (old bytes : List ℕ) (count : ℕ) (new : List ℕ) : Type 0 where
  pub same : (ended : Bool) (more : List ℕ) → onto old (parts_of ended (bytes ++ more)) ≡ with_text new (parts_of ended (drop count bytes ++ more))

-- nothing is left, or a bang alone
abbrev pub IsSpent : List ℕ → Type 0
IsSpent [] = Unit {0}
IsSpent (b ∷ []) = b ≡ 33
IsSpent (b ∷ c ∷ bs) = ⊥

-- a byte of a text comes first
abbrev pub BeginsText : List ℕ → Type 0
BeginsText [] = ⊥
BeginsText (b ∷ []) = b ≢ 33
BeginsText (b ∷ c ∷ bs) = b ≡ 33 → c ≡ 33

abbrev pub StepsTo : List ℕ → List ℕ → ℕ → Step → List ℕ → Type 0
StepsTo old bytes count Doubled new = GoesOn old bytes count new × (0 < count)
StepsTo old bytes count Separator new = IsCut old bytes count new × (0 < count)
StepsTo old bytes count TooLong new = GoesOn old bytes count new × (length new ≡ max_text) × BeginsText (drop count bytes)
StepsTo old bytes count More new = GoesOn old bytes count new × IsSpent (drop count bytes)

pub record Steps (old bytes : List ℕ) (count : ℕ) (step : Step) (new : List ℕ) : Type 0 where
  pub within : count ≤ length bytes
  pub short : length new ≤ max_text
  pub cases : StepsTo old bytes count step new
