-- How selectors and symbols are numbered.
use Rattle.std.specs.Prelude.{◌≡◌, ℕ, ◌<◌, List, [], ◌++◌, length, get_or, codes}
use Rattle.st_code.specs.Texts.{Text}
use Rattle.st_code.specs.Named.{NamedUnit}
use Rattle.st_code.specs.Resolved.{number_or_last}
use Rattle.program_image.specs.Spelled.{units_texts}
use Rattle.st_shake.specs.Needed.{Has}

-- these names number the selectors and symbols of the units: some that every program has, the units' own, and no others, each once
pub record Spells (base names : List Text) (units : List NamedUnit) : Type 0 where
  pub distinct : (m n : ℕ) → m < length names → n < length names → get_or names m [] ≡ get_or names n [] → m ≡ n
  pub base_there : (t : Text) → Has base t → Has names t
  pub all : (t : Text) → Has (units_texts units) t → Has names t
  pub only : (n : ℕ) → n < length names → Has (base ++ units_texts units) (get_or names n [])
  pub equal_first : number_or_last names (codes "=") ≡ 0
