-- Bytes behind references, and maps and sets of them.
use Rattle.std.specs.Prelude.{◌≡◌, ℕ, List, Bool}
use Rattle.std.specs.Borrow.{Bor}
use Rattle.std.specs.HashMap.{HashMap, get}
use Rattle.std.specs.Option.{option_or}
use Rattle.std.specs.Str.{bytes_eq}
use Rattle.st_code.specs.Texts.{Text}
use Rattle.st_code.specs.Resolved.{text_in}

abbrev pub bytes_now : Bor Text → Text
bytes_now b = b.now

abbrev pub same_bytes : Bor Text → Bor Text → Bool
same_bytes a b = bytes_eq a.now b.now

-- the map has the first place of each of these names
pub record HasPlaces {S : Type 0} (names : List Text) (m : HashMap (Bor Text) ℕ S) : Type 0 where
  pub each : (name : Bor Text) → get same_bytes m name ≡ text_in 0 names name.now

-- the map gains the places of these names from one on, unless it has them
pub record GainsPlaces {S : Type 0} (old : HashMap (Bor Text) ℕ S) (names : List Text) (first : ℕ) (new : HashMap (Bor Text) ℕ S) : Type 0 where
  pub each : (name : Bor Text) → get same_bytes new name ≡ option_or (get same_bytes old name) (text_in first names name.now)
