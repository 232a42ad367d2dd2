-- Which exceptions a plain selector fits.
use Rattle.std.specs.Prelude.{◌≢◌, ℕ, Bool, true, false, List, [], ◌∷◌}
use Rattle.object_heap.specs.declared.value.Value.{Value}
use Rattle.object_heap.specs.declared.value.Value.TheVariants.{Class, Object}
use Rattle.object_heap.specs.Store.{Store, object_at}
use Rattle.st_code.specs.Program.{Program}
use Rattle.st_code.specs.Lookup.{inherits}

abbrev pub fits_one : Program → ℕ → Value → Bool
fits_one p class (Class ancestor) = inherits p class ancestor
fits_one p class _ = false

abbrev pub fits_any : Program → ℕ → List Value → Bool
fits_any p class [] = false
fits_any p class (v ∷ vs) = elim (fits_one p class v) [ true ↦ true | false ↦ fits_any p class vs ]

-- the classes of a plain selector
abbrev pub selectors_in : Store → Value → List Value
selectors_in s (Object number) = (object_at number s).slots
selectors_in s v = v ∷ []

-- a value isn't this object
abbrev pub IsOther : ℕ → Value → Type 0
IsOther number (Object set) = set ≢ number
IsOther number v = Unit {0}
