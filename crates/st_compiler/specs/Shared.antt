-- The variables of a program by their keys, and maps of their places.
use Rattle.std.specs.Prelude.{◌≡◌, ℕ, List, Option, Some, None, Bool, if◌then◌else◌}
use Rattle.std.specs.HashMap.{HashMap, get_by}
use Rattle.std.specs.Option.{option_or}
use Rattle.st_code.specs.Resolved.{SharedName, GlobalName, PoolName, ClassName, ClassInstanceName, same_shared, place_in}
use Rattle.st_compiler.specs.declared.lookup.Key.{Key}
use Rattle.st_compiler.specs.Around.{seen_key}

-- what a variable is looked up by: a class instance variable by nothing
abbrev pub keyed : SharedName → Option SharedName
keyed (GlobalName t) = Some (GlobalName t)
keyed (PoolName p t) = Some (PoolName p t)
keyed (ClassName c t) = Some (ClassName c t)
keyed (ClassInstanceName c t) = None

-- whether a key is that of this variable
abbrev pub is_key_of : SharedName → Key → Bool
is_key_of x k = same_shared (seen_key k) x

-- the map has, for each key, the place of the first of these variables
pub record HasPlaces {S : Type 0} (variables : List SharedName) (m : HashMap Key ℕ S) : Type 0 where
  pub each : (k : Key) → get_by (is_key_of (seen_key k)) m ≡ place_in 0 variables (seen_key k)

-- the map gains the place of a variable, unless it has its key
pub record GainsPlace {S : Type 0} (old : HashMap Key ℕ S) (x : SharedName) (place : ℕ) (new : HashMap Key ℕ S) : Type 0 where
  pub each : (k : Key) → get_by (is_key_of (seen_key k)) new ≡ option_or (get_by (is_key_of (seen_key k)) old) (if same_shared x (seen_key k) then Some place else None)
