-- Keys: what one unit declares or defines, by which the table of a file finds it.
use Rattle.std.specs.Prelude.{Bool, true, false, ◌&&◌, List, [], Option, Some, None, ℕ}
use Rattle.std.specs.Prelude.{◌≡◌}
use Rattle.std.specs.Str.{bytes_eq}
use Rattle.std.specs.HashMap.{HashMap, get}
use Rattle.st_base.specs.declared.builtins.MethodSide.{MethodSide}
use Rattle.st_checks.specs.contracts.key.KeyPartialEq.TheImpl.{eq-value}
use Rattle.st_base.specs.declared.builtins.MethodSide.TheVariants as sides
use Rattle.st_tree.specs.declared.units.UnitKind.{UnitKind}
use Rattle.st_tree.specs.declared.units.UnitKind.TheVariants as kinds
use Rattle.st_tree.specs.declared.units.Unit.{Unit}
use Rattle.st_checks.specs.Declarations.{Text, first_place}
use Rattle.st_checks.specs.declared.key.Sort.{Sort}
use Rattle.st_checks.specs.declared.key.Sort.TheVariants as sorts
use Rattle.st_checks.specs.declared.key.Key.{Key}

-- a key as its texts
pub record TextKey : Type 0 where
  pub sort : Sort
  pub owner : Text
  pub name : Text

abbrev pub text_key : Key → TextKey
text_key k = record { sort = k.sort; owner = k.owner.now; name = k.name.now }

abbrev pub key : Sort → (owner name : Text) → TextKey
key sort owner name = record { sort = sort; owner = owner; name = name }

abbrev pub same_sort : Sort → Sort → Bool
same_sort sorts.Class sorts.Class = true
same_sort sorts.Global sorts.Global = true
same_sort sorts.Pool sorts.Pool = true
same_sort sorts.PoolName sorts.PoolName = true
same_sort sorts.Method sorts.Method = true
same_sort sorts.ClassMethod sorts.ClassMethod = true
same_sort sorts.Initializer sorts.Initializer = true
same_sort sorts.PoolInitializer sorts.PoolInitializer = true
same_sort _ _ = false

abbrev pub same_key : TextKey → TextKey → Bool
same_key a b = same_sort a.sort b.sort && (bytes_eq a.owner b.owner && bytes_eq a.name b.name)

-- what a unit of this kind declares or defines
abbrev pub key_of : UnitKind → Option TextKey
key_of (kinds.Class c) = Some (key sorts.Class [] c.name)
key_of (kinds.GlobalVariable name) = Some (key sorts.Global [] name)
key_of (kinds.GlobalConstant name) = Some (key sorts.Global [] name)
key_of (kinds.Pool name) = Some (key sorts.Pool [] name)
key_of (kinds.PoolVariable pool name) = Some (key sorts.PoolName pool name)
key_of (kinds.PoolConstant pool name) = Some (key sorts.PoolName pool name)
key_of (kinds.Initializer target body) = Some (key sorts.Initializer [] target)
key_of (kinds.PoolInitializer pool name body) = Some (key sorts.PoolInitializer pool name)
key_of (kinds.Method class m) = Some (key sorts.Method class m.selector)
key_of (kinds.ClassMethod class m) = Some (key sorts.ClassMethod class m.selector)
key_of _ = None

abbrev is_key : TextKey → Option TextKey → Bool
is_key k None = false
is_key k (Some j) = same_key k j

-- the unit declares or defines what the key names
abbrev pub has_key : TextKey → Unit → Bool
has_key k u = is_key k (key_of u.kind)

-- the first of these units that does
unfoldable pub first_unit : List Unit → TextKey → Option ℕ
first_unit units k = first_place (has_key k) units

abbrev pub method_sort : MethodSide → Sort
method_sort sides.Instance = sorts.Method
method_sort sides.Class = sorts.ClassMethod

-- ---- the table

-- the map has, for each key, the place of the first of these units that has it
pub record IsTable {S : Type 0} (units : List Unit) (m : HashMap Key ℕ S) : Type 0 where
  pub first : (k : Key) → get eq-value.it m k ≡ first_unit units (text_key k)

-- what is known of a key before a unit, and then with it
abbrev pub noted : Option ℕ → Bool → ℕ → Option ℕ
noted (Some n) has index = Some n
noted None true index = Some index
noted None false index = None

-- the map gains the unit of this place
pub record Notes {S : Type 0} (old : HashMap Key ℕ S) (u : Unit) (index : ℕ) (new : HashMap Key ℕ S) : Type 0 where
  pub first : (k : Key) → get eq-value.it new k ≡ noted (get eq-value.it old k) (has_key (text_key k) u) index
