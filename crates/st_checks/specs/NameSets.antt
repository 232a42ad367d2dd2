-- Sets of names by their bytes: what one scope declares, and what one class declares (ANSI NCITS 319, 3.3, 3.4).
use Rattle.std.specs.Prelude.{◌≡◌, Bool, true, false, List, Option, None, Some, is_some, if◌then◌else◌}
use Rattle.std.specs.Borrow.{Bor}
use Rattle.std.specs.HashMap.{HashMap, get}
use Rattle.std.specs.HashSet.{HashSet, contains_by}
use Rattle.std.specs.List.{list_any, find}
use Rattle.std.specs.Option.{option_or}
use Rattle.std.specs.Str.{bytes_eq}
use Rattle.st_tree.specs.declared.tree.Name.{Name}
use Rattle.st_tree.specs.declared.units.ClassUnit.{ClassUnit}
use Rattle.st_tree.specs.declared.units.Unit.{Unit}
use Rattle.st_checks.specs.Declarations.{Text, declares_class, class_of_unit}
use Rattle.st_checks.specs.Bodies.{Scope}
use Rattle.st_checks.specs.Meanings.{Meaning, Undeclared, Fixed, Assignable, declares}
use Rattle.st_checks.specs.declared.scopes.Variable.{Variable}
use Rattle.st_checks.specs.declared.scopes.Variable.TheVariants as variables

-- the bytes behind a reference, as a key
abbrev pub Bytes : Type 0
Bytes = Bor Text

abbrev pub same_bytes : Bytes → Bytes → Bool
same_bytes a b = bytes_eq a.now b.now

-- ---- the names of one scope

abbrev pub option_if : {A : Type 0} → Bool → A → Option A
option_if true a = Some a
option_if false a = None

-- what the name is in this scope alone
abbrev pub variable_in : Scope → Text → Option Variable
variable_in s name = option_or (option_if (declares name s.parameters) variables.Parameter) (option_if (declares name s.temporaries) variables.Temporary)

abbrev pub of_variable : Option Variable → Meaning
of_variable None = Undeclared
of_variable (Some variables.Parameter) = Fixed
of_variable (Some variables.Temporary) = Assignable

-- the map has what each name is in the scope
pub record HasVariables {S : Type 0} (scope : Scope) (m : HashMap Bytes Variable S) : Type 0 where
  pub each : (name : Bytes) → get same_bytes m name ≡ variable_in scope name.now

-- the map gains these names as such variables, unless it has them
pub record Gains {S : Type 0} (old : HashMap Bytes Variable S) (names : List Name) (v : Variable) (new : HashMap Bytes Variable S) : Type 0 where
  pub each : (name : Bytes) → get same_bytes new name ≡ option_or (get same_bytes old name) (option_if (declares name.now names) v)

-- the list has the names of the map
pub record AreSeen {S : Type 0} (seen : List Text) (m : HashMap Bytes Variable S) : Type 0 where
  pub each : (name : Bytes) → list_any (bytes_eq name.now) seen ≡ is_some (get same_bytes m name)

-- ---- the names of classes

-- the set has just these names
pub record IsSetOf {S : Type 0} (names : List Text) (s : HashSet Bytes S) : Type 0 where
  pub each : (name : Text) → contains_by (λ k. bytes_eq name k.now) s ≡ list_any (bytes_eq name) names

-- the map has, for each name, the first class unit of that name
pub record HasClasses {S : Type 0} (units : List Unit) (m : HashMap Bytes ClassUnit S) : Type 0 where
  pub each : (name : Bytes) → get same_bytes m name ≡ class_of_unit (find (declares_class name.now) units)

-- the class that the unit declares, where it has this name
abbrev pub class_if_named : Text → Unit → Option ClassUnit
class_if_named name u = if declares_class name u then class_of_unit (Some u) else None

-- the map gains the unit's class, unless it has the name
pub record GainsClass {S : Type 0} (old : HashMap Bytes ClassUnit S) (u : Unit) (new : HashMap Bytes ClassUnit S) : Type 0 where
  pub each : (name : Bytes) → get same_bytes new name ≡ option_or (get same_bytes old name) (class_if_named name.now u)
