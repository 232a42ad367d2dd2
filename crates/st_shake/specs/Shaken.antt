-- The units of a file that are kept: all but the methods whose selector isn't needed. The annotations of a unit stand in it.
use Rattle.std.specs.Prelude.{Bool, true, false, List, [], ◌∷◌, Option, Some, None}
use Rattle.st_tree.specs.declared.units.Unit.{Unit}
use Rattle.st_code.specs.Texts.{Text}
use Rattle.st_code.specs.Named.{NamedUnit, ClassUnit, GlobalUnit, PoolVariableUnit, InitializerUnit, PoolInitializerUnit, ProgramUnit, MethodUnit, ClassMethodUnit}
use Rattle.st_code.specs.Resolved.{has_text}
use Rattle.st_code.specs.Written.{named_unit, named_units}
use Rattle.st_shake.specs.Needed.{needed}

-- a method whose selector is among these is kept, and so is all that is no method
abbrev pub is_kept : List Text → NamedUnit → Bool
is_kept selectors (MethodUnit class m) = has_text selectors m.selector
is_kept selectors (ClassMethodUnit class m) = has_text selectors m.selector
is_kept selectors (ClassUnit c) = true
is_kept selectors (GlobalUnit name) = true
is_kept selectors (PoolVariableUnit pool name) = true
is_kept selectors (InitializerUnit target b) = true
is_kept selectors (PoolInitializerUnit pool name b) = true
is_kept selectors (ProgramUnit b) = true

-- a unit that says nothing of a run is kept
abbrev pub is_kept_kind : List Text → Option NamedUnit → Bool
is_kept_kind selectors None = true
is_kept_kind selectors (Some u) = is_kept selectors u

abbrev pub stays : List Text → Unit → Bool
stays selectors u = is_kept_kind selectors (named_unit u)

abbrev pub before_if : Bool → Unit → List Unit → List Unit
before_if true u units = u ∷ units
before_if false u units = units

-- the units that the test holds of
abbrev pub units_that : (Unit → Bool) → List Unit → List Unit
units_that test [] = []
units_that test (u ∷ units) = before_if (test u) u (units_that test units)

-- the units without the methods whose selector isn't among these
abbrev pub kept : List Text → List Unit → List Unit
kept selectors units = units_that (stays selectors) units

-- the units of a file, shaken
abbrev pub shaken : List Unit → List Unit
shaken units = kept (needed (named_units units)) units
