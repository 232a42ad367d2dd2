-- What the static rules give the definitions of a run: each class of the file stands under Object, an exception class or an earlier class of the file.
use Rattle.std.specs.Prelude.{◌≡◌, ℕ, Bool, true, ◌&&◌, ◌||◌, List, [], ◌∷◌, map, Option, Some, None, nat_eq, nat_le}
use Rattle.st_tree.specs.declared.units.Unit.{Unit as FileUnit}
use Rattle.st_code.specs.BuiltIns.{object_class, exception_class, warning_class, built_in_class_rows}
use Rattle.st_code.specs.Definitions.{built_in_names}
use Rattle.st_code.specs.Named.{NamedUnit, ClassUnit}
use Rattle.st_code.specs.Resolved.{class_in}
use Rattle.st_code.specs.Written.{named_units}
use Rattle.st_checks.specs.StaticRules.{MeetsRules}
use Rattle.st_sound.specs.KnownCollections.{Extends}

-- Object, or one of the exception classes
abbrev pub is_extensible : ℕ → Bool
is_extensible class = nat_eq class object_class || (nat_le exception_class class && nat_le class warning_class)

-- a built-in class with this name, if there is one, may have classes of the file under it
abbrev pub may_stand_over : Option ℕ → Bool
may_stand_over None = true
may_stand_over (Some class) = is_extensible class

abbrev pub StandWell : List NamedUnit → Type 0
StandWell [] = Unit {0}
StandWell (ClassUnit c ∷ units) = (may_stand_over (class_in 0 (map built_in_names built_in_class_rows) c.superclass) ≡ true) × StandWell units
StandWell (u ∷ units) = StandWell units

abbrev pub CheckedClassesStandWell : Type 0
CheckedClassesStandWell = (units : List FileUnit) → MeetsRules units → StandWell (named_units units)

-- so no class stands under one whose instances take elements
abbrev pub CheckedClassesExtend : Type 0
CheckedClassesExtend = (units : List FileUnit) → MeetsRules units → Extends (named_units units)
