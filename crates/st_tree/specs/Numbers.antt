-- The numbers of a file's elements, and the annotations of its units (ANSI NCITS 319, 4.1).
use Rattle.std.specs.Prelude.{ℕ, ◌+◌, List, [], ◌∷◌, ◌++◌, length, take}
use Rattle.std.specs.List.{sum_by}
use Rattle.st_tree.specs.declared.units.UnitKind.{UnitKind}
use Rattle.st_tree.specs.declared.units.UnitKind.TheVariants as kinds
use Rattle.st_tree.specs.declared.units.Annotation.{Annotation}
use Rattle.st_tree.specs.declared.units.Unit.{Unit}

abbrev pub unit : UnitKind → List Annotation → Unit
unit kind annotations = record { kind = kind; annotations = annotations }

-- the last unit gains an annotation
abbrev pub annotated : List Unit → Annotation → List Unit
annotated [] a = []
annotated (u ∷ []) a = unit u.kind (u.annotations ++ a ∷ []) ∷ []
annotated (u ∷ v ∷ us) a = u ∷ annotated (v ∷ us) a

-- how many elements a kind of unit takes: one, or two with a text
abbrev pub elements_of_kind : UnitKind → ℕ
elements_of_kind (kinds.Initializer target body) = 2
elements_of_kind (kinds.PoolInitializer pool name body) = 2
elements_of_kind (kinds.ProgramInitializer body) = 2
elements_of_kind (kinds.Method class method) = 2
elements_of_kind (kinds.ClassMethod class method) = 2
elements_of_kind kind = 1

-- how many elements a unit takes: those of its kind, and one for each annotation
abbrev pub elements_of : Unit → ℕ
elements_of u = elements_of_kind u.kind + length u.annotations

-- how many elements these units take
abbrev pub elements_in : List Unit → ℕ
elements_in units = sum_by elements_of units

-- the number of a unit's first element: one more than the elements of the units before it
abbrev pub element_of : List Unit → ℕ → ℕ
element_of units n = elements_in (take n units) + 1
