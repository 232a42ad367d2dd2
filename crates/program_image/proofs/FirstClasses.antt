-- The classes of an image begin with the built-in ones, where `Object` has no superclass and stands above `Class`.
use Rattle.std.proofs.Common.{◌≡◌, ℕ, ◌<◌, List, [], ◌∷◌, ◌++◌, map, length, Some, None, refl, ap, sym, ◌∙◌, append_assoc, arith}
use Rattle.std.proofs.lemmas.List.{append-nil, get_or_append_left}
use Rattle.st_tree.specs.declared.units.Unit.{Unit}
use Rattle.st_code.specs.Program.{class_at}
use Rattle.st_code.specs.Named.{NamedClass, NamedUnit, ClassUnit, GlobalUnit, PoolVariableUnit, InitializerUnit, PoolInitializerUnit, ProgramUnit, MethodUnit, ClassMethodUnit}
use Rattle.st_code.specs.Written.{named_units}
use Rattle.st_code.specs.Resolved.{ClassNames, Names, no_names, class_in, class_names_at}
use Rattle.st_code.specs.Definitions.{class_over, declared_unit, declared_units, names_of, built_in_names, or_zero}
use Rattle.st_code.specs.BuiltIns.{built_in_class_rows}
use Rattle.program_image.specs.Spelled.{names_in}
use Rattle.program_image.specs.Images.{image_names, image_program}
use Rattle.program_image.proofs.Walks.{class-at}

abbrev first_classes : List ClassNames
first_classes = map built_in_names built_in_class_rows

record Begins (x : Names) : Type 0 where
  pub more : List ClassNames
  pub whole : x.classes ≡ first_classes ++ more

class-begins : (x : Names) (c : NamedClass) → Begins x → Begins (declared_unit x (ClassUnit c))
class-begins x c h =
    let s : ℕ = or_zero (class_in 0 x.classes c.superclass) in
    let made : ClassNames = class_over c s (class_names_at x.classes s) (length x.shared) in
    record { more = h.more ++ made ∷ []; whole = ap (λ cs. cs ++ made ∷ []) h.whole ∙ append_assoc first_classes h.more (made ∷ []) }

unit-begins : (x : Names) (u : NamedUnit) → Begins x → Begins (declared_unit x u)
unit-begins x (ClassUnit c) h = class-begins x c h
unit-begins x (GlobalUnit name) h = record { more = h.more; whole = h.whole }
unit-begins x (PoolVariableUnit pool name) h = record { more = h.more; whole = h.whole }
unit-begins x (InitializerUnit target b) h = h
unit-begins x (PoolInitializerUnit pool name b) h = h
unit-begins x (ProgramUnit b) h = h
unit-begins x (MethodUnit class m) h = h
unit-begins x (ClassMethodUnit class m) h = h

units-begin : (x : Names) (units : List NamedUnit) → Begins x → Begins (declared_units x units)
units-begin x [] h = h
units-begin x (u ∷ units) h = units-begin (declared_unit x u) units (unit-begins x u h)

image-begins : (units : List Unit) → Begins (image_names units)
unfolding image_names names_of
image-begins units =
    let first : Names = record { names = names_in (named_units units); classes = first_classes; shared = [] } in
    units-begin first (named_units units) (record { more = []; whole = sym (append-nil first_classes) })

first-count : length first_classes ≡ 30
unfolding built_in_class_rows
first-count = refl

first-class : (units : List Unit) (class : ℕ) → class < 30 → class_at (image_program units) class ≡ (class_names_at first_classes class).row
first-class units class low =
    let h : Begins (image_names units) = image-begins units in
    let within : class < length first_classes = omega (arith, low, first-count) in
    class-at units class ∙ ap (λ cs. (class_names_at cs class).row) h.whole ∙ ap (λ c. c.row) (get_or_append_left first_classes h.more no_names class within)

class-superclass : (class_names_at first_classes 20).row.superclass ≡ Some 0
unfolding built_in_class_rows
class-superclass = refl

object-superclass : (class_names_at first_classes 0).row.superclass ≡ None
unfolding built_in_class_rows
object-superclass = refl

pub class-superclass-is : (units : List Unit) → (class_at (image_program units) 20).superclass ≡ Some 0
class-superclass-is units = ap (λ r. r.superclass) (first-class units 20 (omega arith)) ∙ class-superclass

pub object-superclass-is : (units : List Unit) → (class_at (image_program units) 0).superclass ≡ None
object-superclass-is units = ap (λ r. r.superclass) (first-class units 0 (omega arith)) ∙ object-superclass
