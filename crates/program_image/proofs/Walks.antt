-- The walk over superclasses, which have smaller numbers.
use Rattle.std.proofs.Common.{◌≡◌, ℕ, zero, suc, ◌+◌, ◌<◌, Bool, true, false, ◌&&◌, List, [], ◌∷◌, ◌++◌, map, length, Option, Some, None, IfSome, refl, ap, sym, ◌∙◌, arith, nat_eq, nat_lt}
use Rattle.std.proofs.lemmas.Bool.{ltb-true, lt-ltb, eq-eqb, eqb-true}
use Rattle.std.specs.List.{slice_get}
use Rattle.std.specs.Option.{unwrap_or}
use Rattle.std.proofs.lemmas.Option.{get_or_from_slice_get, unwrap_or-slice_get}
use Rattle.std.proofs.Math.ListN.{get_or-map}
use Rattle.st_tree.specs.declared.units.Unit.{Unit}
use Rattle.st_code.specs.Texts.{Text}
use Rattle.st_code.specs.Program.{Program, class_at}
use Rattle.st_code.specs.Named.{NamedClass, NamedUnit, ClassUnit, GlobalUnit, PoolVariableUnit, InitializerUnit, PoolInitializerUnit, ProgramUnit, MethodUnit, ClassMethodUnit}
use Rattle.st_code.specs.Written.{named_units}
use Rattle.st_code.specs.Resolved.{ClassNames, Names, no_names, class_in, class_names_at}
use Rattle.st_code.specs.Definitions.{class_over, class_row, declared_unit, declared_units, names_of, built_in_names, or_zero}
use Rattle.st_code.specs.BuiltIns.{built_in_class_rows}
use Rattle.st_code.specs.Lookup.{some_superclasses, superclasses, holds, inherits}
use Rattle.program_image.specs.Classes.{is_below, falls, IsNumbered}
use Rattle.program_image.specs.Spelled.{names_in}
use Rattle.program_image.specs.Images.{image_names, image_program}
use Rattle.program_image.proofs.Places.{superclass-below, false-from}
use Rattle.program_image.proofs.Classes.{falls-push, first-numbered}

-- ---- superclasses fall

left-true : (a b : Bool) → (a && b) ≡ true → a ≡ true
left-true true b is = refl
left-true false b is = is

right-true : (a b : Bool) → (a && b) ≡ true → b ≡ true
right-true true b is = is
right-true false b is = absurd (grind (arith, is))

below-some : (o : Option ℕ) (n s : ℕ) → is_below o n ≡ true → o ≡ Some s → s < n
below-some o n s below is = ltb-true s n (sym (ap (λ p. is_below p n) is) ∙ below)

none-there : (s : ℕ) → None ≡ Some s → ⊥
none-there s is = grind (arith, is)

fall-at : (n : ℕ) (classes : List ClassNames) (i s : ℕ) → falls n classes ≡ true → (class_names_at classes i).row.superclass ≡ Some s → s < n + i
fall-at n [] i s fall is = absurd (none-there s is)
fall-at n (c ∷ classes) zero s fall is = omega (arith, below-some c.row.superclass n s (left-true (is_below c.row.superclass n) (falls (suc n) classes) fall) is)
fall-at n (c ∷ classes) (suc i) s fall is = omega (arith, fall-at (suc n) classes i s (right-true (is_below c.row.superclass n) (falls (suc n) classes) fall) is)

pub superclass-lower : (classes : List ClassNames) (i s : ℕ) → falls 0 classes ≡ true → (class_names_at classes i).row.superclass ≡ Some s → s < i
superclass-lower classes i s fall is = omega (arith, fall-at 0 classes i s fall is)

pub if-some : {X : Type 0} → (o : Option X) (P : X → Type 0) → ((x : X) → o ≡ Some x → P x) → IfSome o P
if-some None P h = tt
if-some (Some x) P h = h x refl

-- ---- so do those of an image

record Falling (x : Names) : Type 0 where
  pub some : 0 < length x.classes
  pub fall : falls 0 x.classes ≡ true

some-pushed : (classes : List ClassNames) (c : ClassNames) → 0 < length (classes ++ c ∷ [])
some-pushed [] c = omega arith
some-pushed (d ∷ classes) c = omega arith

class-falls : (x : Names) (c : NamedClass) → Falling x → Falling (declared_unit x (ClassUnit c))
class-falls x c h =
    let s : ℕ = or_zero (class_in 0 x.classes c.superclass) in
    let made : ClassNames = class_over c s (class_names_at x.classes s) (length x.shared) in
    let low : nat_lt s (0 + length x.classes) ≡ true = lt-ltb s (0 + length x.classes) (omega (arith, superclass-below x.classes c.superclass h.some)) in
    record {
      some = some-pushed x.classes made;
      fall = falls-push 0 x.classes made ∙ ap (λ b. b && nat_lt s (0 + length x.classes)) h.fall ∙ low;
    }

unit-falls : (x : Names) (u : NamedUnit) → Falling x → Falling (declared_unit x u)
unit-falls x (ClassUnit c) h = class-falls x c h
unit-falls x (GlobalUnit name) h = record { some = h.some; fall = h.fall }
unit-falls x (PoolVariableUnit pool name) h = record { some = h.some; fall = h.fall }
unit-falls x (InitializerUnit target b) h = h
unit-falls x (PoolInitializerUnit pool name b) h = h
unit-falls x (ProgramUnit b) h = h
unit-falls x (MethodUnit class m) h = h
unit-falls x (ClassMethodUnit class m) h = h

units-fall : (x : Names) (units : List NamedUnit) → Falling x → Falling (declared_units x units)
units-fall x [] h = h
units-fall x (u ∷ units) h = units-fall (declared_unit x u) units (unit-falls x u h)

pub image-falls : (units : List Unit) → falls 0 (image_names units).classes ≡ true
unfolding image_names names_of
image-falls units =
    let names : List Text = names_in (named_units units) in
    let first : IsNumbered (record { names = names; classes = map built_in_names built_in_class_rows; shared = [] }) = first-numbered names (map built_in_names built_in_class_rows) refl in
    (units-fall (record { names = names; classes = map built_in_names built_in_class_rows; shared = [] }) (named_units units) (record { some = first.some; fall = first.fall })).fall

pub class-at : (units : List Unit) (i : ℕ) → class_at (image_program units) i ≡ (class_names_at (image_names units).classes i).row
unfolding image_program class_at
class-at units i = get_or-map class_row (image_names units).classes i no_names

-- the row of a class that is there, and of one that isn't
pub row-some : (units : List Unit) (class : ℕ) (c : ClassNames) → Some c ≡ slice_get (image_names units).classes class → class_at (image_program units) class ≡ c.row
row-some units class c is = class-at units class ∙ ap (λ (x : ClassNames). x.row) (get_or_from_slice_get (image_names units).classes class c no_names (sym is))

pub row-none : (units : List Unit) (class : ℕ) → None ≡ slice_get (image_names units).classes class → class_at (image_program units) class ≡ no_names.row
row-none units class is = class-at units class ∙ ap (λ (x : ClassNames). x.row) (sym (unwrap_or-slice_get (image_names units).classes class no_names) ∙ ap (λ (o : Option ClassNames). unwrap_or o no_names) (sym is))

pub image-lower : (units : List Unit) (i s : ℕ) → (class_at (image_program units) i).superclass ≡ Some s → s < i
image-lower units i s is = superclass-lower (image_names units).classes i s (image-falls units) (sym (ap (λ r. r.superclass) (class-at units i)) ∙ is)

-- ---- the walk, a class at a time

module _ (p : Program) (lower : (i s : ℕ) → (class_at p i).superclass ≡ Some s → s < i) where
  abbrev above_of : Option ℕ → ℕ → List ℕ
  above_of None n = []
  above_of (Some above) n = some_superclasses p n above

  above-same : (o : Option ℕ) (n : ℕ) → elim o [ None ↦ [] | Some above ↦ some_superclasses p n above ] ≡ above_of o n
  above-same None n = refl
  above-same (Some above) n = refl

  enough-above : (n m class : ℕ) (o : Option ℕ) → ((above : ℕ) → above < n → above < m → some_superclasses p n above ≡ some_superclasses p m above)
      → (class_at p class).superclass ≡ o → class < suc n → class < suc m → above_of o n ≡ above_of o m
  enough-above n m class None same is low far = refl
  enough-above n m class (Some above) same is low far = let under = lower class above is in same above (omega (arith, low, under)) (omega (arith, far, under))

  -- any number of classes that is large enough gives the same walk
  enough : (n m class : ℕ) → class < n → class < m → some_superclasses p n class ≡ some_superclasses p m class
  enough zero m class low far = absurd (omega (arith, low))
  enough (suc n) zero class low far = absurd (omega (arith, far))
  enough (suc n) (suc m) class low far =
      ap (λ cs. class ∷ cs) (above-same (class_at p class).superclass n ∙ enough-above n m class (class_at p class).superclass (λ above. enough n m above) refl low far ∙ sym (above-same (class_at p class).superclass m))

  abbrev behind : Option ℕ → List ℕ
  behind None = []
  behind (Some above) = superclasses p above

  behind-same : (class : ℕ) (o : Option ℕ) → (class_at p class).superclass ≡ o → above_of o class ≡ behind o
  unfolding superclasses
  behind-same class None is = refl
  behind-same class (Some above) is = enough class (suc above) above (lower class above is) (omega arith)

  -- a class, and those behind it
  pub superclasses-step : (class : ℕ) (o : Option ℕ) → (class_at p class).superclass ≡ o → superclasses p class ≡ class ∷ behind o
  unfolding superclasses
  superclasses-step class o is =
      ap (λ cs. class ∷ cs) (above-same (class_at p class).superclass class ∙ ap (λ q. above_of q class) is ∙ behind-same class o is)

  holds-here : (b : Bool) (rest : Bool) → b ≡ true → elim b [ true ↦ true | false ↦ rest ] ≡ true
  holds-here b rest is = rw is refl

  holds-later : (b : Bool) (rest : Bool) → b ≡ false → elim b [ true ↦ true | false ↦ rest ] ≡ rest
  holds-later b rest is = rw is refl

  pub inherits-here : (class ancestor : ℕ) → nat_eq class ancestor ≡ true → inherits p class ancestor ≡ true
  unfolding inherits
  inherits-here class ancestor is =
      ap (λ cs. holds cs ancestor) (superclasses-step class (class_at p class).superclass refl) ∙ holds-here (nat_eq class ancestor) (holds (behind (class_at p class).superclass) ancestor) is

  pub inherits-none : (class ancestor : ℕ) → nat_eq class ancestor ≡ false → (class_at p class).superclass ≡ None → inherits p class ancestor ≡ false
  unfolding inherits
  inherits-none class ancestor not none =
      ap (λ cs. holds cs ancestor) (superclasses-step class None none) ∙ holds-later (nat_eq class ancestor) false not

  pub inherits-above : (class ancestor above : ℕ) → nat_eq class ancestor ≡ false → (class_at p class).superclass ≡ Some above → inherits p class ancestor ≡ inherits p above ancestor
  unfolding inherits
  inherits-above class ancestor above not is =
      ap (λ cs. holds cs ancestor) (superclasses-step class (Some above) is) ∙ holds-later (nat_eq class ancestor) (holds (superclasses p above) ancestor) not

pub number-same : (a b : ℕ) → a ≡ b → nat_eq a b ≡ true
number-same a b is = eq-eqb a b is

pub number-not : (a b : ℕ) → (a ≡ b → ⊥) → nat_eq a b ≡ false
number-not a b not = false-from (nat_eq a b) (λ e. not (eqb-true a b e))
