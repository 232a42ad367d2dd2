-- The built-in classes, and a class that stands behind the others.
use Rattle.std.proofs.Common.{◌≡◌, ℕ, suc, ◌+◌, Bool, true, false, ◌&&◌, List, [], ◌∷◌, ◌++◌, map, length, refl, ap, ◌∙◌, arith}
use Rattle.st_base.specs.BuiltIns as base
use Rattle.st_code.specs.Texts.{Text}
use Rattle.st_code.specs.Resolved.{ClassNames}
use Rattle.st_code.specs.Definitions.{built_in_names}
use Rattle.st_code.specs.BuiltIns.{built_in_class_rows}
use Rattle.program_image.specs.Classes.{slots_named, built_in_class, is_below, falls, IsNumbered}

pub built_ins : map built_in_class base.classes ≡ map built_in_names built_in_class_rows
unfolding base.classes built_in_class_rows slots_named
built_ins = refl

first-count : length (map built_in_names built_in_class_rows) ≡ 30
unfolding built_in_class_rows
first-count = refl

first-fall : falls 0 (map built_in_names built_in_class_rows) ≡ true
unfolding built_in_class_rows
first-fall = refl

pub first-numbered : (names : List Text) (classes : List ClassNames) → classes ≡ map built_in_names built_in_class_rows → IsNumbered (record { names = names; classes = classes; shared = [] })
first-numbered names classes is =
    let count : length classes ≡ 30 = ap length is ∙ first-count in
    record { some = omega (arith, count); classes = omega (arith, count); shared = omega arith; fall = ap (falls 0) is ∙ first-fall }

and-step : (b c d e : Bool) → c ≡ (d && e) → (b && c) ≡ ((b && d) && e)
and-step true c d e is = is
and-step false c d e is = refl

pub falls-push : (n : ℕ) (classes : List ClassNames) (c : ClassNames) → falls n (classes ++ c ∷ []) ≡ (falls n classes && is_below c.row.superclass (n + length classes))
falls-push n [] c = and-last (is_below c.row.superclass n) ∙ ap (is_below c.row.superclass) (the-same n)
  where
    and-last : (b : Bool) → (b && true) ≡ b
    and-last true = refl
    and-last false = refl

    the-same : (n : ℕ) → n ≡ n + 0
    the-same n = omega arith
falls-push n (d ∷ classes) c =
    let step : suc n + length classes ≡ n + suc (length classes) = omega arith in
    and-step (is_below d.row.superclass n) (falls (suc n) (classes ++ c ∷ [])) (falls (suc n) classes) (is_below c.row.superclass (n + suc (length classes)))
    (falls-push (suc n) classes c ∙ ap (λ m. falls (suc n) classes && is_below c.row.superclass m) step)
