-- An annotation goes to the last unit.
use Rattle.std.proofs.Common.{◌≡◌, ℕ, zero, suc, ◌-◌, List, [], ◌∷◌, ◌++◌, length, get_or, set, refl, ap, arith}
use Rattle.st_tree.specs.declared.units.Annotation.{Annotation}
use Rattle.st_tree.specs.declared.units.Unit.{Unit}
use Rattle.st_tree.specs.Numbers.{unit, annotated}

pub annotated_last : (us : List Unit) (n : ℕ) (x : Unit) (a : Annotation) → n ≡ length us - 1 → x ≡ get_or us n x → annotated us a ≡ set us n (unit x.kind (x.annotations ++ a ∷ []))
annotated_last [] zero x a h e = refl
annotated_last [] (suc n) x a h e = absurd (omega (arith, h))
annotated_last (u ∷ []) zero x a h e = let k : u ≡ x = cc in ap (λ (y : Unit). unit y.kind (y.annotations ++ a ∷ []) ∷ []) k
annotated_last (u ∷ []) (suc n) x a h e = absurd (omega (arith, h))
annotated_last (u ∷ v ∷ us) zero x a h e = absurd (omega (arith, h))
annotated_last (u ∷ v ∷ us) (suc n) x a h e = ap (λ (xs : List Unit). u ∷ xs) (annotated_last (v ∷ us) n x a (omega (arith, h)) e)
