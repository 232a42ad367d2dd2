-- Where a class or a text is found.
use Rattle.std.proofs.Common.{◌≡◌, ℕ, suc, ◌+◌, ◌<◌, Bool, true, false, ◌&&◌, List, [], ◌∷◌, length, Option, Some, None, refl, ap, arith, nat_eq}
use Rattle.std.proofs.lemmas.Slice.Eq.{bytes_eq-Decides}
use Rattle.std.specs.Str.{bytes_eq}
use Rattle.st_code.specs.Texts.{Text, same_text}
use Rattle.st_code.specs.Resolved.{ClassNames, class_in}
use Rattle.st_code.specs.Definitions.{or_zero}

pub false-from : (b : Bool) → (b ≡ true → ⊥) → b ≡ false
false-from true not = absurd (not refl)
false-from false not = refl

pub bytes_eq-false : (t u : List ℕ) → (t ≡ u → ⊥) → bytes_eq t u ≡ false
bytes_eq-false t u not = false-from (bytes_eq t u) (λ e. not ((bytes_eq-Decides t u).0 e))

first-byte : (b c d : Bool) → c ≡ d → elim b [ true ↦ c | false ↦ false ] ≡ (b && d)
first-byte true c d is = is
first-byte false c d is = refl

pub same_text-bytes_eq : (t u : Text) → same_text t u ≡ bytes_eq t u
unfolding same_text
same_text-bytes_eq [] [] = refl
same_text-bytes_eq [] (b ∷ u) = refl
same_text-bytes_eq (a ∷ t) [] = refl
same_text-bytes_eq (a ∷ t) (b ∷ u) = first-byte (nat_eq a b) (same_text t u) (bytes_eq t u) (same_text-bytes_eq t u)

-- a place that is found is one of the list
below-next : (b : Bool) (n m k : ℕ) (rest : Option ℕ) → ((k : ℕ) → rest ≡ Some k → k < n + 1 + m) → elim b [ true ↦ Some n | false ↦ rest ] ≡ Some k → k < n + suc m
below-next true n m k rest low is = let same : n ≡ k = ap or_zero is in omega (arith, same)
below-next false n m k rest low is = omega (arith, low k is)

pub class_in-below : (classes : List ClassNames) (name : Text) (n k : ℕ) → class_in n classes name ≡ Some k → k < n + length classes
class_in-below [] name n k is = absurd (grind (arith, is))
class_in-below (c ∷ classes) name n k is = below-next (same_text c.row.name name) n (length classes) k (class_in (suc n) classes name) (λ j at. omega (arith, class_in-below classes name (suc n) j at)) is

below-zero : (o : Option ℕ) (m : ℕ) → 0 < m → ((k : ℕ) → o ≡ Some k → k < m) → or_zero o < m
below-zero None m some low = some
below-zero (Some k) m some low = low k refl

pub superclass-below : (classes : List ClassNames) (name : Text) → 0 < length classes → or_zero (class_in 0 classes name) < length classes
superclass-below classes name some = below-zero (class_in 0 classes name) (length classes) some (λ k is. omega (arith, class_in-below classes name 0 k is))
