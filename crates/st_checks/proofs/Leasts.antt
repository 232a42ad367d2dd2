-- The lesser of two places, and the least of a list.
use Rattle.std.proofs.Common.{◌≡◌, ℕ, Bool, true, false, cond, List, [], ◌∷◌, ◌++◌, Option, None, Some, min, refl, ap, sym, ◌∙◌, arith}
use Rattle.st_checks.specs.StaticRules.{least}
use Rattle.st_checks.specs.Views.{lesser_of}

min_assoc : (a b c : ℕ) → min a (min b c) ≡ min (min a b) c
min_assoc a b c = omega arith

pub lesser_of-none : (a : Option ℕ) → lesser_of a None ≡ a
lesser_of-none None = refl
lesser_of-none (Some m) = refl

pub lesser_of-assoc : (a b c : Option ℕ) → lesser_of a (lesser_of b c) ≡ lesser_of (lesser_of a b) c
lesser_of-assoc None b c = refl
lesser_of-assoc (Some a) None c = refl
lesser_of-assoc (Some a) (Some b) None = refl
lesser_of-assoc (Some a) (Some b) (Some c) = ap Some (min_assoc a b c)

abbrev lesser : ℕ → Option ℕ → ℕ
lesser n None = n
lesser n (Some m) = min n m

some-lesser : (n : ℕ) (o : Option ℕ) → Some (lesser n o) ≡ lesser_of (Some n) o
some-lesser n None = refl
some-lesser n (Some m) = refl

pub least-cons : (n : ℕ) (ns : List ℕ) → least (n ∷ ns) ≡ lesser_of (Some n) (least ns)
least-cons n ns = some-lesser n (least ns)

pub least-append : (xs ys : List ℕ) → least (xs ++ ys) ≡ lesser_of (least xs) (least ys)
least-append [] ys = refl
least-append (x ∷ xs) ys =
    least-cons x (xs ++ ys)
    ∙ ap (lesser_of (Some x)) (least-append xs ys)
    ∙ lesser_of-assoc (Some x) (least xs) (least ys)
    ∙ ap (λ (o : Option ℕ). lesser_of o (least ys)) (sym (least-cons x xs))

-- ---- a place that counts where a test holds

abbrev pub place_if : Bool → ℕ → Option ℕ
place_if true n = Some n
place_if false n = None

pub least-if : (b : Bool) (n : ℕ) → least (cond b (n ∷ []) []) ≡ place_if b n
least-if true n = refl
least-if false n = refl
