-- The order of texts, place by place.
use Rattle.std.proofs.Common.{◌≡◌, ◌≢◌, ℕ, ◌+◌, ◌<◌, ◌≤◌, Bool, true, false, [], ◌∷◌, length, get_or, drop, nat_eq, nat_lt, nat_le, cond, refl, sym, ◌∙◌, arith}
use Rattle.std.specs.Ordering.{nat_cmp, is_eq, is_lt}
use Rattle.std.specs.declared.cmp.Ordering.{Ordering}
use borrow.Author.Tests.{eq-eqb, ne_eqb}
use Rattle.std.proofs.lemmas.Bool.{lt-ltb, le-ltb}
use Rattle.std.proofs.lemmas.Bool.Decides.{nat_tests}
use Rattle.std.proofs.lemmas.List.{drop_more, drop_all, length-map, get_or-map}
use Rattle.st_code.specs.Texts.{Text, same_text, text_less, to_lower}
use Rattle.st_collections.specs.declared.texts.Folding.{Folding}
use Rattle.st_collections.specs.Orders.{text_order, folded, folded_byte}

-- ---- what the order says

unequal : (less same : Bool) → same ≡ false → false ≡ is_eq (cond less Ordering.Less (cond same Ordering.Equal Ordering.Greater))
unequal true same e = refl
unequal false same e = rw e refl

same_step : (b : Bool) (x y : ℕ) (t u : Text) → nat_eq x y ≡ b → same_text t u ≡ is_eq (text_order t u) → elim b [ true ↦ same_text t u | false ↦ false ] ≡ is_eq (elim b [ true ↦ text_order t u | false ↦ nat_cmp x y ])
same_step true x y t u e h = h
same_step false x y t u e h = unequal (nat_lt x y) (nat_eq x y) e

pub same_text-is : (t u : Text) → same_text t u ≡ is_eq (text_order t u)
unfolding same_text
same_text-is [] [] = refl
same_text-is [] (b ∷ u) = refl
same_text-is (a ∷ t) [] = refl
same_text-is (a ∷ t) (b ∷ u) = same_step (nat_eq a b) a b t u refl (same_text-is t u)

le_lt : (x y : ℕ) → nat_eq x y ≡ false → nat_le x y ≡ nat_lt x y
le_lt x y e = grind (arith, nat_tests)

below : (less same : Bool) → less ≡ is_lt (cond less Ordering.Less (cond same Ordering.Equal Ordering.Greater))
below true same = refl
below false true = refl
below false false = refl

less_step : (b : Bool) (x y : ℕ) (t u : Text) → nat_eq x y ≡ b → text_less t u ≡ is_lt (text_order t u) → elim b [ true ↦ text_less t u | false ↦ nat_le x y ] ≡ is_lt (elim b [ true ↦ text_order t u | false ↦ nat_cmp x y ])
less_step true x y t u e h = h
less_step false x y t u e h = le_lt x y e ∙ below (nat_lt x y) (nat_eq x y)

pub text_less-is : (t u : Text) → text_less t u ≡ is_lt (text_order t u)
unfolding text_less
text_less-is [] [] = refl
text_less-is [] (b ∷ u) = refl
text_less-is (a ∷ t) [] = refl
text_less-is (a ∷ t) (b ∷ u) = less_step (nat_eq a b) a b t u refl (text_less-is t u)

-- ---- from a place on

order_true : (b : Bool) (x y : Ordering) → b ≡ true → elim b [ true ↦ x | false ↦ y ] ≡ x
order_true true x y e = refl
order_true false x y e = cc

order_false : (b : Bool) (x y : Ordering) → b ≡ false → elim b [ true ↦ x | false ↦ y ] ≡ y
order_false true x y e = cc
order_false false x y e = refl

pub order_same : (t u : Text) (i : ℕ) → i < length t → i < length u → get_or t i 0 ≡ get_or u i 0 → text_order (drop i t) (drop i u) ≡ text_order (drop (i + 1) t) (drop (i + 1) u)
order_same t u i h k e =
    rw (drop_more t i 0 h, drop_more u i 0 k)
    (order_true (nat_eq (get_or t i 0) (get_or u i 0)) (text_order (drop (i + 1) t) (drop (i + 1) u)) (nat_cmp (get_or t i 0) (get_or u i 0)) (eq-eqb (get_or t i 0) (get_or u i 0) e))

order_differs : (t u : Text) (i : ℕ) → i < length t → i < length u → get_or t i 0 ≢ get_or u i 0 → text_order (drop i t) (drop i u) ≡ nat_cmp (get_or t i 0) (get_or u i 0)
order_differs t u i h k e =
    rw (drop_more t i 0 h, drop_more u i 0 k)
    (order_false (nat_eq (get_or t i 0) (get_or u i 0)) (text_order (drop (i + 1) t) (drop (i + 1) u)) (nat_cmp (get_or t i 0) (get_or u i 0)) (ne_eqb (get_or t i 0) (get_or u i 0) e))

cmp_less : (x y : ℕ) → x < y → nat_cmp x y ≡ Ordering.Less
cmp_less x y h = rw (lt-ltb x y h) refl

cmp_greater : (x y : ℕ) → y < x → nat_cmp x y ≡ Ordering.Greater
cmp_greater x y h = let low : y ≤ x = omega arith in let differs : x ≡ y → ⊥ = λ e. omega arith in rw (le-ltb x y low, ne_eqb x y differs) refl

-- ---- texts as they are compared

pub length-folded : (f : Folding) (t : Text) → length (folded f t) ≡ length t
length-folded Folding.Exact t = refl
length-folded Folding.Small t = length-map t to_lower

pub get_or-folded : (f : Folding) (t : Text) (i : ℕ) → i < length t → get_or (folded f t) i 0 ≡ folded_byte f (get_or t i 0)
get_or-folded Folding.Exact t i h = refl
get_or-folded Folding.Small t i h = get_or-map to_lower t i 0 0 h

-- the order of two texts is that of what is behind a place
abbrev pub SameBehind : Folding → Text → Text → ℕ → Type 0
SameBehind f t u i = text_order (folded f t) (folded f u) ≡ text_order (drop i (folded f t)) (drop i (folded f u))

pub behind_differs : (f : Folding) (t u : Text) (i x y : ℕ) → SameBehind f t u i → i < length t → i < length u → x ≡ folded_byte f (get_or t i 0) → y ≡ folded_byte f (get_or u i 0) → x ≢ y → nat_cmp x y ≡ text_order (folded f t) (folded f u)
behind_differs f t u i x y same h k ex ey differs =
    let h' : i < length (folded f t) = rw (length-folded f t) h in
    let k' : i < length (folded f u) = rw (length-folded f u) k in
    let x' : get_or (folded f t) i 0 ≡ x = get_or-folded f t i h ∙ sym ex in
    let y' : get_or (folded f u) i 0 ≡ y = get_or-folded f u i k ∙ sym ey in
    sym (same ∙ order_differs (folded f t) (folded f u) i h' k' (λ e. differs (sym x' ∙ e ∙ y')) ∙ (rw (x', y') refl))

pub behind_less : (f : Folding) (t u : Text) (i x y : ℕ) → SameBehind f t u i → i < length t → i < length u → x ≡ folded_byte f (get_or t i 0) → y ≡ folded_byte f (get_or u i 0) → x < y → Ordering.Less ≡ text_order (folded f t) (folded f u)
behind_less f t u i x y same h k ex ey less = sym (cmp_less x y less) ∙ behind_differs f t u i x y same h k ex ey (λ e. omega arith)

pub behind_greater : (f : Folding) (t u : Text) (i x y : ℕ) → SameBehind f t u i → i < length t → i < length u → x ≡ folded_byte f (get_or t i 0) → y ≡ folded_byte f (get_or u i 0) → y < x → Ordering.Greater ≡ text_order (folded f t) (folded f u)
behind_greater f t u i x y same h k ex ey less = sym (cmp_greater x y less) ∙ behind_differs f t u i x y same h k ex ey (λ e. omega arith)

pub behind_more : (f : Folding) (t u : Text) (i x y : ℕ) → SameBehind f t u i → i < length t → i < length u → x ≡ folded_byte f (get_or t i 0) → y ≡ folded_byte f (get_or u i 0) → x ≡ y → SameBehind f t u (i + 1)
behind_more f t u i x y same h k ex ey e =
    let h' : i < length (folded f t) = rw (length-folded f t) h in
    let k' : i < length (folded f u) = rw (length-folded f u) k in
    let x' : get_or (folded f t) i 0 ≡ x = get_or-folded f t i h ∙ sym ex in
    let y' : get_or (folded f u) i 0 ≡ y = get_or-folded f u i k ∙ sym ey in
    same ∙ order_same (folded f t) (folded f u) i h' k' (x' ∙ e ∙ sym y')

pub end_less : (f : Folding) (t u : Text) (i : ℕ) → SameBehind f t u i → i ≡ length t → length t < length u → Ordering.Less ≡ text_order (folded f t) (folded f u)
end_less f t u i same e h =
    let none : length (folded f t) ≤ i = rw (length-folded f t) (omega arith) in
    let some : i < length (folded f u) = rw (length-folded f u) (omega arith) in
    sym (same ∙ (rw (drop_all i (folded f t) none, drop_more (folded f u) i 0 some) refl))

pub end_greater : (f : Folding) (t u : Text) (i : ℕ) → SameBehind f t u i → i ≡ length u → length u < length t → Ordering.Greater ≡ text_order (folded f t) (folded f u)
end_greater f t u i same e h =
    let none : length (folded f u) ≤ i = rw (length-folded f u) (omega arith) in
    let some : i < length (folded f t) = rw (length-folded f t) (omega arith) in
    sym (same ∙ (rw (drop_all i (folded f u) none, drop_more (folded f t) i 0 some) refl))

pub end_equal : (f : Folding) (t u : Text) (i : ℕ) → SameBehind f t u i → i ≡ length t → length t ≡ length u → Ordering.Equal ≡ text_order (folded f t) (folded f u)
end_equal f t u i same e h =
    let none : length (folded f t) ≤ i = rw (length-folded f t) (omega arith) in
    let none' : length (folded f u) ≤ i = rw (length-folded f u) (omega arith) in
    sym (same ∙ (rw (drop_all i (folded f t) none, drop_all i (folded f u) none') refl))
