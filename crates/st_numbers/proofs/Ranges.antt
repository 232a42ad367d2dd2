-- Which numbers fit, where the code knows only that a size is too great.
use Rattle.std.proofs.Common.{◌≡◌, ◌⊎◌, inl, inr, ℕ, suc, zero, ◌+◌, ◌*◌, ◌/◌, ◌%◌, ◌^◌, ◌<◌, ◌≤◌, Bool, true, false, not, ◌==◌, ◌&&◌, if◌then◌else◌, nat_lt, refl, ap, sym, ◌∙◌, arith, lit<, add-zero, add-one}
use Rattle.std.specs.Prelude.{FitsSigned, Some, None, ◌≢◌, ℤ, pos, negsuc, neg_ℤ, ◌-ℤ◌, ◌*ℤ◌, unsigned_abs, min}
use Rattle.std.specs.Int.{is_negative, div_ceil, int_shr, w128}
use Rattle.std.proofs.lemmas.Bool.{eqb-true, eqb-false, lt-ltb, ltb-true, ltb-false}
use Rattle.std.proofs.lemmas.Bool.Decides.{nat_tests}
use Rattle.std.proofs.lemmas.Int.{ints}
use Rattle.std.proofs.Math.Bool.{and-false}
use Rattle.std.proofs.Math.Nat.{mul-le-mul, pow-le-pow_right, div-le_self, min-eq_left, min-eq_right, mul_comm, mul-div_assoc, mul-suc, mul-zero, div-eq_of_lt}
use mathlib.Core.Bool.{beq}
use mir.Val.{of_z}
use Rattle.object_heap.specs.declared.value.Value.{Value}
use Rattle.st_numbers.specs.declared.message.Number.{Number}
use Rattle.st_numbers.specs.declared.message.NumberAnswer.{NumberAnswer}
use Rattle.st_numbers.specs.declared.arithmetic.Terms.{Terms}
use Rattle.st_numbers.specs.Gcd.{gcd}
use Rattle.st_numbers.specs.Numbers.{in_range, signed, differ, numerator_of, denominator_of}
use Rattle.st_numbers.specs.Answers.{integer_answer, ratio_answer, quotient_answer, total_answer, sum_over, sum_answer, shifted, shift_answer, modulo_answer, floor_quotient, floor_rest}
use Rattle.st_numbers.proofs.GcdLaws.{ap2, not_zero, gcd-cross, product-parts, gcd-positive, gcd-divides_left, gcd-divides_right}

pub beyond : (negative : Bool) (n : ℕ) → 2 ^ 128 ≤ n → in_range (signed negative n) ≡ false
beyond false n l = grind (arith, nat_tests)
beyond true zero l = let none : ⊥ = omega (arith, l) in absurd none
beyond true (suc n) l = grind (arith, nat_tests)

-- an integer that is too great is the limit
pub integer-limit : (negative : Bool) (n : ℕ) → 2 ^ 128 ≤ n → NumberAnswer.IntegerLimit ≡ integer_answer (signed negative n)
integer-limit negative n l = rw (beyond negative n l) refl

-- a quotient with a part that is too great is the limit
pub top-limit : (negative : Bool) (n d : ℕ) → 2 ^ 128 ≤ n → NumberAnswer.IntegerLimit ≡ ratio_answer (signed negative n) d
top-limit negative n d l = rw (beyond negative n l) refl

pub bottom-limit : (z : ℤ) (d : ℕ) → 2 ^ 128 ≤ d → NumberAnswer.IntegerLimit ≡ ratio_answer z d
bottom-limit z d l = rw (beyond false d l, and-false (in_range z)) refl

-- a product of quotients in lowest terms, divided crosswise
pub product-crosswise : (negative : Bool) (a b c d : ℕ) → gcd a b ≡ 1 → gcd c d ≡ 1 → 0 < b → 0 < d → quotient_answer negative (a * c) (b * d) ≡ ratio_answer (signed negative (a / gcd a d * (c / gcd c b))) (b / gcd c b * (d / gcd a d))
product-crosswise negative a b c d e f lb ld =
    let common : gcd (a * c) (b * d) ≡ gcd a d * gcd c b = gcd-cross a b c d e f lb ld in
    let lf : 0 < gcd a d = gcd-positive a d ld in
    let le : 0 < gcd c b = gcd-positive c b lb in
    let top : a * c / gcd (a * c) (b * d) ≡ a / gcd a d * (c / gcd c b) = ap (λ g. a * c / g) common ∙ product-parts a c (gcd a d) (gcd c b) lf le (gcd-divides_left a d) (gcd-divides_left c b) in
    let low : b * d / gcd (a * c) (b * d) ≡ b / gcd c b * (d / gcd a d) = ap (λ g. b * d / g) (common ∙ mul_comm (gcd a d) (gcd c b)) ∙ product-parts b d (gcd c b) (gcd a d) le lf (gcd-divides_right c b) (gcd-divides_right a d) in
    ap2 (λ n m. ratio_answer (signed negative n) m) top low

-- ---- sums

-- two terms that fit
pub sum-over-terms : (plus : ℤ → ℤ → ℤ) (left right : ℤ) (below : ℕ) (t : Terms) → Some t ≡ (if in_range left && in_range right && in_range (pos below) then Some (record { left = left; right = right; below = below }) else None) → total_answer plus t.left t.right t.below ≡ sum_over plus left right below
sum-over-terms plus left right below t e = by_test (in_range left && in_range right && in_range (pos below)) e
  where
    by_test : (b : Bool) → Some t ≡ (if b then Some (record { left = left; right = right; below = below }) else None) → total_answer plus t.left t.right t.below ≡ (if b then total_answer plus left right below else NumberAnswer.IntegerLimit)
    by_test true e =
        let same : t ≡ record { left = left; right = right; below = below } = cc in
        ap (λ u. total_answer plus u.left u.right u.below) same
    by_test false e = cc

pub sum-of-terms : (plus : ℤ → ℤ → ℤ) (x y : Number) (t : Terms) → Some t ≡ (if in_range (numerator_of x *ℤ pos (denominator_of y / gcd (denominator_of x) (denominator_of y))) && in_range (numerator_of y *ℤ pos (denominator_of x / gcd (denominator_of x) (denominator_of y))) && in_range (pos (denominator_of x * (denominator_of y / gcd (denominator_of x) (denominator_of y)))) then Some (record { left = numerator_of x *ℤ pos (denominator_of y / gcd (denominator_of x) (denominator_of y)); right = numerator_of y *ℤ pos (denominator_of x / gcd (denominator_of x) (denominator_of y)); below = denominator_of x * (denominator_of y / gcd (denominator_of x) (denominator_of y)) }) else None) → total_answer plus t.left t.right t.below ≡ sum_answer plus x y
sum-of-terms plus x y t e = sum-over-terms plus (numerator_of x *ℤ pos (denominator_of y / gcd (denominator_of x) (denominator_of y))) (numerator_of y *ℤ pos (denominator_of x / gcd (denominator_of x) (denominator_of y))) (denominator_of x * (denominator_of y / gcd (denominator_of x) (denominator_of y))) t e

-- ---- multiples

pub multiple-is : (m n : ℕ) → m * n / gcd m n ≡ m / gcd m n * n
multiple-is m n =
    ap (λ k. k / gcd m n) (mul_comm m n) ∙ mul-div_assoc (gcd m n) n (gcd-divides_left m n) ∙ mul_comm n (m / gcd m n)

-- ---- rounded down

none-below : (n : ℕ) → nat_lt n 0 ≡ false
none-below n = grind (arith, nat_tests)

neg-times : (b k : ℕ) → negsuc b *ℤ neg_ℤ (pos k) ≡ pos (suc b * k)
neg-times b zero = rw (mul-zero (suc b)) refl
neg-times b (suc k) = refl

pos-times : (b k : ℕ) → pos b *ℤ neg_ℤ (pos k) ≡ neg_ℤ (pos (b * k))
pos-times b zero = rw (mul-zero b) refl
pos-times b (suc k) = refl

-- a quotient rounded up, times the divisor
ceil-parts : (a d : ℕ) → 0 < d → d * div_ceil a d ≡ a + floor_rest true a d
ceil-parts a d l = by_test (a % d == 0) refl
  where
    by_test : (t : Bool) → (a % d == 0) ≡ t → d * div_ceil a d ≡ a + floor_rest true a d
    by_test true e =
        let z : a % d ≡ 0 = eqb-true (a % d) 0 e in
        let whole : d * (a / d) ≡ a = omega (arith, z, l) in
        rw (e, z) (omega (arith, whole, add-zero (a / d)))
    by_test false e =
        let some : a % d ≢ 0 = eqb-false (a % d) 0 e in
        let one : min 1 (a % d) ≡ 1 = omega (arith, some) in
        let up : d * suc (a / d) ≡ d * (a / d) + d = mul-suc d (a / d) in
        let next : a / d + 1 ≡ suc (a / d) = omega arith in
        rw (e, one, next) (omega (arith, up, l))

pub modulo-is : (x y : ℤ) → 0 < unsigned_abs y → x -ℤ y *ℤ floor_quotient x y ≡ signed (is_negative y) (floor_rest (differ x y) (unsigned_abs x) (unsigned_abs y))
modulo-is (pos a) (pos b) l =
    let parts : b * (a / b) + a % b ≡ a = omega (arith, l) in
    rw (none-below a, none-below b) (omega (arith, ints, parts))
modulo-is (pos a) (negsuc b) l =
    rw (none-below a, neg-times b (div_ceil a (suc b)), ceil-parts a (suc b) l) (omega (arith, ints))
modulo-is (negsuc a) (pos b) l =
    rw (none-below b, pos-times b (div_ceil (suc a) b), ceil-parts (suc a) b l) (omega (arith, ints))
modulo-is (negsuc a) (negsuc b) l =
    let parts : suc b * (suc a / suc b) + suc a % suc b ≡ suc a = omega arith in
    omega (arith, ints, parts)

-- ---- shifts

pub shift-limit : (negative : Bool) (n k : ℕ) → 0 < n → 128 ≤ k → NumberAnswer.IntegerLimit ≡ integer_answer (signed negative (n * 2 ^ k))
shift-limit negative n k ln lk = integer-limit negative (n * 2 ^ k) (great n k ln lk)
  where
    great : (n k : ℕ) → 0 < n → 128 ≤ k → 2 ^ 128 ≤ n * 2 ^ k
    great n k ln lk = omega (arith, mul-le-mul ln (pow-le-pow_right {n = 2} (lit< tt) lk))

-- more places than a number has leave nothing
gone : (n k : ℕ) → n < 2 ^ 127 → 127 ≤ k → n / 2 ^ k ≡ n / 2 ^ 127
gone n k less l =
    let more : 2 ^ 127 ≤ 2 ^ k = pow-le-pow_right {n = 2} (lit< tt) l in
    div-eq_of_lt (omega (arith, less, more)) ∙ sym (div-eq_of_lt less)

pub shift-all : (x : ℤ) (k : ℕ) → in_range x ≡ true → 127 ≤ k → int_shr x k ≡ int_shr x 127
shift-all (pos n) k fits l = ap pos (gone n k (ltb-true n (2 ^ 127) fits) l)
shift-all (negsuc n) k fits l = ap negsuc (gone n k (ltb-true n (2 ^ 127) fits) l)

pub shift-fits : (x : ℤ) (k : ℕ) → in_range x ≡ true → in_range (int_shr x k) ≡ true
shift-fits (pos n) k fits = lt-ltb (n / 2 ^ k) (2 ^ 127) (omega (arith, ltb-true n (2 ^ 127) fits, div-le_self n (2 ^ k)))
shift-fits (negsuc n) k fits = lt-ltb (n / 2 ^ k) (2 ^ 127) (omega (arith, ltb-true n (2 ^ 127) fits, div-le_self n (2 ^ k)))

pub shift-left : (x by : ℤ) → is_negative by ≡ false → signed (is_negative x) (unsigned_abs x * 2 ^ unsigned_abs by) ≡ shifted x by
unfolding shifted
shift-left (pos a) (pos n) h = rw (none-below a) refl
shift-left (negsuc a) (pos n) h = refl
shift-left x (negsuc n) h = cc

pub shift-right : (x by : ℤ) → is_negative by ≡ true → int_shr x (unsigned_abs by) ≡ shifted x by
unfolding shifted
shift-right x (pos n) h = let none : true ≡ false = sym h ∙ none-below n in cc
shift-right x (negsuc n) h = ap (λ k. int_shr x k) (sym (add-one n))

pub fits-in_range : (x : ℤ) → FitsSigned w128 x → in_range x ≡ true
fits-in_range (pos n) h = lt-ltb n (2 ^ 127) h.sfits
fits-in_range (negsuc n) h = lt-ltb n (2 ^ 127) h.sfits

pub in_range-fits : (x : ℤ) → in_range x ≡ true → FitsSigned w128 x
in_range-fits (pos n) h = record { sfits = ltb-true n (2 ^ 127) h }
in_range-fits (negsuc n) h = record { sfits = ltb-true n (2 ^ 127) h }

-- ---- the same as the code has it

not-both : (s t : Bool) → not (beq s t) ≡ (if s then not t else t)
not-both true true = refl
not-both true false = refl
not-both false true = refl
not-both false false = refl

pub abs-not-zero : (y : ℤ) → (of_z w128 y ≡ 0 → ⊥) → 0 < unsigned_abs y
abs-not-zero (pos zero) h = absurd (h refl)
abs-not-zero (pos (suc n)) h = omega arith
abs-not-zero (negsuc n) h = omega arith

pub modulo-found : (x y : ℤ) → 0 < unsigned_abs y → integer_answer (signed (is_negative y) (floor_rest (not (beq (is_negative x) (is_negative y))) (unsigned_abs x) (unsigned_abs y))) ≡ modulo_answer x y
modulo-found x y l = rw (not-both (is_negative x) (is_negative y), not_zero (unsigned_abs y) l, modulo-is x y l) refl

pub shift-min : (x : ℤ) (k : ℕ) → FitsSigned w128 x → int_shr x (min k 127) ≡ int_shr x k
shift-min x k fits = by_order (le-or-le k 127)
  where
    le-or-le : (m n : ℕ) → (m ≤ n) ⊎ (n ≤ m)
    le-or-le m n = by_test (nat_lt m n) refl
      where
        by_test : (t : Bool) → nat_lt m n ≡ t → (m ≤ n) ⊎ (n ≤ m)
        by_test true e = inl (omega (arith, ltb-true m n e))
        by_test false e = inr (ltb-false m n e)

    by_order : (k ≤ 127) ⊎ (127 ≤ k) → int_shr x (min k 127) ≡ int_shr x k
    by_order (inl l) = ap (λ n. int_shr x n) (min-eq_left l)
    by_order (inr l) = ap (λ n. int_shr x n) (min-eq_right l) ∙ sym (shift-all x k (fits-in_range x fits) l)

pub shr-fits : (x : ℤ) (k : ℕ) → FitsSigned w128 x → FitsSigned w128 (int_shr x k)
shr-fits x k fits = in_range-fits (int_shr x k) (shift-fits x k (fits-in_range x fits))

pub shift-right-answer : (x by r : ℤ) → FitsSigned w128 x → is_negative by ≡ true → r ≡ int_shr x (unsigned_abs by) → NumberAnswer.Value (Value.Integer r) ≡ shift_answer x by
shift-right-answer x by r fits h e =
    let there : in_range r ≡ true = ap in_range e ∙ shift-fits x (unsigned_abs by) (fits-in_range x fits) in
    let answered : integer_answer r ≡ NumberAnswer.Value (Value.Integer r) = rw there refl in
    sym answered ∙ ap integer_answer (e ∙ shift-right x by h)
