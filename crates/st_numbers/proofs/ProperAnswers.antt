-- Each Fraction that is answered stands in lowest terms.
use Rattle.std.proofs.Common.{◌≡◌, ℕ, suc, zero, ◌*◌, ◌/◌, ◌<◌, Bool, true, false, ◌==◌, ◌&&◌, not, if◌then◌else◌, refl, arith}
use Rattle.std.specs.Prelude.{ℤ, pos, negsuc, neg_ℤ, int_div, int_rem, unsigned_abs, ◌+ℤ◌, ◌-ℤ◌, ◌*ℤ◌}
use Rattle.std.specs.Int.{is_negative}
use Rattle.std.proofs.lemmas.Bool.{eqb-false}
use Rattle.std.proofs.lemmas.Int.{ints}
use Rattle.std.proofs.Math.Nat.{mul-pos}
use Rattle.object_heap.specs.declared.value.Value.{Value}
use Rattle.st_numbers.specs.declared.message.Number.{Number}
use Rattle.st_numbers.specs.declared.message.NumberArgument.{NumberArgument}
use Rattle.st_numbers.specs.declared.message.NumberAnswer.{NumberAnswer}
use Rattle.st_numbers.specs.declared.message.NumberMessage.{NumberMessage}
use Rattle.st_numbers.specs.Gcd.{gcd}
use Rattle.st_numbers.specs.Numbers.{in_range, signed, differ, numerator_of, denominator_of, is_less, IsProper, IsProperArgument}
use Rattle.st_numbers.specs.Answers
use Rattle.st_numbers.specs.Answers.{IsProperAnswer, answer_of, integer_answer, ratio_answer, quotient_answer, total_answer, sum_over, sum_answer, product_answer, divide_answer, truth, given_number, given_integers, max_answer, min_answer, negated_answer, reciprocal_answer, floor_answer, modulo_answer, quo_answer, rem_answer, gcd_answer, lcm_answer, bit_and_answer, bit_or_answer, bit_xor_answer, shift_answer, zero_divide}
use Rattle.st_numbers.proofs.GcdLaws.{gcd-divides_right, part-positive, coprime-reduced}

abs-signed : (negative : Bool) (n : ℕ) → unsigned_abs (signed negative n) ≡ n
abs-signed false n = refl
abs-signed true zero = refl
abs-signed true (suc n) = refl

abs-negated : (z : ℤ) → unsigned_abs (neg_ℤ z) ≡ unsigned_abs z
abs-negated (pos zero) = refl
abs-negated (pos (suc n)) = refl
abs-negated (negsuc n) = refl

-- whichever of two answers it is
either : (b : Bool) (x y : NumberAnswer) → IsProperAnswer x → IsProperAnswer y → IsProperAnswer (if b then x else y)
either true x y h k = h
either false x y h k = k

denominator-positive : (x : Number) → IsProper x → 0 < denominator_of x
denominator-positive (Number.Integer n) h = omega arith
denominator-positive (Number.Fraction n (pos d)) h = omega (arith, ints, h.0)
denominator-positive (Number.Fraction n (negsuc d)) h = omega arith

ratio-proper : (negative : Bool) (n d : ℕ) → 0 < d → gcd n d ≡ 1 → IsProperAnswer (ratio_answer (signed negative n) d)
ratio-proper negative n d l e =
    either (in_range (signed negative n) && in_range (pos d)) (if d == 1 then NumberAnswer.Value (Value.Integer (signed negative n)) else NumberAnswer.Fraction (signed negative n) (pos d)) NumberAnswer.IntegerLimit (by_test (d == 1) refl) tt
  where
    by_test : (t : Bool) → (d == 1) ≡ t → IsProperAnswer (if t then NumberAnswer.Value (Value.Integer (signed negative n)) else NumberAnswer.Fraction (signed negative n) (pos d))
    by_test true h = tt
    by_test false h = (omega (arith, ints, eqb-false d 1 h), rw (abs-signed negative n) e)

quotient-proper : (negative : Bool) (n d : ℕ) → 0 < d → IsProperAnswer (quotient_answer negative n d)
quotient-proper negative n d l = ratio-proper negative (n / gcd n d) (d / gcd n d) (part-positive (gcd n d) d l (gcd-divides_right n d)) (coprime-reduced n d l)

sum-proper : (plus : ℤ → ℤ → ℤ) (x y : Number) → IsProper x → IsProper y → IsProperAnswer (sum_answer plus x y)
sum-proper plus x y hx hy =
    let below : 0 < denominator_of x * (denominator_of y / gcd (denominator_of x) (denominator_of y)) = mul-pos (denominator-positive x hx) (part-positive (gcd (denominator_of x) (denominator_of y)) (denominator_of y) (denominator-positive y hy) (gcd-divides_right (denominator_of x) (denominator_of y))) in
    over (numerator_of x *ℤ pos (denominator_of y / gcd (denominator_of x) (denominator_of y))) (numerator_of y *ℤ pos (denominator_of x / gcd (denominator_of x) (denominator_of y))) (denominator_of x * (denominator_of y / gcd (denominator_of x) (denominator_of y))) below
  where
    over : (left right : ℤ) (below : ℕ) → 0 < below → IsProperAnswer (sum_over plus left right below)
    over left right below l = either (in_range left && in_range right && in_range (pos below)) (total_answer plus left right below) NumberAnswer.IntegerLimit (either (in_range (plus left right)) (quotient_answer (is_negative (plus left right)) (unsigned_abs (plus left right)) below) NumberAnswer.IntegerLimit (quotient-proper (is_negative (plus left right)) (unsigned_abs (plus left right)) below l) tt) tt

product-proper : (x y : Number) → IsProper x → IsProper y → IsProperAnswer (product_answer x y)
product-proper x y hx hy = quotient-proper (differ (numerator_of x) (numerator_of y)) (unsigned_abs (numerator_of x) * unsigned_abs (numerator_of y)) (denominator_of x * denominator_of y) (mul-pos (denominator-positive x hx) (denominator-positive y hy))

divide-proper : (x y : Number) → IsProper x → IsProper y → IsProperAnswer (divide_answer x y)
divide-proper x y hx hy = by_test (unsigned_abs (numerator_of y) == 0) refl
  where
    by_test : (t : Bool) → (unsigned_abs (numerator_of y) == 0) ≡ t → IsProperAnswer (if t then zero_divide else quotient_answer (differ (numerator_of x) (numerator_of y)) (unsigned_abs (numerator_of x) * denominator_of y) (denominator_of x * unsigned_abs (numerator_of y)))
    by_test true h = tt
    by_test false h = quotient-proper (differ (numerator_of x) (numerator_of y)) (unsigned_abs (numerator_of x) * denominator_of y) (denominator_of x * unsigned_abs (numerator_of y)) (mul-pos (denominator-positive x hx) (omega (arith, eqb-false (unsigned_abs (numerator_of y)) 0 h)))

negated-proper : (x : Number) → IsProper x → IsProperAnswer (negated_answer x)
negated-proper (Number.Integer n) h = either (in_range (neg_ℤ n)) (NumberAnswer.Value (Value.Integer (neg_ℤ n))) NumberAnswer.IntegerLimit tt tt
negated-proper (Number.Fraction n d) h = either (in_range (neg_ℤ n)) (NumberAnswer.Fraction (neg_ℤ n) d) NumberAnswer.IntegerLimit (h.0, rw (abs-negated n) h.1) tt

truth-proper : (b : Bool) → IsProperAnswer (truth b)
truth-proper true = tt
truth-proper false = tt

integer-proper : (z : ℤ) → IsProperAnswer (integer_answer z)
integer-proper z = either (in_range z) (NumberAnswer.Value (Value.Integer z)) NumberAnswer.IntegerLimit tt tt

-- ---- by what came with the message

number-proper : (f : Number → Number → NumberAnswer) (x : Number) (a : NumberArgument) → ((y : Number) → IsProper y → IsProperAnswer (f x y)) → IsProperArgument a → IsProperAnswer (given_number f x a)
number-proper f x NumberArgument.None h k = tt
number-proper f x (NumberArgument.Number y) h k = h y k
number-proper f x (NumberArgument.Other v) h k = tt

integers-proper : (f : ℤ → ℤ → NumberAnswer) (x : Number) (a : NumberArgument) → ((p q : ℤ) → IsProperAnswer (f p q)) → IsProperArgument a → IsProperAnswer (given_number (given_integers f) x a)
integers-proper f x a h k = number-proper (given_integers f) x a (λ y i. both x y) k
  where
    both : (x y : Number) → IsProperAnswer (given_integers f x y)
    both (Number.Integer p) (Number.Integer q) = h p q
    both (Number.Integer p) (Number.Fraction n d) = tt
    both (Number.Fraction n d) y = tt

divided : (y : ℤ) (z : ℤ) → IsProperAnswer (if unsigned_abs y == 0 then zero_divide else integer_answer z)
divided y z = either (unsigned_abs y == 0) zero_divide (integer_answer z) tt (integer-proper z)

even-proper : (x : Number) → IsProperAnswer (Answers.even_answer x)
even-proper (Number.Integer n) = truth-proper _
even-proper (Number.Fraction n d) = tt

odd-proper : (x : Number) → IsProperAnswer (Answers.odd_answer x)
odd-proper (Number.Integer n) = truth-proper _
odd-proper (Number.Fraction n d) = tt

equal-proper : (x : Number) (a : NumberArgument) → IsProperAnswer (Answers.equal_answer x a)
equal-proper x NumberArgument.None = tt
equal-proper x (NumberArgument.Number y) = truth-proper _
equal-proper x (NumberArgument.Other v) = tt

denominator-proper : (x : Number) → IsProperAnswer (Answers.denominator_answer x)
denominator-proper (Number.Integer n) = tt
denominator-proper (Number.Fraction n d) = tt

truncated-proper : (x : Number) → IsProperAnswer (Answers.truncated_answer x)
truncated-proper (Number.Integer n) = tt
truncated-proper (Number.Fraction n d) = tt

pub answer-proper : (m : NumberMessage) (x : Number) (a : NumberArgument) → IsProper x → IsProperArgument a → IsProperAnswer (answer_of m x a)
answer-proper NumberMessage.Add x a h k = number-proper (sum_answer ◌+ℤ◌) x a (λ y i. sum-proper ◌+ℤ◌ x y h i) k
answer-proper NumberMessage.Subtract x a h k = number-proper (sum_answer ◌-ℤ◌) x a (λ y i. sum-proper ◌-ℤ◌ x y h i) k
answer-proper NumberMessage.Multiply x a h k = number-proper product_answer x a (λ y i. product-proper x y h i) k
answer-proper NumberMessage.Divide x a h k = number-proper divide_answer x a (λ y i. divide-proper x y h i) k
answer-proper NumberMessage.FloorDivide x a h k = integers-proper floor_answer x a (λ p q. divided q (Answers.floor_quotient p q)) k
answer-proper NumberMessage.Modulo x a h k = integers-proper modulo_answer x a (λ p q. divided q (p -ℤ q *ℤ Answers.floor_quotient p q)) k
answer-proper NumberMessage.Quo x a h k = integers-proper quo_answer x a (λ p q. divided q (int_div p q)) k
answer-proper NumberMessage.Rem x a h k = integers-proper rem_answer x a (λ p q. divided q (int_rem p q)) k
answer-proper NumberMessage.Less x a h k = number-proper (λ x y. truth (is_less x y)) x a (λ y i. truth-proper (is_less x y)) k
answer-proper NumberMessage.Greater x a h k = number-proper (λ x y. truth (is_less y x)) x a (λ y i. truth-proper (is_less y x)) k
answer-proper NumberMessage.LessOrEqual x a h k = number-proper (λ x y. truth (not (is_less y x))) x a (λ y i. truth-proper (not (is_less y x))) k
answer-proper NumberMessage.GreaterOrEqual x a h k = number-proper (λ x y. truth (not (is_less x y))) x a (λ y i. truth-proper (not (is_less x y))) k
answer-proper NumberMessage.Equal x a h k = equal-proper x a
answer-proper NumberMessage.Negated x a h k = negated-proper x h
answer-proper NumberMessage.Abs x a h k = either (is_negative (numerator_of x)) (negated_answer x) NumberAnswer.Receiver (negated-proper x h) tt
answer-proper NumberMessage.Sign x a h k = tt
answer-proper NumberMessage.Even x a h k = even-proper x
answer-proper NumberMessage.Odd x a h k = odd-proper x
answer-proper NumberMessage.IsZero x a h k = truth-proper (unsigned_abs (numerator_of x) == 0)
answer-proper NumberMessage.Max x a h k = number-proper max_answer x a (λ y i. either (is_less x y) NumberAnswer.Argument NumberAnswer.Receiver tt tt) k
answer-proper NumberMessage.Min x a h k = number-proper min_answer x a (λ y i. either (is_less y x) NumberAnswer.Argument NumberAnswer.Receiver tt tt) k
answer-proper NumberMessage.Gcd x a h k = integers-proper gcd_answer x a (λ p q. integer-proper (pos (gcd (unsigned_abs p) (unsigned_abs q)))) k
answer-proper NumberMessage.Lcm x a h k = integers-proper lcm_answer x a (λ p q. integer-proper (pos (unsigned_abs p * unsigned_abs q / gcd (unsigned_abs p) (unsigned_abs q)))) k
answer-proper NumberMessage.BitAnd x a h k = integers-proper bit_and_answer x a (λ p q. tt) k
answer-proper NumberMessage.BitOr x a h k = integers-proper bit_or_answer x a (λ p q. tt) k
answer-proper NumberMessage.BitXor x a h k = integers-proper bit_xor_answer x a (λ p q. tt) k
answer-proper NumberMessage.BitShift x a h k = integers-proper shift_answer x a (λ p q. integer-proper (Answers.shifted p q)) k
answer-proper NumberMessage.Numerator x a h k = tt
answer-proper NumberMessage.Denominator x a h k = denominator-proper x
answer-proper NumberMessage.Truncated x a h k = truncated-proper x
answer-proper NumberMessage.Reciprocal x a h k = divide-proper (Number.Integer (pos 1)) x tt h
