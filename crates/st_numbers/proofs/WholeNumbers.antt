-- Fractions over 1 are the integers' own: what the rule for any two numbers says of two Integers.
use Rattle.std.proofs.Common.{◌≡◌, ℕ, ◌*◌, ◌/◌, Bool, true, false, ◌&&◌, if◌then◌else◌, refl, ap, ◌∙◌, arith}
use Rattle.std.specs.Prelude.{FitsSigned, ℤ, pos, negsuc, unsigned_abs, ◌*ℤ◌, int_lt}
use Rattle.std.specs.Int.{is_negative, w128}
use Rattle.std.proofs.lemmas.Bool.Decides.{nat_tests}
use Rattle.std.proofs.Math.IntN.{*ℤ-one, one as one_ℤ}
use Rattle.object_heap.specs.declared.value.Value.{Value}
use Rattle.st_numbers.specs.declared.message.Number.{Number}
use Rattle.st_numbers.specs.declared.message.NumberAnswer.{NumberAnswer}
use Rattle.st_numbers.specs.Gcd.{gcd}
use Rattle.st_numbers.specs.Numbers.{in_range, signed, differ, is_less}
use Rattle.st_numbers.specs.Answers.{integer_answer, ratio_answer, quotient_answer, total_answer, sum_answer, product_answer}
use Rattle.st_numbers.proofs.GcdLaws.{gcd-one_right}
use Rattle.st_numbers.proofs.Ranges.{fits-in_range}

not-negative : (n : ℕ) → is_negative (pos n) ≡ false
not-negative n = grind (arith, nat_tests)

signed-size : (z : ℤ) → signed (is_negative z) (unsigned_abs z) ≡ z
signed-size (pos n) = rw (not-negative n) refl
signed-size (negsuc n) = refl

over-one : (z : ℤ) → ratio_answer z 1 ≡ integer_answer z
over-one z = by_test (in_range z)
  where
    by_test : (fits : Bool) → (if fits && in_range (pos 1) then NumberAnswer.Value (Value.Integer z) else NumberAnswer.IntegerLimit) ≡ (if fits then NumberAnswer.Value (Value.Integer z) else NumberAnswer.IntegerLimit)
    by_test true = refl
    by_test false = refl

quotient-by-one : (negative : Bool) (n : ℕ) → quotient_answer negative n 1 ≡ integer_answer (signed negative n)
quotient-by-one negative n =
    let common : gcd n 1 ≡ 1 = gcd-one_right n in
    let same : n / 1 ≡ n = omega arith in
    rw (common, same) (over-one (signed negative n))

total-over-one : (plus : ℤ → ℤ → ℤ) (a b : ℤ) → total_answer plus a b 1 ≡ integer_answer (plus a b)
total-over-one plus a b =
    rw (quotient-by-one (is_negative (plus a b)) (unsigned_abs (plus a b)), signed-size (plus a b)) (twice (in_range (plus a b)))
  where
    twice : (fits : Bool) → (if fits then (if fits then NumberAnswer.Value (Value.Integer (plus a b)) else NumberAnswer.IntegerLimit) else NumberAnswer.IntegerLimit) ≡ (if fits then NumberAnswer.Value (Value.Integer (plus a b)) else NumberAnswer.IntegerLimit)
    twice true = refl
    twice false = refl

pub integer_sum : (plus : ℤ → ℤ → ℤ) (a b : ℤ) → FitsSigned w128 a → FitsSigned w128 b → sum_answer plus (Number.Integer a) (Number.Integer b) ≡ integer_answer (plus a b)
unfolding one_ℤ
integer_sum plus a b fa fb =
    let left : a *ℤ pos 1 ≡ a = *ℤ-one a in
    let right : b *ℤ pos 1 ≡ b = *ℤ-one b in
    let one : gcd 1 1 ≡ 1 = gcd-one_right 1 in
    rw (one, left, right, fits-in_range a fa, fits-in_range b fb) (total-over-one plus a b)

sizes-product : (a b : ℤ) → signed (differ a b) (unsigned_abs a * unsigned_abs b) ≡ a *ℤ b
sizes-product (pos a) (pos b) = rw (not-negative a, not-negative b) refl
sizes-product (pos a) (negsuc b) = rw (not-negative a) refl
sizes-product (negsuc a) (pos b) = rw (not-negative b) refl
sizes-product (negsuc a) (negsuc b) = refl

pub integer_product : (a b : ℤ) → product_answer (Number.Integer a) (Number.Integer b) ≡ integer_answer (a *ℤ b)
integer_product a b = quotient-by-one (differ a b) (unsigned_abs a * unsigned_abs b) ∙ ap integer_answer (sizes-product a b)

pub integer_less : (a b : ℤ) → is_less (Number.Integer a) (Number.Integer b) ≡ int_lt a b
unfolding one_ℤ
integer_less a b =
    let left : a *ℤ pos 1 ≡ a = *ℤ-one a in
    let right : b *ℤ pos 1 ≡ b = *ℤ-one b in
    rw (left, right) refl
