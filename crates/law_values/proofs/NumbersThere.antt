-- What a message to a number does at once gives values that are there: the receiver, the argument, an Integer, a truth value, or a new object.
use Rattle.std.proofs.Common.{ℕ, ◌/◌, ◌*◌, ◌==◌, ℤ, pos, negsuc, neg_ℤ, ◌+ℤ◌, ◌-ℤ◌, ◌*ℤ◌, int_div, int_rem, unsigned_abs, nat_abs, nat_eq, nat_le, nat_lt, ◌^◌, length, List, [], ◌∷◌, Option, Some, None, Bool, true, false, not, ◌&&◌, if◌then◌else◌, ◌<◌}
use Rattle.std.specs.Int.{is_negative}
use Rattle.object_heap.specs.declared.value.Value.{Value}
use Rattle.object_heap.specs.declared.value.Value.TheVariants.{Nil, True, False, Integer, Character, Symbol, Class, Meta, Transcript, Object}
use Rattle.object_heap.specs.declared.trouble.Trouble.{Trouble}
use Rattle.object_heap.specs.declared.trouble.Trouble.TheVariants.{NumberExpected, StepIsZero, BadRadix}
use Rattle.object_heap.specs.Store.{Store}
use Rattle.st_numbers.specs.Answers.{truth, integer_answer, ratio_answer, quotient_answer, total_answer, sum_over, sum_answer, product_answer, divide_answer, is_equal, equal_answer, max_answer, min_answer, negated_answer, floor_quotient, shifted, floor_answer, modulo_answer, quo_answer, rem_answer, gcd_answer, lcm_answer, bit_and_answer, bit_or_answer, bit_xor_answer, shift_answer, zero_divide, given_number, given_integers, answer_of}
use Rattle.st_numbers.specs.Gcd.{gcd}
use Rattle.st_numbers.specs.Numbers.{in_range, signed, differ, numerator_of, denominator_of, is_less}
use Rattle.st_numbers.specs.declared.message.Number.{Number}
use Rattle.st_numbers.specs.declared.message.NumberAnswer.{NumberAnswer}
use Rattle.st_numbers.specs.declared.message.NumberArgument.{NumberArgument}
use Rattle.st_numbers.specs.declared.message.NumberMessage.{NumberMessage as Arithmetic}
use Rattle.st_code.specs.Program.{Program}
use Rattle.st_code.specs.BuiltIns.{interval_class, fraction_class}
use Rattle.st_code.specs.Messages.{NumberMessage}
use Rattle.st_collections.specs.Actions.{Action, Fails, PassesIntegers, first, second, makes_slots, makes_string}
use Rattle.st_collections.specs.IntervalRows.{with_integer, interval, interval_by}
use Rattle.st_collections.specs.Kinds.{interval_size, print_text, integer_of}
use Rattle.st_rules.specs.NumberRows.{as_number, argument_of, dividend_of, troubled, numeric_action, of_number, arithmetic_action, radix_text, in_radix, Asked, asked, number_at, number_action}
use Rattle.law_values.specs.KnownNumbers.{Has, AllHave, ObjectsHave}
use Rattle.law_values.proofs.ValuesThere.{first_has}
use Rattle.law_values.proofs.RowsThere.{Gets, if_has, slots_made, string_made, no_trouble}

module _ (C : ℕ) (low : 29 < C) where
  module _ (k : ℕ) where
    abbrev AnswerHas : NumberAnswer → Type 0
    AnswerHas (NumberAnswer.Value v) = Has C k v
    AnswerHas a = Unit {0}

    -- a value that is answered is there
    record Known (a : NumberAnswer) : Type 0 where
      pub known : AnswerHas a

    either : (b : Bool) (x y : NumberAnswer) → Known x → Known y → Known (if b then x else y)
    either true x y g h = g
    either false x y g h = h

    trouble_known : (t : Trouble) → Known (NumberAnswer.Trouble t)
    trouble_known t = record { known = tt }

    limit_known : Known NumberAnswer.IntegerLimit
    limit_known = record { known = tt }

    receiver_known : Known NumberAnswer.Receiver
    receiver_known = record { known = tt }

    argument_known : Known NumberAnswer.Argument
    argument_known = record { known = tt }

    fraction_known : (n d : ℤ) → Known (NumberAnswer.Fraction n d)
    fraction_known n d = record { known = tt }

    whole_known : (n : ℤ) → Known (NumberAnswer.Value (Integer n))
    whole_known n = record { known = tt }

    truth_known : (b : Bool) → Known (truth b)
    truth_known true = record { known = tt }
    truth_known false = record { known = tt }

    integer_known : (n : ℤ) → Known (integer_answer n)
    integer_known n = either (in_range n) (NumberAnswer.Value (Integer n)) NumberAnswer.IntegerLimit (whole_known n) limit_known

    ratio_known : (n : ℤ) (d : ℕ) → Known (ratio_answer n d)
    ratio_known n d = either (in_range n && in_range (pos d)) (if d == 1 then NumberAnswer.Value (Integer n) else NumberAnswer.Fraction n (pos d)) NumberAnswer.IntegerLimit (either (d == 1) (NumberAnswer.Value (Integer n)) (NumberAnswer.Fraction n (pos d)) (whole_known n) (fraction_known n (pos d))) limit_known

    quotient_known : (negative : Bool) (n d : ℕ) → Known (quotient_answer negative n d)
    quotient_known negative n d = ratio_known (signed negative (n / gcd n d)) (d / gcd n d)

    total_known : (plus : ℤ → ℤ → ℤ) (left right : ℤ) (below : ℕ) → Known (total_answer plus left right below)
    total_known plus left right below = either (in_range (plus left right)) (quotient_answer (is_negative (plus left right)) (unsigned_abs (plus left right)) below) NumberAnswer.IntegerLimit (quotient_known (is_negative (plus left right)) (unsigned_abs (plus left right)) below) limit_known

    over_known : (plus : ℤ → ℤ → ℤ) (left right : ℤ) (below : ℕ) → Known (sum_over plus left right below)
    over_known plus left right below = either (in_range left && in_range right && in_range (pos below)) (total_answer plus left right below) NumberAnswer.IntegerLimit (total_known plus left right below) limit_known

    sum_known : (plus : ℤ → ℤ → ℤ) (x y : Number) → Known (sum_answer plus x y)
    sum_known plus x y =
        let g : ℕ = gcd (denominator_of x) (denominator_of y) in
        over_known plus (numerator_of x *ℤ pos (denominator_of y / g)) (numerator_of y *ℤ pos (denominator_of x / g)) (denominator_of x * (denominator_of y / g))

    product_known : (x y : Number) → Known (product_answer x y)
    product_known x y = quotient_known (differ (numerator_of x) (numerator_of y)) (unsigned_abs (numerator_of x) * unsigned_abs (numerator_of y)) (denominator_of x * denominator_of y)

    -- what is left to say where a divisor isn't zero
    unless_zero : (y : ℤ) (x : NumberAnswer) → Known x → Known (if unsigned_abs y == 0 then zero_divide else x)
    unless_zero y x g = either (unsigned_abs y == 0) zero_divide x (trouble_known Trouble.ZeroDivide) g

    divide_known : (x y : Number) → Known (divide_answer x y)
    divide_known x y = unless_zero (numerator_of y) (quotient_answer (differ (numerator_of x) (numerator_of y)) (unsigned_abs (numerator_of x) * denominator_of y) (denominator_of x * unsigned_abs (numerator_of y))) (quotient_known (differ (numerator_of x) (numerator_of y)) (unsigned_abs (numerator_of x) * denominator_of y) (denominator_of x * unsigned_abs (numerator_of y)))

    negated_known : (x : Number) → Known (negated_answer x)
    negated_known (Number.Integer n) = integer_known (neg_ℤ n)
    negated_known (Number.Fraction n d) = either (in_range (neg_ℤ n)) (NumberAnswer.Fraction (neg_ℤ n) d) NumberAnswer.IntegerLimit (fraction_known (neg_ℤ n) d) limit_known

    given_known : (f : Number → Number → NumberAnswer) → ((x y : Number) → Known (f x y)) → (x : Number) (a : NumberArgument) → Known (given_number f x a)
    given_known f g x NumberArgument.None = trouble_known NumberExpected
    given_known f g x (NumberArgument.Number y) = g x y
    given_known f g x (NumberArgument.Other v) = trouble_known NumberExpected

    integers_known : (f : ℤ → ℤ → NumberAnswer) → ((x y : ℤ) → Known (f x y)) → (x : Number) (a : NumberArgument) → Known (given_number (given_integers f) x a)
    integers_known f g x a = given_known (given_integers f) by_cases x a
      where
        by_cases : (x y : Number) → Known (given_integers f x y)
        by_cases (Number.Integer x) (Number.Integer y) = g x y
        by_cases (Number.Integer x) (Number.Fraction n d) = trouble_known NumberExpected
        by_cases (Number.Fraction n d) y = trouble_known NumberExpected

    equal_known : (x : Number) (a : NumberArgument) → Known (equal_answer x a)
    equal_known x NumberArgument.None = truth_known false
    equal_known x (NumberArgument.Number y) = truth_known (is_equal x y)
    equal_known x (NumberArgument.Other v) = truth_known false

    answer_known : (m : Arithmetic) (x : Number) (a : NumberArgument) → Known (answer_of m x a)
    answer_known Arithmetic.Add x a = given_known (sum_answer ◌+ℤ◌) (sum_known ◌+ℤ◌) x a
    answer_known Arithmetic.Subtract x a = given_known (sum_answer ◌-ℤ◌) (sum_known ◌-ℤ◌) x a
    answer_known Arithmetic.Multiply x a = given_known product_answer product_known x a
    answer_known Arithmetic.Divide x a = given_known divide_answer divide_known x a
    answer_known Arithmetic.FloorDivide x a = integers_known floor_answer (λ x y. unless_zero y (integer_answer (floor_quotient x y)) (integer_known (floor_quotient x y))) x a
    answer_known Arithmetic.Modulo x a = integers_known modulo_answer (λ x y. unless_zero y (integer_answer (x -ℤ y *ℤ floor_quotient x y)) (integer_known (x -ℤ y *ℤ floor_quotient x y))) x a
    answer_known Arithmetic.Quo x a = integers_known quo_answer (λ x y. unless_zero y (integer_answer (int_div x y)) (integer_known (int_div x y))) x a
    answer_known Arithmetic.Rem x a = integers_known rem_answer (λ x y. unless_zero y (integer_answer (int_rem x y)) (integer_known (int_rem x y))) x a
    answer_known Arithmetic.Less x a = given_known (λ x y. truth (is_less x y)) (λ x y. truth_known (is_less x y)) x a
    answer_known Arithmetic.Greater x a = given_known (λ x y. truth (is_less y x)) (λ x y. truth_known (is_less y x)) x a
    answer_known Arithmetic.LessOrEqual x a = given_known (λ x y. truth (not (is_less y x))) (λ x y. truth_known (not (is_less y x))) x a
    answer_known Arithmetic.GreaterOrEqual x a = given_known (λ x y. truth (not (is_less x y))) (λ x y. truth_known (not (is_less x y))) x a
    answer_known Arithmetic.Equal x a = equal_known x a
    answer_known Arithmetic.Negated x a = negated_known x
    answer_known Arithmetic.Abs x a = either (is_negative (numerator_of x)) (negated_answer x) NumberAnswer.Receiver (negated_known x) receiver_known
    answer_known Arithmetic.Sign x a = record { known = tt }
    answer_known Arithmetic.Even (Number.Integer n) a = truth_known _
    answer_known Arithmetic.Even (Number.Fraction n d) a = record { known = tt }
    answer_known Arithmetic.Odd (Number.Integer n) a = truth_known _
    answer_known Arithmetic.Odd (Number.Fraction n d) a = record { known = tt }
    answer_known Arithmetic.IsZero x a = truth_known _
    answer_known Arithmetic.Max x a = given_known max_answer (λ x y. either (is_less x y) NumberAnswer.Argument NumberAnswer.Receiver argument_known receiver_known) x a
    answer_known Arithmetic.Min x a = given_known min_answer (λ x y. either (is_less y x) NumberAnswer.Argument NumberAnswer.Receiver argument_known receiver_known) x a
    answer_known Arithmetic.Gcd x a = integers_known gcd_answer (λ x y. integer_known (pos (gcd (unsigned_abs x) (unsigned_abs y)))) x a
    answer_known Arithmetic.Lcm x a = integers_known lcm_answer (λ x y. integer_known (pos (unsigned_abs x * unsigned_abs y / gcd (unsigned_abs x) (unsigned_abs y)))) x a
    answer_known Arithmetic.BitAnd x a = integers_known bit_and_answer (λ x y. whole_known _) x a
    answer_known Arithmetic.BitOr x a = integers_known bit_or_answer (λ x y. whole_known _) x a
    answer_known Arithmetic.BitXor x a = integers_known bit_xor_answer (λ x y. whole_known _) x a
    answer_known Arithmetic.BitShift x a = integers_known shift_answer (λ x y. integer_known (shifted x y)) x a
    answer_known Arithmetic.Numerator x a = record { known = tt }
    answer_known Arithmetic.Denominator (Number.Integer n) a = record { known = tt }
    answer_known Arithmetic.Denominator (Number.Fraction n d) a = record { known = tt }
    answer_known Arithmetic.Truncated (Number.Integer n) a = record { known = tt }
    answer_known Arithmetic.Truncated (Number.Fraction n d) a = record { known = tt }
    answer_known Arithmetic.Reciprocal x a = divide_known (Number.Integer (pos 1)) x

  module _ (p : Program) (s : Store) (h : ObjectsHave C (length s.objects) s.objects) where
    abbrev k : ℕ
    k = length s.objects

    trouble_has : (dividend : Value) (t : Trouble) → Has C k dividend → Gets C low p s h (troubled dividend t)
    trouble_has dividend Trouble.ZeroDivide g = record { gets = g }
    trouble_has dividend t g = record { gets = tt }

    numeric_has : (dividend r v : Value) (a : NumberAnswer) → Has C k dividend → Has C k r → Has C k v → Known k a → Gets C low p s h (numeric_action s dividend r v a)
    numeric_has dividend r v (NumberAnswer.Value w) g i j a = record { gets = a.known }
    numeric_has dividend r v (NumberAnswer.Fraction n d) g i j a = slots_made C low p s h fraction_class (Integer n ∷ Integer d ∷ []) (tt, (tt, tt))
    numeric_has dividend r v NumberAnswer.Receiver g i j a = record { gets = i }
    numeric_has dividend r v NumberAnswer.Argument g i j a = record { gets = j }
    numeric_has dividend r v (NumberAnswer.Trouble t) g i j a = trouble_has dividend t g
    numeric_has dividend r v NumberAnswer.IntegerLimit g i j a = record { gets = tt }

    dividend_has : (m : Arithmetic) (r : Value) → Has C k r → Has C k (dividend_of m r)
    dividend_has Arithmetic.Reciprocal r g = tt
    dividend_has m r g = g

    of_number_has : (m : Arithmetic) (o : Option Number) (r : Value) (args : List Value) → Has C k r → AllHave C k args → Gets C low p s h (of_number s m o r args)
    of_number_has m None r args g i = record { gets = tt }
    of_number_has m (Some x) r args g i = numeric_has (dividend_of m r) r (first args) (answer_of m x (argument_of s args)) (dividend_has m r g) g (first_has C low k args i) (answer_known k m x (argument_of s args))

    arithmetic_has : (m : Arithmetic) (r : Value) (args : List Value) → Has C k r → AllHave C k args → Gets C low p s h (arithmetic_action s m r args)
    unfolding arithmetic_action
    arithmetic_has m r args g i = of_number_has m (as_number s r) r args g i

    integer_has : (v : Value) (act : ℤ → Action) → ((n : ℤ) → Gets C low p s h (act n)) → Gets C low p s h (with_integer v act)
    integer_has (Integer n) act g = g n
    integer_has (Object n) act g = record { gets = tt }
    integer_has Nil act g = record { gets = tt }
    integer_has True act g = record { gets = tt }
    integer_has False act g = record { gets = tt }
    integer_has (Character c) act g = record { gets = tt }
    integer_has (Symbol n) act g = record { gets = tt }
    integer_has (Class c) act g = record { gets = tt }
    integer_has (Meta c) act g = record { gets = tt }
    integer_has Transcript act g = record { gets = tt }

    radix_has : (r radix : ℤ) → Gets C low p s h (in_radix s r radix)
    radix_has r (pos radix) = if_has C low p s h (nat_le 2 radix && nat_le radix 36) (makes_string (radix_text radix r) s) (Fails BadRadix) (string_made C low p s h (radix_text radix r)) record { gets = tt }
    radix_has r (negsuc radix) = record { gets = tt }

    interval_has : (start stop by : ℤ) → Gets C low p s h (interval s start stop by)
    interval_has start stop by = if_has C low p s h (nat_lt (interval_size start stop by) (2 ^ 127)) (makes_slots interval_class (Integer start ∷ Integer stop ∷ Integer by ∷ []) s) PassesIntegers (slots_made C low p s h interval_class (Integer start ∷ Integer stop ∷ Integer by ∷ []) (tt, (tt, (tt, tt)))) record { gets = tt }

    by_has : (start stop by : ℤ) → Gets C low p s h (interval_by s start stop by)
    by_has start stop by = if_has C low p s h (nat_eq (nat_abs by) 0) (Fails StepIsZero) (interval s start stop by) (no_trouble C low p s h StepIsZero) (interval_has start stop by)

    number_has : (m : Asked) (r : Value) (args : List Value) → Has C k r → AllHave C k args → Gets C low p s h (number_at p s m r args)
    number_has (Asked.Computes m) r args g i = arithmetic_has m r args g i
    number_has Asked.AsString r args g i = string_made C low p s h (print_text p s r)
    number_has Asked.PrintRadix r args g i = integer_has (first args) (λ radix. in_radix s (integer_of r) radix) (λ radix. radix_has (integer_of r) radix)
    number_has Asked.To r args g i = integer_has (first args) (λ stop. interval s (integer_of r) stop (pos 1)) (λ stop. interval_has (integer_of r) stop (pos 1))
    number_has Asked.ToBy r args g i = integer_has (first args) (λ stop. with_integer (second args) (λ by. interval_by s (integer_of r) stop by)) (λ stop. integer_has (second args) (λ by. interval_by s (integer_of r) stop by) (λ by. by_has (integer_of r) stop by))
    number_has Asked.FromNumerator r args g i = integer_has (first args) (λ n. with_integer (second args) (λ d. arithmetic_action s Arithmetic.Divide (Integer n) (Integer d ∷ []))) (λ n. integer_has (second args) (λ d. arithmetic_action s Arithmetic.Divide (Integer n) (Integer d ∷ [])) (λ d. arithmetic_has Arithmetic.Divide (Integer n) (Integer d ∷ []) tt (tt, tt)))

    pub numbers_have : (m : NumberMessage) (r : Value) (args : List Value) → Has C k r → AllHave C k args → Gets C low p s h (number_action p s m r args)
    unfolding number_action
    numbers_have m r args g i = number_has (asked m) r args g i
