-- What some messages to numbers answer, computed: the edges of the range, signs, ties, Fractions that stand in lowest terms and one that doesn't.
use Rattle.std.proofs.Common.{◌≡◌, pos, negsuc, List, [], ◌∷◌, None, false, refl}
use Rattle.object_heap.specs.declared.value.Value.{Value}
use Rattle.object_heap.specs.declared.value.Value.TheVariants.{Nil, False, Integer, Object}
use Rattle.object_heap.specs.declared.trouble.Trouble.TheVariants.{NumberExpected, StepIsZero, BadRadix}
use Rattle.object_heap.specs.Store.{Store, Object as HeapObject}
use Rattle.st_code.specs.BuiltIns.{fraction_class, interval_class, string_class}
use Rattle.st_code.specs.Program.{Program}
use Rattle.st_code.specs.Messages.{NumberMessage}
use Rattle.st_collections.specs.Actions.{Action, Gives, Fails, DividesByZero, PassesIntegers, makes_slots, makes_bytes}
use Rattle.st_rules.specs.NumberRows.{number_action}
use Rattle.st_rules.proofs.Computing.{computing}

abbrev fraction : Value → Value → HeapObject
fraction over under = record { class = fraction_class; slots = over ∷ under ∷ []; bytes = []; capacity = 2; read_only = false; closure = None }

-- 1/3, 2/3, -1/2, and 2/4, which no run makes
abbrev stored : Store
stored = record { objects = fraction (Integer (pos 1)) (Integer (pos 3)) ∷ fraction (Integer (pos 2)) (Integer (pos 3)) ∷ fraction (Integer (negsuc 0)) (Integer (pos 2)) ∷ fraction (Integer (pos 2)) (Integer (pos 4)) ∷ []; closures = []; scopes = [] }

module _ (p : Program) where
  abbrev answers : NumberMessage → Value → List Value → Action
  answers m r args = number_action p stored m r args

  abbrev least : Value
  least = Integer (negsuc 170141183460469231731687303715884105727)

  abbrev greatest : Value
  greatest = Integer (pos 170141183460469231731687303715884105727)

  sum_past_the_range : answers NumberMessage.Add greatest (Integer (pos 1) ∷ []) ≡ PassesIntegers
  unfolding computing
  sum_past_the_range = refl

  whole_sum : answers NumberMessage.Add (Object 0) (Object 1 ∷ []) ≡ Gives (Integer (pos 1))
  unfolding computing
  whole_sum = refl

  product_in_lowest_terms : answers NumberMessage.Multiply (Object 1) (Object 2 ∷ []) ≡ makes_slots fraction_class (Integer (negsuc 0) ∷ Integer (pos 3) ∷ []) stored
  unfolding computing
  product_in_lowest_terms = refl

  division_by_zero : answers NumberMessage.Divide (Object 0) (Integer (pos 0) ∷ []) ≡ DividesByZero (Object 0)
  unfolding computing
  division_by_zero = refl

  reciprocal_of_zero : answers NumberMessage.Reciprocal (Integer (pos 0)) [] ≡ DividesByZero (Integer (pos 1))
  unfolding computing
  reciprocal_of_zero = refl

  made_by_zero : answers NumberMessage.FromNumerator Nil (Integer (pos 7) ∷ Integer (pos 0) ∷ []) ≡ DividesByZero (Integer (pos 7))
  unfolding computing
  made_by_zero = refl

  made_of_a_fraction : answers NumberMessage.FromNumerator Nil (Object 0 ∷ Integer (pos 1) ∷ []) ≡ Fails NumberExpected
  unfolding computing
  made_of_a_fraction = refl

  rounded_down : answers NumberMessage.FloorDivide (Integer (negsuc 6)) (Integer (pos 2) ∷ []) ≡ Gives (Integer (negsuc 3))
  unfolding computing
  rounded_down = refl

  least_quotient : answers NumberMessage.FloorDivide least (Integer (negsuc 0) ∷ []) ≡ PassesIntegers
  unfolding computing
  least_quotient = refl

  least_remainder : answers NumberMessage.Remainder least (Integer (negsuc 0) ∷ []) ≡ Gives (Integer (pos 0))
  unfolding computing
  least_remainder = refl

  of_the_divisors_sign : answers NumberMessage.FloorModulo (Integer (pos 7)) (Integer (negsuc 2) ∷ []) ≡ Gives (Integer (negsuc 1))
  unfolding computing
  of_the_divisors_sign = refl

  bits_of_a_negative : answers NumberMessage.BitAnd (Integer (negsuc 0)) (Integer (pos 12) ∷ []) ≡ Gives (Integer (pos 12))
  unfolding computing
  bits_of_a_negative = refl

  shifted_down : answers NumberMessage.BitShift (Integer (negsuc 4)) (Integer (negsuc 0) ∷ []) ≡ Gives (Integer (negsuc 2))
  unfolding computing
  shifted_down = refl

  no_divisor_of_the_least : answers NumberMessage.Gcd least (least ∷ []) ≡ PassesIntegers
  unfolding computing
  no_divisor_of_the_least = refl

  tie : answers NumberMessage.Max (Object 0) (Object 0 ∷ []) ≡ Gives (Object 0)
  unfolding computing
  tie = refl

  no_number : answers NumberMessage.Equal (Integer (pos 1)) (Nil ∷ []) ≡ Gives False
  unfolding computing
  no_number = refl

  compared_with_none : answers NumberMessage.Less (Integer (pos 1)) (Nil ∷ []) ≡ Fails NumberExpected
  unfolding computing
  compared_with_none = refl

  integers_only : answers NumberMessage.FloorDivide (Integer (pos 1)) (Object 0 ∷ []) ≡ Fails NumberExpected
  unfolding computing
  integers_only = refl

  not_in_lowest_terms : answers NumberMessage.Equal (Object 3) (Integer (pos 1) ∷ []) ≡ Fails NumberExpected
  unfolding computing
  not_in_lowest_terms = refl

  rounded_to_zero : answers NumberMessage.Truncated (Object 2) [] ≡ Gives (Integer (pos 0))
  unfolding computing
  rounded_to_zero = refl

  capital_digits : answers NumberMessage.PrintRadix (Integer (negsuc 254)) (Integer (pos 16) ∷ []) ≡ makes_bytes string_class (45 ∷ 70 ∷ 70 ∷ []) stored
  unfolding computing
  capital_digits = refl

  radix_too_great : answers NumberMessage.PrintRadix (Integer (pos 1)) (Integer (pos 37) ∷ []) ≡ Fails BadRadix
  unfolding computing
  radix_too_great = refl

  written_whole : answers NumberMessage.AsString (Object 2) [] ≡ makes_bytes string_class (45 ∷ 49 ∷ 47 ∷ 50 ∷ []) stored
  unfolding computing
  written_whole = refl

  too_many_elements : answers NumberMessage.To least (greatest ∷ []) ≡ PassesIntegers
  unfolding computing
  too_many_elements = refl

  step_of_zero : answers NumberMessage.ToBy (Integer (pos 1)) (Integer (pos 2) ∷ Integer (pos 0) ∷ []) ≡ Fails StepIsZero
  unfolding computing
  step_of_zero = refl

  downward : answers NumberMessage.ToBy (Integer (pos 2)) (Integer (pos 1) ∷ Integer (negsuc 0) ∷ []) ≡ makes_slots interval_class (Integer (pos 2) ∷ Integer (pos 1) ∷ Integer (negsuc 0) ∷ []) stored
  unfolding computing
  downward = refl
