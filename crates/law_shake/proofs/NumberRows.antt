-- Numbers under a renaming.
use Rattle.std.proofs.Common.{◌≡◌, ◌≤◌, ◌^◌, ℤ, pos, negsuc, List, [], ◌∷◌, length, Option, Some, None, ◌&&◌, nat_eq, nat_le, nat_lt, refl, sym, ap, ◌∙◌, if◌then◌else◌}
use Rattle.std.specs.Prelude.{nat_abs}
use Rattle.object_heap.specs.declared.value.Value.{Value}
use Rattle.object_heap.specs.declared.value.Value.TheVariants.{Integer, Object}
use Rattle.object_heap.specs.declared.trouble.Trouble.{Trouble}
use Rattle.object_heap.specs.declared.trouble.Trouble.TheVariants as trouble
use Rattle.object_heap.specs.Store.{Store}
use Rattle.st_numbers.specs.Answers.{answer_of}
use Rattle.st_numbers.specs.declared.message.Number.{Number}
use Rattle.st_numbers.specs.declared.message.NumberAnswer.{NumberAnswer}
use Rattle.st_numbers.specs.declared.message.NumberArgument.{NumberArgument}
use Rattle.st_numbers.specs.declared.message.NumberMessage.{NumberMessage as Arithmetic}
use Rattle.st_code.specs.Program.{Program}
use Rattle.st_code.specs.BuiltIns.{fraction_class, interval_class}
use Rattle.st_code.specs.Messages.{NumberMessage}
use Rattle.st_collections.specs.Actions.{Action, Gives, first, second, makes_string}
use Rattle.st_collections.specs.IntervalRows.{with_integer, interval, interval_by, to_action, to_by_action}
use Rattle.st_collections.specs.Kinds.{is_a, slot_of, integer_of, interval_size, print_text}
use Rattle.st_rules.specs.NumberRows.{as_number, if_proper, as_argument, argument_of, dividend_of, troubled, numeric_action, of_number, arithmetic_action, radix_text, in_radix, in_radix_action, fraction_action, Asked, asked, number_at, number_action}
use Rattle.law_shake.specs.Renaming.{Renaming, taken, object, ren, rens, ren_store, ren_action, IsRenamed}
use Rattle.law_shake.proofs.Lookups.{is_a_ren, slot_ren, integer_ren, print_ren}
use Rattle.law_shake.proofs.Rows.{first_ren, second_ren, slots_made, string_made, if_by}

module _ (x : Renaming) (q p : Program) (is : IsRenamed x q p) (s : Store) (room : taken x.objects ≤ length s.objects) where
  abbrev R : Action → Action
  R a = ren_action x a

  abbrev s' : Store
  s' = ren_store x s

  as_number_ren : (v : Value) → as_number s' (ren x v) ≡ as_number s v
  unfolding as_number
  as_number_ren (Object n) =
      ap (λ b. if b then if_proper (Number.Fraction (integer_of (slot_of s' (Object (object x n)) 0)) (integer_of (slot_of s' (Object (object x n)) 1))) else None) (is_a_ren x s fraction_class (Object n))
      ∙ ap (λ v. if is_a s fraction_class (Object n) then if_proper (Number.Fraction (integer_of v) (integer_of (slot_of s' (Object (object x n)) 1))) else None) (slot_ren x s (Object n) 0)
      ∙ ap (λ i. if is_a s fraction_class (Object n) then if_proper (Number.Fraction i (integer_of (slot_of s' (Object (object x n)) 1))) else None) (integer_ren x (slot_of s (Object n) 0))
      ∙ ap (λ v. if is_a s fraction_class (Object n) then if_proper (Number.Fraction (integer_of (slot_of s (Object n) 0)) (integer_of v)) else None) (slot_ren x s (Object n) 1)
      ∙ ap (λ i. if is_a s fraction_class (Object n) then if_proper (Number.Fraction (integer_of (slot_of s (Object n) 0)) i) else None) (integer_ren x (slot_of s (Object n) 1))
  as_number_ren v = refl

  -- an argument is a number, or another value
  abbrev ren_argument : NumberArgument → NumberArgument
  ren_argument NumberArgument.None = NumberArgument.None
  ren_argument (NumberArgument.Number a) = NumberArgument.Number a
  ren_argument (NumberArgument.Other v) = NumberArgument.Other (ren x v)

  argument_by : (v : Value) (o : Option Number) → as_argument (ren x v) o ≡ ren_argument (as_argument v o)
  argument_by v None = refl
  argument_by v (Some a) = refl

  argument_ren : (args : List Value) → argument_of s' (rens x args) ≡ ren_argument (argument_of s args)
  unfolding argument_of
  argument_ren [] = refl
  argument_ren (v ∷ args) = ap (as_argument (ren x v)) (as_number_ren v) ∙ argument_by v (as_number s v)

  dividend_ren : (m : Arithmetic) (r : Value) → dividend_of m (ren x r) ≡ ren x (dividend_of m r)
  dividend_ren Arithmetic.Reciprocal r = refl
  dividend_ren m r = refl

  -- the answer doesn't depend on another value's number, and has none
  answer_ren : (m : Arithmetic) (a : Number) (b : NumberArgument) → answer_of m a (ren_argument b) ≡ answer_of m a b
  answer_ren m a NumberArgument.None = refl
  answer_ren m a (NumberArgument.Number b) = refl
  answer_ren Arithmetic.Add a (NumberArgument.Other v) = refl
  answer_ren m a (NumberArgument.Other v) = refl

  troubled_ren : (dividend : Value) (t : Trouble) → troubled (ren x dividend) t ≡ R (troubled dividend t)
  troubled_ren dividend trouble.ZeroDivide = refl
  troubled_ren dividend t = refl

  numeric_ren : (dividend r v : Value) (a : NumberAnswer) → ((w : Value) → a ≡ NumberAnswer.Value w → ren x w ≡ w) → numeric_action s' (ren x dividend) (ren x r) (ren x v) a ≡ R (numeric_action s dividend r v a)
  numeric_ren dividend r v (NumberAnswer.Value w) h = ap Gives (sym (h w refl))
  numeric_ren dividend r v (NumberAnswer.Fraction n d) h = slots_made x s room fraction_class (Integer n ∷ Integer d ∷ [])
  numeric_ren dividend r v NumberAnswer.Receiver h = refl
  numeric_ren dividend r v NumberAnswer.Argument h = refl
  numeric_ren dividend r v (NumberAnswer.Trouble t) h = troubled_ren dividend t
  numeric_ren dividend r v NumberAnswer.IntegerLimit h = refl

  -- a value that is answered is an Integer or a truth value: a premise here, the first half of NumbersHave again
  module _ (plain : (m : Arithmetic) (a : Number) (b : NumberArgument) (w : Value) → answer_of m a b ≡ NumberAnswer.Value w → ren x w ≡ w) where
    of_number_ren : (m : Arithmetic) (o : Option Number) (r : Value) (args : List Value) → of_number s' m o (ren x r) (rens x args) ≡ R (of_number s m o r args)
    of_number_ren m None r args = refl
    of_number_ren m (Some a) r args =
        ap (λ v. numeric_action s' v (ren x r) (first (rens x args)) (answer_of m a (argument_of s' (rens x args)))) (dividend_ren m r)
        ∙ ap (λ v. numeric_action s' (ren x (dividend_of m r)) (ren x r) v (answer_of m a (argument_of s' (rens x args)))) (first_ren x args)
        ∙ ap (λ b. numeric_action s' (ren x (dividend_of m r)) (ren x r) (ren x (first args)) (answer_of m a b)) (argument_ren args)
        ∙ ap (λ b. numeric_action s' (ren x (dividend_of m r)) (ren x r) (ren x (first args)) b) (answer_ren m a (argument_of s args))
        ∙ numeric_ren (dividend_of m r) r (first args) (answer_of m a (argument_of s args)) (plain m a (argument_of s args))

    arithmetic_ren : (m : Arithmetic) (r : Value) (args : List Value) → arithmetic_action s' m (ren x r) (rens x args) ≡ R (arithmetic_action s m r args)
    unfolding arithmetic_action
    arithmetic_ren m r args = ap (λ o. of_number s' m o (ren x r) (rens x args)) (as_number_ren r) ∙ of_number_ren m (as_number s r) r args

    integer_by : (v : Value) (f g : ℤ → Action) → ((n : ℤ) → f n ≡ R (g n)) → with_integer (ren x v) f ≡ R (with_integer v g)
    integer_by (Integer n) f g h = h n
    integer_by v f g h = refl

    radix_ren : (r radix : ℤ) → in_radix s' r radix ≡ R (in_radix s r radix)
    radix_ren r (pos radix) = if_by x q p is s room (nat_le 2 radix && nat_le radix 36) _ _ _ _ (string_made x s room (radix_text radix r)) refl
    radix_ren r (negsuc radix) = refl

    interval_ren : (start stop by : ℤ) → interval s' start stop by ≡ R (interval s start stop by)
    interval_ren start stop by = if_by x q p is s room (nat_lt (interval_size start stop by) (2 ^ 127)) _ _ _ _ (slots_made x s room interval_class (Integer start ∷ Integer stop ∷ Integer by ∷ [])) refl

    by_ren : (start stop by : ℤ) → interval_by s' start stop by ≡ R (interval_by s start stop by)
    by_ren start stop by = if_by x q p is s room (nat_eq (nat_abs by) 0) _ _ _ _ refl (interval_ren start stop by)

    number_at_ren : (m : Asked) (r : Value) (args : List Value) → number_at p s' m (ren x r) (rens x args) ≡ R (number_at q s m r args)
    number_at_ren (Asked.Computes m) r args = arithmetic_ren m r args
    number_at_ren Asked.AsString r args = ap (λ t. makes_string t s') (print_ren x q p is s r) ∙ string_made x s room (print_text q s r)
    number_at_ren Asked.PrintRadix r args =
        ap (λ v. in_radix_action s' (ren x r) v) (first_ren x args)
        ∙ ap (λ i. with_integer (ren x (first args)) (λ n. in_radix s' i n)) (integer_ren x r)
        ∙ integer_by (first args) _ _ (λ radix. radix_ren (integer_of r) radix)
    number_at_ren Asked.To r args =
        ap (λ v. to_action s' (ren x r) v) (first_ren x args)
        ∙ ap (λ i. with_integer (ren x (first args)) (λ n. interval s' i n (pos 1))) (integer_ren x r)
        ∙ integer_by (first args) _ _ (λ stop. interval_ren (integer_of r) stop (pos 1))
    number_at_ren Asked.ToBy r args =
        ap (λ v. to_by_action s' (ren x r) v (second (rens x args))) (first_ren x args)
        ∙ ap (λ v. to_by_action s' (ren x r) (ren x (first args)) v) (second_ren x args)
        ∙ ap (λ i. with_integer (ren x (first args)) (λ n. with_integer (ren x (second args)) (λ by. interval_by s' i n by))) (integer_ren x r)
        ∙ integer_by (first args) _ _ (λ stop. integer_by (second args) _ _ (λ by. by_ren (integer_of r) stop by))
    number_at_ren Asked.FromNumerator r args =
        ap (λ v. fraction_action s' v (second (rens x args))) (first_ren x args)
        ∙ ap (λ v. fraction_action s' (ren x (first args)) v) (second_ren x args)
        ∙ integer_by (first args) _ _ (λ n. integer_by (second args) _ _ (λ d. arithmetic_ren Arithmetic.Divide (Integer n) (Integer d ∷ [])))

    pub number_ren : (m : NumberMessage) (r : Value) (args : List Value) → number_action p s' m (ren x r) (rens x args) ≡ R (number_action q s m r args)
    unfolding number_action
    number_ren m r args = number_at_ren (asked m) r args
