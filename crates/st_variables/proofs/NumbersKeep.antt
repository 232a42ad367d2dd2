-- What messages to numbers do at once leaves each object its slots: new Fractions, Intervals and Strings are of built-in classes.
use Rattle.std.proofs.Common.{◌^◌, ℤ, pos, negsuc, nat_abs, nat_eq, nat_le, nat_lt, List, [], ◌∷◌, Option, Some, None, ◌&&◌, arith}
use Rattle.object_heap.specs.declared.value.Value.{Value}
use Rattle.object_heap.specs.declared.value.Value.TheVariants.{Integer}
use Rattle.object_heap.specs.declared.trouble.Trouble.{Trouble}
use Rattle.object_heap.specs.declared.trouble.Trouble.TheVariants.{BadRadix, StepIsZero}
use Rattle.object_heap.specs.Store.{Store}
use Rattle.st_numbers.specs.Answers.{answer_of}
use Rattle.st_numbers.specs.declared.message.Number.{Number}
use Rattle.st_numbers.specs.declared.message.NumberAnswer.{NumberAnswer}
use Rattle.st_numbers.specs.declared.message.NumberMessage.{NumberMessage as Arithmetic}
use Rattle.st_code.specs.Program.{Program}
use Rattle.st_code.specs.BuiltIns.{interval_class, fraction_class}
use Rattle.st_code.specs.Messages.{NumberMessage}
use Rattle.st_collections.specs.Actions.{Action, Fails, PassesIntegers, first, second, makes_slots, makes_string}
use Rattle.st_collections.specs.IntervalRows.{with_integer, interval, interval_by}
use Rattle.st_collections.specs.Kinds.{interval_size, print_text, integer_of}
use Rattle.st_rules.specs.NumberRows.{as_number, argument_of, dividend_of, troubled, numeric_action, of_number, arithmetic_action, radix_text, in_radix, Asked, asked, number_at, number_action}
use Rattle.st_variables.specs.Known.{AllFull, KnowsVariables}
use Rattle.st_variables.proofs.RowsKeep.{Keeps, if_keeps, fails, built_made, string_made}

module _ (p : Program) (known : KnowsVariables p) (s : Store) (h : AllFull p s.objects) where
  abbrev G : Action → Type 0
  G a = Keeps p known s h a

  trouble_keeps : (dividend : Value) (t : Trouble) → G (troubled dividend t)
  trouble_keeps dividend Trouble.ZeroDivide = record { keeps = tt }
  trouble_keeps dividend t = record { keeps = tt }

  numeric_keeps : (dividend r v : Value) (a : NumberAnswer) → G (numeric_action s dividend r v a)
  numeric_keeps dividend r v (NumberAnswer.Fraction n d) = built_made p known s h fraction_class (Integer n ∷ Integer d ∷ []) (omega arith)
  numeric_keeps dividend r v (NumberAnswer.Trouble t) = trouble_keeps dividend t
  numeric_keeps dividend r v a = record { keeps = tt }

  of_number_keeps : (m : Arithmetic) (o : Option Number) (r : Value) (args : List Value) → G (of_number s m o r args)
  of_number_keeps m None r args = record { keeps = tt }
  of_number_keeps m (Some x) r args = numeric_keeps (dividend_of m r) r (first args) (answer_of m x (argument_of s args))

  arithmetic_keeps : (m : Arithmetic) (r : Value) (args : List Value) → G (arithmetic_action s m r args)
  unfolding arithmetic_action
  arithmetic_keeps m r args = of_number_keeps m (as_number s r) r args

  integer_keeps : (v : Value) (act : ℤ → Action) → ((n : ℤ) → G (act n)) → G (with_integer v act)
  integer_keeps (Integer n) act g = g n
  integer_keeps v act g = record { keeps = tt }

  radix_keeps : (r radix : ℤ) → G (in_radix s r radix)
  radix_keeps r (pos radix) = if_keeps p known s h (nat_le 2 radix && nat_le radix 36) (makes_string (radix_text radix r) s) (Fails BadRadix) (string_made p known s h (radix_text radix r)) record { keeps = tt }
  radix_keeps r (negsuc radix) = record { keeps = tt }

  interval_keeps : (start stop by : ℤ) → G (interval s start stop by)
  interval_keeps start stop by =
      if_keeps p known s h (nat_lt (interval_size start stop by) (2 ^ 127)) (makes_slots interval_class (Integer start ∷ Integer stop ∷ Integer by ∷ []) s) PassesIntegers (built_made p known s h interval_class (Integer start ∷ Integer stop ∷ Integer by ∷ []) (omega arith)) record { keeps = tt }

  by_keeps : (start stop by : ℤ) → G (interval_by s start stop by)
  by_keeps start stop by = if_keeps p known s h (nat_eq (nat_abs by) 0) (Fails StepIsZero) (interval s start stop by) (fails p known s h StepIsZero) (interval_keeps start stop by)

  number_keeps : (m : Asked) (r : Value) (args : List Value) → G (number_at p s m r args)
  number_keeps (Asked.Computes m) r args = arithmetic_keeps m r args
  number_keeps Asked.AsString r args = string_made p known s h (print_text p s r)
  number_keeps Asked.PrintRadix r args = integer_keeps (first args) (λ radix. in_radix s (integer_of r) radix) (λ radix. radix_keeps (integer_of r) radix)
  number_keeps Asked.To r args = integer_keeps (first args) (λ stop. interval s (integer_of r) stop (pos 1)) (λ stop. interval_keeps (integer_of r) stop (pos 1))
  number_keeps Asked.ToBy r args = integer_keeps (first args) (λ stop. with_integer (second args) (λ by. interval_by s (integer_of r) stop by)) (λ stop. integer_keeps (second args) (λ by. interval_by s (integer_of r) stop by) (λ by. by_keeps (integer_of r) stop by))
  number_keeps Asked.FromNumerator r args =
      integer_keeps (first args) (λ n. with_integer (second args) (λ d. arithmetic_action s Arithmetic.Divide (Integer n) (Integer d ∷ [])))
      (λ n. integer_keeps (second args) (λ d. arithmetic_action s Arithmetic.Divide (Integer n) (Integer d ∷ [])) (λ d. arithmetic_keeps Arithmetic.Divide (Integer n) (Integer d ∷ [])))

  pub numbers_keep : (m : NumberMessage) (r : Value) (args : List Value) → G (number_action p s m r args)
  unfolding number_action
  numbers_keep m r args = number_keeps (asked m) r args
