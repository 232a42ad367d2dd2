-- Messages of Integers and Fractions (ANSI 5.6): how numbers are read from values, and what becomes of their answers. The arithmetic itself stands with the numbers, and Intervals with the collections.
use Rattle.std.specs.Prelude.{ℕ, ◌+◌, ℤ, pos, negsuc, true, ◌&&◌, List, [], ◌∷◌, Option, Some, None, nat_le, if◌then◌else◌}
use Rattle.std.specs.Fmt.{digits_onto}
use Rattle.object_heap.specs.declared.value.Value.{Value}
use Rattle.object_heap.specs.declared.value.Value.TheVariants.{Integer, Object}
use Rattle.object_heap.specs.declared.trouble.Trouble.{Trouble}
use Rattle.object_heap.specs.declared.trouble.Trouble.TheVariants.{NumberExpected, BadRadix}
use Rattle.object_heap.specs.Store.{Store}
use Rattle.st_numbers.specs.Answers.{answer_of}
use Rattle.st_numbers.specs.Numbers.{is_proper}
use Rattle.st_numbers.specs.declared.message.Number.{Number}
use Rattle.st_numbers.specs.declared.message.NumberAnswer.{NumberAnswer}
use Rattle.st_numbers.specs.declared.message.NumberArgument.{NumberArgument}
use Rattle.st_numbers.specs.declared.message.NumberMessage.{NumberMessage as Arithmetic}
use Rattle.st_code.specs.Program.{Program}
use Rattle.st_code.specs.BuiltIns.{fraction_class}
use Rattle.st_code.specs.Messages.{NumberMessage}
use Rattle.st_collections.specs.Actions.{Action, Gives, Fails, DividesByZero, PassesIntegers, first, second, makes_slots, makes_string}
use Rattle.st_collections.specs.IntervalRows.{with_integer, to_action, to_by_action}
use Rattle.st_collections.specs.Kinds.{is_a, slot_of, integer_of, print_text}

-- a number that stands in lowest terms; no run makes a Fraction that doesn't
abbrev pub if_proper : Number → Option Number
if_proper x = if is_proper x then Some x else None

-- the number that a value is: an Integer, or a Fraction by its two slots
unfoldable pub as_number : Store → Value → Option Number
as_number s (Integer n) = Some (Number.Integer n)
as_number s (Object number) = if is_a s fraction_class (Object number) then if_proper (Number.Fraction (integer_of (slot_of s (Object number) 0)) (integer_of (slot_of s (Object number) 1))) else None
as_number s v = None

-- what comes with a message
abbrev pub as_argument : Value → Option Number → NumberArgument
as_argument v (Some x) = NumberArgument.Number x
as_argument v None = NumberArgument.Other v

unfoldable pub argument_of : Store → List Value → NumberArgument
argument_of s [] = NumberArgument.None
argument_of s (v ∷ vs) = as_argument v (as_number s v)

-- what is divided, where the divisor is zero: the receiver, and 1 by `reciprocal`
abbrev pub dividend_of : Arithmetic → Value → Value
dividend_of Arithmetic.Reciprocal r = Integer (pos 1)
dividend_of m r = r

abbrev pub troubled : (dividend : Value) → Trouble → Action
troubled dividend Trouble.ZeroDivide = DividesByZero dividend
troubled dividend t = Fails t

-- an answer: a value, a new Fraction, a trouble or the integer limit
abbrev pub numeric_action : Store → (dividend receiver argument : Value) → NumberAnswer → Action
numeric_action s dividend r v (NumberAnswer.Value w) = Gives w
numeric_action s dividend r v (NumberAnswer.Fraction n d) = makes_slots fraction_class (Integer n ∷ Integer d ∷ []) s
numeric_action s dividend r v NumberAnswer.Receiver = Gives r
numeric_action s dividend r v NumberAnswer.Argument = Gives v
numeric_action s dividend r v (NumberAnswer.Trouble t) = troubled dividend t
numeric_action s dividend r v NumberAnswer.IntegerLimit = PassesIntegers

abbrev pub of_number : Store → Arithmetic → Option Number → Value → List Value → Action
of_number s m None r args = Fails NumberExpected
of_number s m (Some x) r args = numeric_action s (dividend_of m r) r (first args) (answer_of m x (argument_of s args))

-- what a message of arithmetic does
unfoldable pub arithmetic_action : Store → Arithmetic → Value → List Value → Action
arithmetic_action s m r args = of_number s m (as_number s r) r args

-- the last digits, so many at most, with capital letters
unfoldable pub last_digits : (most radix n : ℕ) → List ℕ → List ℕ
last_digits most radix n behind = digits_onto most radix true n behind

abbrev pub radix_text : ℕ → ℤ → List ℕ
radix_text radix (pos n) = last_digits 128 radix n []
radix_text radix (negsuc n) = 45 ∷ last_digits 128 radix (n + 1) []

-- an Integer by its digits, for a radix from 2 to 36
abbrev pub in_radix : Store → ℤ → ℤ → Action
in_radix s r (pos radix) = if nat_le 2 radix && nat_le radix 36 then makes_string (radix_text radix r) s else Fails BadRadix
in_radix s r (negsuc radix) = Fails BadRadix

-- `printString:`, of an Integer
abbrev pub in_radix_action : Store → (receiver radix : Value) → Action
in_radix_action s r radix = with_integer radix (λ n. in_radix s (integer_of r) n)

-- `numerator:denominator:`, which divides
abbrev pub fraction_action : Store → (numerator denominator : Value) → Action
fraction_action s over under = with_integer over (λ n. with_integer under (λ d. arithmetic_action s Arithmetic.Divide (Integer n) (Integer d ∷ [])))

-- what a message asks for: arithmetic, or what takes more than numbers
pub data Asked : Type 0 where
  Computes : Arithmetic → Asked
  AsString PrintRadix To ToBy FromNumerator : Asked

abbrev pub asked : NumberMessage → Asked
asked NumberMessage.Add = Asked.Computes Arithmetic.Add
asked NumberMessage.Subtract = Asked.Computes Arithmetic.Subtract
asked NumberMessage.Multiply = Asked.Computes Arithmetic.Multiply
asked NumberMessage.Divide = Asked.Computes Arithmetic.Divide
asked NumberMessage.FloorDivide = Asked.Computes Arithmetic.FloorDivide
asked NumberMessage.FloorModulo = Asked.Computes Arithmetic.Modulo
asked NumberMessage.Quotient = Asked.Computes Arithmetic.Quo
asked NumberMessage.Remainder = Asked.Computes Arithmetic.Rem
asked NumberMessage.Less = Asked.Computes Arithmetic.Less
asked NumberMessage.Greater = Asked.Computes Arithmetic.Greater
asked NumberMessage.LessOrEqual = Asked.Computes Arithmetic.LessOrEqual
asked NumberMessage.GreaterOrEqual = Asked.Computes Arithmetic.GreaterOrEqual
asked NumberMessage.Equal = Asked.Computes Arithmetic.Equal
asked NumberMessage.Negated = Asked.Computes Arithmetic.Negated
asked NumberMessage.Abs = Asked.Computes Arithmetic.Abs
asked NumberMessage.Sign = Asked.Computes Arithmetic.Sign
asked NumberMessage.Even = Asked.Computes Arithmetic.Even
asked NumberMessage.Odd = Asked.Computes Arithmetic.Odd
asked NumberMessage.IsZero = Asked.Computes Arithmetic.IsZero
asked NumberMessage.Max = Asked.Computes Arithmetic.Max
asked NumberMessage.Min = Asked.Computes Arithmetic.Min
asked NumberMessage.Gcd = Asked.Computes Arithmetic.Gcd
asked NumberMessage.Lcm = Asked.Computes Arithmetic.Lcm
asked NumberMessage.BitAnd = Asked.Computes Arithmetic.BitAnd
asked NumberMessage.BitOr = Asked.Computes Arithmetic.BitOr
asked NumberMessage.BitXor = Asked.Computes Arithmetic.BitXor
asked NumberMessage.BitShift = Asked.Computes Arithmetic.BitShift
asked NumberMessage.Numerator = Asked.Computes Arithmetic.Numerator
asked NumberMessage.Denominator = Asked.Computes Arithmetic.Denominator
asked NumberMessage.Truncated = Asked.Computes Arithmetic.Truncated
asked NumberMessage.Reciprocal = Asked.Computes Arithmetic.Reciprocal
asked NumberMessage.AsString = Asked.AsString
asked NumberMessage.PrintRadix = Asked.PrintRadix
asked NumberMessage.To = Asked.To
asked NumberMessage.ToBy = Asked.ToBy
asked NumberMessage.FromNumerator = Asked.FromNumerator

abbrev pub number_at : Program → Store → Asked → Value → List Value → Action
number_at p s (Asked.Computes m) r args = arithmetic_action s m r args
number_at p s Asked.AsString r args = makes_string (print_text p s r) s
number_at p s Asked.PrintRadix r args = in_radix_action s r (first args)
number_at p s Asked.To r args = to_action s r (first args)
number_at p s Asked.ToBy r args = to_by_action s r (first args) (second args)
number_at p s Asked.FromNumerator r args = fraction_action s (first args) (second args)

unfoldable pub number_action : Program → Store → NumberMessage → Value → List Value → Action
number_action p s m r args = number_at p s (asked m) r args
