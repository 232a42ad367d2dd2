-- What a message of arithmetic does, by what its receiver is.
use Rattle.std.proofs.Common.{◌≡◌, List, Some, None, true, refl, sym}
use Rattle.object_heap.specs.declared.trouble.Trouble.TheVariants.{NumberExpected}
use Rattle.object_heap.specs.declared.value.Value.{Value}
use Rattle.object_heap.specs.Store.{Store}
use Rattle.st_numbers.specs.Answers.{answer_of}
use Rattle.st_numbers.specs.declared.message.Number.{Number}
use Rattle.st_numbers.specs.declared.message.NumberAnswer.{NumberAnswer}
use Rattle.st_numbers.specs.declared.message.NumberArgument.{NumberArgument}
use Rattle.st_numbers.specs.declared.message.NumberMessage.{NumberMessage}
use Rattle.st_code.specs.Messages.{NumberMessage as NumberRow}
use Rattle.st_code.specs.Program.{Program}
use Rattle.st_code.specs.Texts.{Text}
use Rattle.st_collections.specs.Actions.{Fails, first, second, makes_bytes, makes_string}
use Rattle.st_collections.specs.Kinds.{print_text}
use Rattle.st_rules.specs.NumberRows.{argument_of, arithmetic_action, as_number, dividend_of, fraction_action, in_radix_action, number_action, numeric_action}
use Rattle.st_messages.specs.Rows.{arithmetic_row}
use Rattle.st_messages.proofs.AtOnce.{is_at_once}

pub no_number : (s : Store) (m : NumberMessage) (r : Value) (args : List Value) → None ≡ as_number s r → arithmetic_action s m r args ≡ Fails NumberExpected
unfolding arithmetic_action
no_number s m r args e = rw (sym e) refl

pub of_a_number : (s : Store) (m : NumberMessage) (r : Value) (args : List Value) (x : Number) (a : NumberArgument) (d v : Value) (n : NumberAnswer)
    → Some x ≡ as_number s r → a ≡ argument_of s args → d ≡ dividend_of m r → v ≡ first args → n ≡ answer_of m x a → arithmetic_action s m r args ≡ numeric_action s d r v n
unfolding arithmetic_action
of_a_number s m r args x a d v n e e1 e2 e3 e4 = rw (sym e, e4, e1, e2, e3) refl

-- the rows of arithmetic
pub arithmetic_same : (p : Program) (s : Store) (m : NumberMessage) (r : Value) (args : List Value) → number_action p s (arithmetic_row m) r args ≡ arithmetic_action s m r args
unfolding number_action
arithmetic_same p s NumberMessage.Add r args = refl
arithmetic_same p s NumberMessage.Subtract r args = refl
arithmetic_same p s NumberMessage.Multiply r args = refl
arithmetic_same p s NumberMessage.Divide r args = refl
arithmetic_same p s NumberMessage.FloorDivide r args = refl
arithmetic_same p s NumberMessage.Modulo r args = refl
arithmetic_same p s NumberMessage.Quo r args = refl
arithmetic_same p s NumberMessage.Rem r args = refl
arithmetic_same p s NumberMessage.Less r args = refl
arithmetic_same p s NumberMessage.Greater r args = refl
arithmetic_same p s NumberMessage.LessOrEqual r args = refl
arithmetic_same p s NumberMessage.GreaterOrEqual r args = refl
arithmetic_same p s NumberMessage.Equal r args = refl
arithmetic_same p s NumberMessage.Negated r args = refl
arithmetic_same p s NumberMessage.Abs r args = refl
arithmetic_same p s NumberMessage.Sign r args = refl
arithmetic_same p s NumberMessage.Even r args = refl
arithmetic_same p s NumberMessage.Odd r args = refl
arithmetic_same p s NumberMessage.IsZero r args = refl
arithmetic_same p s NumberMessage.Max r args = refl
arithmetic_same p s NumberMessage.Min r args = refl
arithmetic_same p s NumberMessage.Gcd r args = refl
arithmetic_same p s NumberMessage.Lcm r args = refl
arithmetic_same p s NumberMessage.BitAnd r args = refl
arithmetic_same p s NumberMessage.BitOr r args = refl
arithmetic_same p s NumberMessage.BitXor r args = refl
arithmetic_same p s NumberMessage.BitShift r args = refl
arithmetic_same p s NumberMessage.Numerator r args = refl
arithmetic_same p s NumberMessage.Denominator r args = refl
arithmetic_same p s NumberMessage.Truncated r args = refl
arithmetic_same p s NumberMessage.Reciprocal r args = refl

-- the others
pub string_same : (p : Program) (s : Store) (r : Value) (args : List Value) → number_action p s NumberRow.AsString r args ≡ makes_string (print_text p s r) s
unfolding number_action
string_same p s r args = refl

pub radix_same : (p : Program) (s : Store) (r : Value) (args : List Value) → number_action p s NumberRow.PrintRadix r args ≡ in_radix_action s r (first args)
unfolding number_action
radix_same p s r args = refl

pub fraction_same : (p : Program) (s : Store) (r : Value) (args : List Value) → number_action p s NumberRow.FromNumerator r args ≡ fraction_action s (first args) (second args)
unfolding number_action
fraction_same p s r args = refl

pub string_once : (t : Text) (s : Store) → is_at_once (makes_string t s) ≡ true
unfolding makes_string makes_bytes
string_once t s = refl
