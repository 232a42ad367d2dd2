-- What a send does at once leaves objects built.
use Rattle.std.proofs.Common.{◌≡◌, get_or, ℕ, zero, suc, ◌^◌, ◌<◌, ◌≤ℤ◌, ◌==◌, unsigned_abs, replicate, ℤ, pos, negsuc, int_le, nat_abs, nat_eq, nat_le, nat_lt, ◌&&◌, length, List, [], ◌∷◌, ◌++◌, Option, Some, None, Bool, true, false, eqb-true, true≢false, refl, sym, ap, arith, if◌then◌else◌}
use Rattle.std.proofs.lemmas.Bool.{ne_eqb}
use Rattle.std.proofs.lemmas.Int.{ints}
use Rattle.object_heap.specs.declared.value.Value.{Value}
use Rattle.object_heap.specs.declared.value.Value.TheVariants.{Nil, True, False, Integer, Character, Symbol, Class, Meta, Transcript, Object}
use Rattle.object_heap.specs.declared.value.Closure.{Closure}
use Rattle.object_heap.specs.declared.trouble.Trouble.{Trouble}
use Rattle.object_heap.specs.declared.trouble.Trouble.TheVariants as trouble
use Rattle.object_heap.specs.Store.{Store, object_at}
use Rattle.st_code.specs.Program.{ClassRow, Program, class_at, body_at}
use Rattle.st_code.specs.BuiltIns.{array_class, exception_set_class, fraction_class, interval_class}
use Rattle.st_code.specs.Lookup.{Found, UserMethod, BuiltIn, level_of, lookup, super_lookup, is_plain, is_exception, fits}
use Rattle.st_code.specs.Messages.{Row, Objects, Classes, Booleans, Numbers, Characters, Transcripts, Strings, Sequences, Collections, Blocks, Exceptions, Loops, Slots, BlockMessage, ExceptionMessage, LoopMessage, NumberMessage}
use Rattle.st_collections.specs.Actions.{Action, Gives, Fails, PassesIntegers, Activates, Enters, Misses, boolean, first, second, makes_slots, makes_string, makes_blank}
use Rattle.st_collections.specs.IntervalRows.{with_integer, interval, interval_by}
use Rattle.st_collections.specs.Kinds.{is_a, slots_of, slot_of, integer_of, natural_of, interval_size, print_text, exception_text}
use Rattle.st_collections.specs.Loops.{with_stop, with_step, loop_action}
use Rattle.st_numbers.specs.Answers.{answer_of}
use Rattle.st_numbers.specs.declared.message.Number.{Number}
use Rattle.st_numbers.specs.declared.message.NumberAnswer.{NumberAnswer}
use Rattle.st_numbers.specs.declared.message.NumberMessage.{NumberMessage as Arithmetic}
use Rattle.st_rules.specs.ExceptionRows.{closure_of, value_with, block_at, block_action, selectors_of, handles, new_exception, signal_new, kept_or_text, exception_at, to_exception, exception_action}
use Rattle.st_rules.specs.NumberRows.{if_proper, as_number, as_argument, argument_of, dividend_of, troubled, numeric_action, of_number, arithmetic_action, radix_text, in_radix, Asked, asked, number_at, number_action}
use Rattle.st_rules.specs.Selves.{IsOf, KnowsClasses}
use Rattle.st_rules.specs.Sends.{row_action, send_action, super_action}
use Rattle.st_numbers.specs.Answers.{IsProperAnswer}
use Rattle.st_numbers.specs.Numbers.{is_proper, IsProper, IsProperArgument}
use Rattle.st_numbers.specs.Gcd.{gcd}
use Rattle.st_numbers.proofs.ProperAnswers.{answer-proper}
use Rattle.st_sound.specs.KnownCollections.{KnowsCollections}
use Rattle.st_sound.specs.Receivers.{takes}
use Rattle.st_sound.proofs.TableRows.{row_fits, super_row_fits}
use Rattle.law_values.specs.BuiltObjects.{BuiltStore}
use Rattle.law_values.specs.KnownBuilt.{KnowsBuilt}
use Rattle.law_values.proofs.BuiltActions.{ActionBuilt}
use Rattle.law_values.proofs.BuiltObjects.{is_bound, unbound_object, built_new, built_slot, new_fraction, new_interval}
use Rattle.law_values.proofs.BuiltRows.{Builds, not_false, fails, if_built, literal, slots_made, string_made, slot_set, objects_built, classes_built, booleans_built, characters_built, transcripts_built, strings_built, sequences_built, collections_built}
use Rattle.law_values.proofs.BuiltTable.{none_class, is_open, is_loose, FitsRow, found_fits, super_fits}

-- a class of the file is there
in_list : (rows : List ClassRow) (class : ℕ) → (get_or rows class none_class).in_file ≡ true → class < length rows
in_list [] class e = absurd (true≢false (sym e))
in_list (r ∷ rows) zero e = omega arith
in_list (r ∷ rows) (suc class) e = let l = in_list rows class e in omega (arith, l)

there : (p : Program) (class : ℕ) → (class_at p class).in_file ≡ true → class < length p.classes
unfolding class_at
there p class e = in_list p.classes class e

-- the classes of the file aren't fixed
declared_loose : (p : Program) → KnowsCollections p → (class : ℕ) → (class_at p class).in_file ≡ true → (is_loose class ≡ true) × (class < length p.classes)
declared_loose p knows class e = (behind class (knows.declared class e), there p class e)
  where
    apart : (a b : ℕ) → b < a → nat_eq a b ≡ false
    apart a b l = ne_eqb a b (λ e. let none : ⊥ = omega (arith, e, l) in none)

    behind : (c : ℕ) → 29 < c → is_loose c ≡ true
    behind c l =
        rw (apart c 6 (omega (arith, l)), apart c 16 (omega (arith, l)), apart c 18 (omega (arith, l)), apart c 19 (omega (arith, l)), apart c 17 (omega (arith, l)), apart c 23 (omega (arith, l)), apart c 24 (omega (arith, l)), apart c 25 (omega (arith, l)), apart c 26 (omega (arith, l)), apart c 27 (omega (arith, l)), apart c 28 (omega (arith, l))) refl

-- ---- numbers that are read stand in lowest terms

proper_is : (x : Number) → is_proper x ≡ true → IsProper x
proper_is (Number.Integer n) e = tt
proper_is (Number.Fraction n d) e = go (int_le (pos 2) d) (gcd (unsigned_abs n) (unsigned_abs d) == 1) refl refl e
  where
    go : (a b : Bool) → int_le (pos 2) d ≡ a → (gcd (unsigned_abs n) (unsigned_abs d) == 1) ≡ b → (a && b) ≡ true → (pos 2 ≤ℤ d) × (gcd (unsigned_abs n) (unsigned_abs d) ≡ 1)
    go true true f g e = (grind (arith, ints, f), eqb-true (gcd (unsigned_abs n) (unsigned_abs d)) 1 g)
    go true false f g e = absurd (true≢false (sym e))
    go false b f g e = absurd (true≢false (sym e))

abbrev ProperOrNone : Option Number → Type 0
ProperOrNone None = Unit {0}
ProperOrNone (Some x) = IsProper x

if_proper_is : (x : Number) → ProperOrNone (if_proper x)
if_proper_is x = go (is_proper x) refl
  where
    go : (b : Bool) → is_proper x ≡ b → ProperOrNone (if b then Some x else None)
    go true e = proper_is x e
    go false e = tt

number_is : (s : Store) (v : Value) → ProperOrNone (as_number s v)
unfolding as_number
number_is s (Integer n) = tt
number_is s (Object n) = go (is_a s fraction_class (Object n)) (if_proper_is (Number.Fraction (integer_of (slot_of s (Object n) 0)) (integer_of (slot_of s (Object n) 1))))
  where
    go : (b : Bool) → ProperOrNone (if_proper (Number.Fraction (integer_of (slot_of s (Object n) 0)) (integer_of (slot_of s (Object n) 1)))) → ProperOrNone (if b then if_proper (Number.Fraction (integer_of (slot_of s (Object n) 0)) (integer_of (slot_of s (Object n) 1))) else None)
    go true g = g
    go false g = tt
number_is s Nil = tt
number_is s True = tt
number_is s False = tt
number_is s (Character c) = tt
number_is s (Symbol c) = tt
number_is s (Class c) = tt
number_is s (Meta c) = tt
number_is s Transcript = tt

argument_is : (s : Store) (args : List Value) → IsProperArgument (argument_of s args)
unfolding argument_of
argument_is s [] = tt
argument_is s (v ∷ vs) = go (as_number s v) (number_is s v)
  where
    go : (o : Option Number) → ProperOrNone o → IsProperArgument (as_argument v o)
    go None g = tt
    go (Some x) g = g

module _ (p : Program) (known : KnowsBuilt p) (s : Store) (h : BuiltStore p s) where
  abbrev S : Action → Type 0
  S a = Builds p known s h a

  -- ---- numbers

  integer_built : (v : Value) (act : ℤ → Action) → ((n : ℤ) → S (act n)) → S (with_integer v act)
  integer_built (Integer n) act g = g n
  integer_built v act g = record { built = tt }

  troubled_built : (dividend : Value) (t : Trouble) → S (troubled dividend t)
  troubled_built dividend trouble.ZeroDivide = record { built = tt }
  troubled_built dividend t = record { built = tt }

  fraction_made : (n d : ℤ) → IsProper (Number.Fraction n d) → S (makes_slots fraction_class (Integer n ∷ Integer d ∷ []) s)
  unfolding makes_slots
  fraction_made n d g = record { built = built_new p s fraction_class (Integer n ∷ Integer d ∷ []) [] h (new_fraction p known s n d g) }

  numeric_built : (dividend r v : Value) (a : NumberAnswer) → IsProperAnswer a → S (numeric_action s dividend r v a)
  numeric_built dividend r v (NumberAnswer.Value w) g = record { built = tt }
  numeric_built dividend r v (NumberAnswer.Fraction n d) g = fraction_made n d g
  numeric_built dividend r v NumberAnswer.Receiver g = record { built = tt }
  numeric_built dividend r v NumberAnswer.Argument g = record { built = tt }
  numeric_built dividend r v (NumberAnswer.Trouble t) g = troubled_built dividend t
  numeric_built dividend r v NumberAnswer.IntegerLimit g = record { built = tt }

  of_built : (m : Arithmetic) (o : Option Number) (r : Value) (args : List Value) → ProperOrNone o → S (of_number s m o r args)
  of_built m None r args g = record { built = tt }
  of_built m (Some x) r args g = numeric_built (dividend_of m r) r (first args) (answer_of m x (argument_of s args)) (answer-proper m x (argument_of s args) g (argument_is s args))

  arithmetic_built : (m : Arithmetic) (r : Value) (args : List Value) → S (arithmetic_action s m r args)
  unfolding arithmetic_action
  arithmetic_built m r args = of_built m (as_number s r) r args (number_is s r)

  interval_if : (b : Bool) (start stop by : ℤ) → nat_eq (nat_abs by) 0 ≡ false → S (if b then makes_slots interval_class (Integer start ∷ Integer stop ∷ Integer by ∷ []) s else PassesIntegers)
  unfolding makes_slots
  interval_if true start stop by e = record { built = built_new p s interval_class (Integer start ∷ Integer stop ∷ Integer by ∷ []) [] h (new_interval p known s start stop by e) }
  interval_if false start stop by e = record { built = tt }

  interval_built : (start stop by : ℤ) → nat_eq (nat_abs by) 0 ≡ false → S (interval s start stop by)
  interval_built start stop by e = interval_if (nat_lt (interval_size start stop by) (2 ^ 127)) start stop by e

  by_built : (start stop by : ℤ) → S (interval_by s start stop by)
  by_built start stop by = go (nat_eq (nat_abs by) 0) refl
    where
      go : (b : Bool) → nat_eq (nat_abs by) 0 ≡ b → S (if b then Fails trouble.StepIsZero else interval s start stop by)
      go true e = record { built = tt }
      go false e = interval_built start stop by e

  radix_built : (n radix : ℤ) → S (in_radix s n radix)
  radix_built n (pos radix) = if_built p known s h (nat_le 2 radix && nat_le radix 36) (makes_string (radix_text radix n) s) (Fails trouble.BadRadix) (string_made p known s h (radix_text radix n)) (fails p known s h trouble.BadRadix)
  radix_built n (negsuc radix) = record { built = tt }

  numbers_at : (a : Asked) (r : Value) (args : List Value) → S (number_at p s a r args)
  numbers_at (Asked.Computes m) r args = arithmetic_built m r args
  numbers_at Asked.AsString r args = string_made p known s h (print_text p s r)
  numbers_at Asked.PrintRadix r args = integer_built (first args) (λ radix. in_radix s (integer_of r) radix) (λ radix. radix_built (integer_of r) radix)
  numbers_at Asked.To r args = integer_built (first args) (λ n. interval s (integer_of r) n (pos 1)) (λ n. interval_built (integer_of r) n (pos 1) refl)
  numbers_at Asked.ToBy r args =
      integer_built (first args) (λ n. with_integer (second args) (λ by. interval_by s (integer_of r) n by))
      (λ n. integer_built (second args) (λ by. interval_by s (integer_of r) n by) (λ by. by_built (integer_of r) n by))
  numbers_at Asked.FromNumerator r args =
      integer_built (first args) (λ n. with_integer (second args) (λ d. arithmetic_action s Arithmetic.Divide (Integer n) (Integer d ∷ [])))
      (λ n. integer_built (second args) (λ d. arithmetic_action s Arithmetic.Divide (Integer n) (Integer d ∷ [])) (λ d. arithmetic_built Arithmetic.Divide (Integer n) (Integer d ∷ [])))

  numbers_built : (m : NumberMessage) (r : Value) (args : List Value) → S (number_action p s m r args)
  unfolding number_action
  numbers_built m r args = numbers_at (asked m) r args

  -- ---- exceptions

  kept_built : (n : ℕ) (v : Value) → S (kept_or_text p s n v)
  kept_built n Nil = string_made p known s h (exception_text p s n)
  kept_built n v = record { built = tt }

  exceptions_at : (m : ExceptionMessage) (n : ℕ) (args : List Value) → is_open (object_at n s).class ≡ true → S (exception_at p s m n args)
  exceptions_at ExceptionMessage.Signal n args f = record { built = h }
  exceptions_at ExceptionMessage.SignalText n args f = record { built = built_slot p s n 0 (first args) h (not_false (is_bound (object_at n s).class) f) }
  exceptions_at ExceptionMessage.MessageText n args f = kept_built n (slot_of s (Object n) 0)
  exceptions_at ExceptionMessage.SetMessageText n args f = slot_set p known s h n 0 (first args) (Object n) f
  exceptions_at ExceptionMessage.Description n args f = string_made p known s h _
  exceptions_at m n args f = record { built = tt }

  to_built : (m : ExceptionMessage) (r : Value) (args : List Value) → is_open (level_of s r).class ≡ true → S (to_exception p s m r args)
  unfolding level_of
  to_built m (Object n) args f = exceptions_at m n args f
  to_built m r args f = record { built = tt }

  handles_built : (r v : Value) → S (handles p s r v)
  handles_built r (Object n) = if_built p known s h (is_exception p s (Object n)) (Gives (boolean (fits p s r (object_at n s).class))) (Fails trouble.ExceptionExpected) record { built = tt } record { built = tt }
  handles_built r v = record { built = tt }

  nils : (n : ℕ) → length (replicate n Nil) ≡ n
  nils zero = refl
  nils (suc n) = ap suc (nils n)

  new_built : (r : Value) → is_open (level_of s r).class ≡ true → (level_of s r).class < length p.classes → S (new_exception p s r)
  unfolding level_of makes_blank
  new_built (Class c) f l = record { built = built_new p s c (replicate (class_at p c).slots Nil) [] h (unbound_object p s _ (not_false (is_bound c) f) refl (λ e. nils (class_at p c).slots) l) }
  new_built r f l = record { built = tt }

  signal_built : (r : Value) (args : List Value) → is_open (level_of s r).class ≡ true → (level_of s r).class < length p.classes → S (signal_new r args)
  unfolding level_of
  signal_built (Class c) args f l = record { built = (f, l) }
  signal_built r args f l = record { built = tt }

  exceptions_built : (m : ExceptionMessage) (r : Value) (args : List Value) → is_open (level_of s r).class ≡ true → (level_of s r).class < length p.classes → S (exception_action p s m r args)
  unfolding exception_action
  exceptions_built ExceptionMessage.New r args f l = new_built r f l
  exceptions_built ExceptionMessage.SignalNew r args f l = signal_built r args f l
  exceptions_built ExceptionMessage.Join r args f l =
      if_built p known s h (is_plain p s r && is_plain p s (first args)) (makes_slots exception_set_class (selectors_of s r ++ selectors_of s (first args)) s) (Fails trouble.ExceptionSelectorExpected)
      (slots_made p known s h exception_set_class (selectors_of s r ++ selectors_of s (first args)) (literal p known s h exception_set_class refl refl)) (fails p known s h trouble.ExceptionSelectorExpected)
  exceptions_built ExceptionMessage.Handles r args f l = handles_built r (first args)
  exceptions_built m r args f l = to_built m r args f

  -- ---- loops

  stop_built : (v : Value) (act : Action) → S act → S (with_stop v act)
  stop_built (Integer n) act g = g
  stop_built v act g = record { built = tt }

  step_built : (v : Value) (act : Action) → S act → S (with_step v act)
  step_built (Integer n) act g = if_built p known s h (nat_eq (natural_of n) 0 && int_le (pos 0) n) (Fails trouble.StepIsZero) act (fails p known s h trouble.StepIsZero) g
  step_built v act g = record { built = tt }

  loops_built : (m : LoopMessage) (r : Value) (args : List Value) → S (loop_action p s m r args)
  unfolding loop_action
  loops_built LoopMessage.ToDo r args = stop_built (first args) _ record { built = tt }
  loops_built LoopMessage.ToByDo r args = stop_built (first args) _ (step_built (second args) _ record { built = tt })
  loops_built m r args = record { built = tt }

  -- ---- blocks

  value_built : (c : Closure) (args : List Value) → S (value_with p c args)
  value_built c args = if_built p known s h (nat_eq (body_at p c.code).parameters (length args)) (Activates c args) (Fails trouble.WrongNumberOfArguments) record { built = tt } record { built = tt }

  block_built : (m : BlockMessage) (r : Value) (c : Closure) (args : List Value) → S (block_at p s m r c args)
  block_built BlockMessage.Value r c args = value_built c args
  block_built BlockMessage.ValueWithArguments r c args = if_built p known s h (is_a s array_class (first args)) (value_with p c (slots_of s (first args))) (Fails trouble.CollectionExpected) (value_built c (slots_of s (first args))) record { built = tt }
  block_built BlockMessage.NumArgs r c args = record { built = tt }
  block_built BlockMessage.OnDo r c args = record { built = tt }
  block_built BlockMessage.Ensure r c args = record { built = tt }
  block_built BlockMessage.IfCurtailed r c args = record { built = tt }

  blocks_by : (m : BlockMessage) (r : Value) (o : Option Closure) (args : List Value) → S (elim o [ Some c ↦ block_at p s m r c args | None ↦ Gives Nil ])
  blocks_by m r None args = record { built = tt }
  blocks_by m r (Some c) args = block_built m r c args

  -- ---- rows and sends

  module _ (knows : KnowsCollections p) where
    rows_built : (row : Row) (r : Value) (args : List Value) → takes row (level_of s r).class ≡ true → FitsRow p row (level_of s r).class → S (row_action p s row r args)
    unfolding row_action block_action
    rows_built (Objects m) r args f g = objects_built p known s h (declared_loose p knows) m r args
    rows_built (Classes m) r args f g = classes_built p known s h (declared_loose p knows) m r args
    rows_built (Booleans m) r args f g = booleans_built p known s h m r args
    rows_built (Numbers m) r args f g = numbers_built m r args
    rows_built (Characters m) r args f g = characters_built p known s h m r args
    rows_built (Transcripts m) r args f g = transcripts_built p known s h m r args
    rows_built (Strings m) r args f g = strings_built p known s h m r args
    rows_built (Sequences m) r args f g = sequences_built p known s h m r args g
    rows_built (Collections m) r args f g = collections_built p known s h m r args f g
    rows_built (Blocks m) r args f g = blocks_by m r (closure_of s r) args
    rows_built (Exceptions m) r args f g = exceptions_built m r args g.0 g.1
    rows_built (Loops m) r args f g = loops_built m r args
    rows_built (Slots slot) r args f g = record { built = tt }

    abbrev found_by : Option Found → ℕ → Value → List Value → Action
    found_by (Some (UserMethod code)) selector r args = Enters code r args
    found_by (Some (BuiltIn row)) selector r args = row_action p s row r args
    found_by None selector r args = Misses selector r args

    found_built : (o : Option Found) (selector : ℕ) (r : Value) (args : List Value) → ((row : Row) → o ≡ Some (BuiltIn row) → (takes row (level_of s r).class ≡ true) × (FitsRow p row (level_of s r).class)) → ActionBuilt p (found_by o selector r args)
    found_built (Some (UserMethod code)) selector r args f = tt
    found_built (Some (BuiltIn row)) selector r args f = (let x = f row refl in rows_built row r args x.0 x.1).built
    found_built None selector r args f = tt

    pub send_built : (selector : ℕ) (r : Value) (args : List Value) → ActionBuilt p (send_action p s selector r args)
    unfolding send_action
    send_built selector r args = found_built (lookup p (level_of s r) selector) selector r args (λ row e. (row_fits p knows (level_of s r) selector row e, found_fits p knows known (level_of s r) selector row e))

    pub super_built : KnowsClasses p → (class : Value) (selector : ℕ) (r : Value) (args : List Value) → IsOf p s r class → ActionBuilt p (super_action p s class selector r args)
    unfolding super_action
    super_built classes class selector r args g = found_built (super_lookup p class selector) selector r args (λ row e. (super_row_fits p knows classes s class r selector row g e, super_fits p knows known classes s class r selector row g e))
