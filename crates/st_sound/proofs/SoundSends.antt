-- What a send does at once leaves a sound store sound.
use Rattle.std.proofs.Common.{◌≡◌, ℕ, zero, suc, ◌^◌, ◌<◌, ℤ, pos, negsuc, int_le, nat_abs, nat_eq, nat_le, nat_lt, ◌&&◌, length, List, [], ◌∷◌, ◌++◌, slice_get, Option, Some, None, Bool, true, false, refl, arith, if◌then◌else◌}
use Rattle.std.proofs.lemmas.Bool.{ltb-true, ne_eqb}
use Rattle.std.specs.Option.{option_and_then}
use Rattle.object_heap.specs.declared.value.Value.{Value}
use Rattle.object_heap.specs.declared.value.Value.TheVariants.{Nil, True, False, Integer, Character, Symbol, Class, Meta, Transcript, Object}
use Rattle.object_heap.specs.declared.value.Closure.{Closure}
use Rattle.object_heap.specs.declared.trouble.Trouble.{Trouble}
use Rattle.object_heap.specs.declared.trouble.Trouble.TheVariants as trouble
use Rattle.object_heap.specs.Store.{Store, object_at}
use Rattle.st_code.specs.Program.{Program, class_at, body_at}
use Rattle.st_code.specs.BuiltIns.{array_class, exception_set_class, fraction_class, interval_class}
use Rattle.st_code.specs.Lookup.{Found, UserMethod, BuiltIn, level_of, lookup, super_lookup, is_plain, is_exception, fits}
use Rattle.st_code.specs.Messages.{Row, Objects, Classes, Booleans, Numbers, Characters, Transcripts, Strings, Sequences, Collections, Blocks, Exceptions, Loops, Slots, BlockMessage, ExceptionMessage, LoopMessage, NumberMessage}
use Rattle.st_collections.specs.Actions.{Action, Gives, Fails, PassesIntegers, Activates, Iterates, Enters, Misses, boolean, first, second, makes_slots, makes_string}
use Rattle.st_collections.specs.IntervalRows.{with_integer, interval, interval_by}
use Rattle.st_collections.specs.Kinds.{is_a, slots_of, slot_of, integer_of, natural_of, interval_size, print_text, exception_text}
use Rattle.st_collections.specs.Loops.{with_stop, with_step, begun, loop_action}
use Rattle.st_numbers.specs.Answers.{answer_of}
use Rattle.st_numbers.specs.declared.message.Number.{Number}
use Rattle.st_numbers.specs.declared.message.NumberAnswer.{NumberAnswer}
use Rattle.st_numbers.specs.declared.message.NumberMessage.{NumberMessage as Arithmetic}
use Rattle.st_rules.specs.ExceptionRows.{closure_of, value_with, block_at, block_action, selectors_of, handles, new_exception, signal_new, kept_or_text, exception_at, to_exception, exception_action}
use Rattle.st_rules.specs.NumberRows.{as_number, argument_of, dividend_of, troubled, numeric_action, of_number, arithmetic_action, radix_text, in_radix, Asked, asked, number_at, number_action}
use Rattle.st_rules.specs.Rules.{closure_for}
use Rattle.st_rules.specs.Selves.{IsOf, KnowsClasses}
use Rattle.st_rules.specs.Sends.{row_action, send_action, super_action}
use Rattle.st_sound.specs.KnownCollections.{KnowsCollections}
use Rattle.st_sound.specs.Receivers.{takes, takes_loop}
use Rattle.st_sound.specs.SoundActions.{LoopStands, ClosureWritten, ActionSound}
use Rattle.st_sound.specs.SoundRun.{ClosuresWritten}
use Rattle.st_sound.specs.SoundStore.{SoundStore, is_free}
use Rattle.st_sound.proofs.SoundObjects.{new_interval, sound_new, sound_slot, free_interval}
use Rattle.st_sound.proofs.SoundRows.{Sounds, fails, if_sound, slots_made, string_made, blank_made, slot_set, objects_sound, classes_sound, booleans_sound, characters_sound, transcripts_sound, strings_sound, sequences_sound, collections_sound}
use Rattle.st_sound.proofs.TableRows.{row_fits, super_row_fits}

-- the classes of the file are neither Dictionary nor Interval
pub declared_free : (p : Program) → KnowsCollections p → (class : ℕ) → (class_at p class).in_file ≡ true → is_free class ≡ true
declared_free p knows class e = behind class (knows.declared class e)
  where
    apart : (a b : ℕ) → (a ≡ b → ⊥) → nat_eq a b ≡ false
    apart a b f = ne_eqb a b f

    behind : (c : ℕ) → 29 < c → is_free c ≡ true
    behind c l = rw (apart c 15 (λ e. let none : ⊥ = omega (arith, e, l) in none), apart c 16 (λ e. let none : ⊥ = omega (arith, e, l) in none)) refl

-- a closure, if there is one
abbrev pub WrittenOrNone : Program → Option Closure → Type 0
WrittenOrNone p None = Unit {0}
WrittenOrNone p (Some c) = ClosureWritten p c

module _ (p : Program) (s : Store) (h : SoundStore s) where
  abbrev S : Action → Type 0
  S a = Sounds p s h a

  -- ---- numbers

  integer_sound : (v : Value) (act : ℤ → Action) → ((n : ℤ) → S (act n)) → S (with_integer v act)
  integer_sound (Integer n) act g = g n
  integer_sound v act g = record { sound = tt }

  troubled_sound : (dividend : Value) (t : Trouble) → S (troubled dividend t)
  troubled_sound dividend trouble.ZeroDivide = record { sound = tt }
  troubled_sound dividend t = record { sound = tt }

  numeric_sound : (dividend r v : Value) (a : NumberAnswer) → S (numeric_action s dividend r v a)
  numeric_sound dividend r v (NumberAnswer.Value w) = record { sound = tt }
  numeric_sound dividend r v (NumberAnswer.Fraction n d) = slots_made p s h fraction_class (Integer n ∷ Integer d ∷ []) refl
  numeric_sound dividend r v NumberAnswer.Receiver = record { sound = tt }
  numeric_sound dividend r v NumberAnswer.Argument = record { sound = tt }
  numeric_sound dividend r v (NumberAnswer.Trouble t) = troubled_sound dividend t
  numeric_sound dividend r v NumberAnswer.IntegerLimit = record { sound = tt }

  of_sound : (m : Arithmetic) (o : Option Number) (r : Value) (args : List Value) → S (of_number s m o r args)
  of_sound m None r args = record { sound = tt }
  of_sound m (Some x) r args = numeric_sound (dividend_of m r) r (first args) (answer_of m x (argument_of s args))

  arithmetic_sound : (m : Arithmetic) (r : Value) (args : List Value) → S (arithmetic_action s m r args)
  unfolding arithmetic_action
  arithmetic_sound m r args = of_sound m (as_number s r) r args

  interval_if : (b : Bool) (start stop by : ℤ) → nat_lt (interval_size start stop by) (2 ^ 127) ≡ b → S (if b then makes_slots interval_class (Integer start ∷ Integer stop ∷ Integer by ∷ []) s else PassesIntegers)
  unfolding makes_slots
  interval_if true start stop by e = record { sound = sound_new s interval_class (Integer start ∷ Integer stop ∷ Integer by ∷ []) [] h (new_interval start stop by (ltb-true (interval_size start stop by) (2 ^ 127) e)) }
  interval_if false start stop by e = record { sound = tt }

  interval_sound : (start stop by : ℤ) → S (interval s start stop by)
  interval_sound start stop by = interval_if (nat_lt (interval_size start stop by) (2 ^ 127)) start stop by refl

  by_sound : (start stop by : ℤ) → S (interval_by s start stop by)
  by_sound start stop by = if_sound p s h (nat_eq (nat_abs by) 0) (Fails trouble.StepIsZero) (interval s start stop by) (fails p s h trouble.StepIsZero) (interval_sound start stop by)

  radix_sound : (n radix : ℤ) → S (in_radix s n radix)
  radix_sound n (pos radix) = if_sound p s h (nat_le 2 radix && nat_le radix 36) (makes_string (radix_text radix n) s) (Fails trouble.BadRadix) (string_made p s h (radix_text radix n)) (fails p s h trouble.BadRadix)
  radix_sound n (negsuc radix) = record { sound = tt }

  numbers_at : (a : Asked) (r : Value) (args : List Value) → S (number_at p s a r args)
  numbers_at (Asked.Computes m) r args = arithmetic_sound m r args
  numbers_at Asked.AsString r args = string_made p s h (print_text p s r)
  numbers_at Asked.PrintRadix r args = integer_sound (first args) (λ radix. in_radix s (integer_of r) radix) (λ radix. radix_sound (integer_of r) radix)
  numbers_at Asked.To r args = integer_sound (first args) (λ n. interval s (integer_of r) n (pos 1)) (λ n. interval_sound (integer_of r) n (pos 1))
  numbers_at Asked.ToBy r args =
      integer_sound (first args) (λ n. with_integer (second args) (λ by. interval_by s (integer_of r) n by))
      (λ n. integer_sound (second args) (λ by. interval_by s (integer_of r) n by) (λ by. by_sound (integer_of r) n by))
  numbers_at Asked.FromNumerator r args =
      integer_sound (first args) (λ n. with_integer (second args) (λ d. arithmetic_action s Arithmetic.Divide (Integer n) (Integer d ∷ [])))
      (λ n. integer_sound (second args) (λ d. arithmetic_action s Arithmetic.Divide (Integer n) (Integer d ∷ [])) (λ d. arithmetic_sound Arithmetic.Divide (Integer n) (Integer d ∷ [])))

  numbers_sound : (m : NumberMessage) (r : Value) (args : List Value) → S (number_action p s m r args)
  unfolding number_action
  numbers_sound m r args = numbers_at (asked m) r args

  -- ---- exceptions

  kept_sound : (n : ℕ) (v : Value) → S (kept_or_text p s n v)
  kept_sound n Nil = string_made p s h (exception_text p s n)
  kept_sound n v = record { sound = tt }

  exceptions_at : (m : ExceptionMessage) (n : ℕ) (args : List Value) → is_free (object_at n s).class ≡ true → S (exception_at p s m n args)
  exceptions_at ExceptionMessage.Signal n args f = record { sound = h }
  exceptions_at ExceptionMessage.SignalText n args f = record { sound = sound_slot s n 0 (first args) h (free_interval (object_at n s).class f) }
  exceptions_at ExceptionMessage.MessageText n args f = kept_sound n (slot_of s (Object n) 0)
  exceptions_at ExceptionMessage.SetMessageText n args f = slot_set p s h n 0 (first args) (Object n) f
  exceptions_at ExceptionMessage.Description n args f = string_made p s h _
  exceptions_at m n args f = record { sound = tt }

  to_sound : (m : ExceptionMessage) (r : Value) (args : List Value) → is_free (level_of s r).class ≡ true → S (to_exception p s m r args)
  unfolding level_of
  to_sound m (Object n) args f = exceptions_at m n args f
  to_sound m r args f = record { sound = tt }

  handles_sound : (r v : Value) → S (handles p s r v)
  handles_sound r (Object n) = if_sound p s h (is_exception p s (Object n)) (Gives (boolean (fits p s r (object_at n s).class))) (Fails trouble.ExceptionExpected) record { sound = tt } record { sound = tt }
  handles_sound r v = record { sound = tt }

  new_sound : (r : Value) → is_free (level_of s r).class ≡ true → S (new_exception p s r)
  unfolding level_of
  new_sound (Class c) f = blank_made p s h c (class_at p c).slots 0 f
  new_sound r f = record { sound = tt }

  signal_sound : (r : Value) (args : List Value) → is_free (level_of s r).class ≡ true → S (signal_new r args)
  unfolding level_of
  signal_sound (Class c) args f = record { sound = f }
  signal_sound r args f = record { sound = tt }

  exceptions_sound : (m : ExceptionMessage) (r : Value) (args : List Value) → is_free (level_of s r).class ≡ true → S (exception_action p s m r args)
  unfolding exception_action
  exceptions_sound ExceptionMessage.New r args f = new_sound r f
  exceptions_sound ExceptionMessage.SignalNew r args f = signal_sound r args f
  exceptions_sound ExceptionMessage.Join r args f =
      if_sound p s h (is_plain p s r && is_plain p s (first args)) (makes_slots exception_set_class (selectors_of s r ++ selectors_of s (first args)) s) (Fails trouble.ExceptionSelectorExpected)
      (slots_made p s h exception_set_class (selectors_of s r ++ selectors_of s (first args)) refl) (fails p s h trouble.ExceptionSelectorExpected)
  exceptions_sound ExceptionMessage.Handles r args f = handles_sound r (first args)
  exceptions_sound m r args f = to_sound m r args f

  -- ---- loops

  begins : (m : LoopMessage) (r : Value) (args : List Value) (index : ℤ) (made : Value) → LoopStands s (begun m r args index made) → S (Iterates (begun m r args index made))
  begins m r args index made g = record { sound = g }

  stop_sound : (v : Value) (act : Action) → S act → S (with_stop v act)
  stop_sound (Integer n) act g = g
  stop_sound v act g = record { sound = tt }

  step_sound : (v : Value) (act : Action) → S act → S (with_step v act)
  step_sound (Integer n) act g = if_sound p s h (nat_eq (natural_of n) 0 && int_le (pos 0) n) (Fails trouble.StepIsZero) act (fails p s h trouble.StepIsZero) g
  step_sound v act g = record { sound = tt }

  loops_sound : (m : LoopMessage) (r : Value) (args : List Value) → takes_loop m (level_of s r).class ≡ true → S (loop_action p s m r args)
  unfolding loop_action
  loops_sound LoopMessage.ToDo r args f = stop_sound (first args) (Iterates (begun LoopMessage.ToDo r args (integer_of r) Nil)) (begins LoopMessage.ToDo r args (integer_of r) Nil record { receiver = f; kept = tt })
  loops_sound LoopMessage.ToByDo r args f =
      stop_sound (first args) (with_step (second args) (Iterates (begun LoopMessage.ToByDo r args (integer_of r) Nil)))
      (step_sound (second args) (Iterates (begun LoopMessage.ToByDo r args (integer_of r) Nil)) (begins LoopMessage.ToByDo r args (integer_of r) Nil record { receiver = f; kept = tt }))
  loops_sound LoopMessage.OccurrencesOf r args f = begins LoopMessage.OccurrencesOf r args (pos 1) (Integer (pos 0)) record { receiver = f; kept = record { lt = tt } }
  loops_sound m r args f = record { sound = record { receiver = f; kept = tt } }

  -- ---- closures

  module _ (closures : ClosuresWritten p s.closures) where
    closure_at_sound : (ds : List Closure) (n : ℕ) → ClosuresWritten p ds → WrittenOrNone p (slice_get ds n)
    closure_at_sound [] n g = tt
    closure_at_sound (c ∷ ds) zero g = g.0
    closure_at_sound (c ∷ ds) (suc n) g = closure_at_sound ds n g.1

    closure_after : (o : Option ℕ) → WrittenOrNone p (option_and_then (λ n. slice_get s.closures n) o)
    closure_after None = tt
    closure_after (Some n) = closure_at_sound s.closures n closures

    closure_of_sound : (v : Value) → WrittenOrNone p (closure_of s v)
    unfolding closure_of
    closure_of_sound (Object n) = closure_after (object_at n s).closure
    closure_of_sound Nil = tt
    closure_of_sound True = tt
    closure_of_sound False = tt
    closure_of_sound (Integer n) = tt
    closure_of_sound (Character c) = tt
    closure_of_sound (Symbol n) = tt
    closure_of_sound (Class c) = tt
    closure_of_sound (Meta c) = tt
    closure_of_sound Transcript = tt

    abbrev that_takes : Option Closure → ℕ → Option Closure
    that_takes None count = None
    that_takes (Some c) count = elim (nat_eq (body_at p c.code).parameters count) [ true ↦ Some c | false ↦ None ]

    taking_sound : (o : Option Closure) (count : ℕ) → WrittenOrNone p o → WrittenOrNone p (that_takes o count)
    taking_sound None count g = tt
    taking_sound (Some c) count g = go (nat_eq (body_at p c.code).parameters count)
      where
        go : (b : Bool) → WrittenOrNone p (elim b [ true ↦ Some c | false ↦ None ])
        go true = g
        go false = tt

    pub closure_for_sound : (v : Value) (count : ℕ) → WrittenOrNone p (closure_for p s v count)
    unfolding closure_for
    closure_for_sound v count = taking_sound (closure_of s v) count (closure_of_sound v)

    value_sound : (c : Closure) (args : List Value) → ClosureWritten p c → S (value_with p c args)
    value_sound c args g = if_sound p s h (nat_eq (body_at p c.code).parameters (length args)) (Activates c args) (Fails trouble.WrongNumberOfArguments) record { sound = g } record { sound = tt }

    block_sound : (m : BlockMessage) (r : Value) (c : Closure) (args : List Value) → ClosureWritten p c → S (block_at p s m r c args)
    block_sound BlockMessage.Value r c args g = value_sound c args g
    block_sound BlockMessage.ValueWithArguments r c args g = if_sound p s h (is_a s array_class (first args)) (value_with p c (slots_of s (first args))) (Fails trouble.CollectionExpected) (value_sound c (slots_of s (first args)) g) record { sound = tt }
    block_sound BlockMessage.NumArgs r c args g = record { sound = tt }
    block_sound BlockMessage.OnDo r c args g = record { sound = tt }
    block_sound BlockMessage.Ensure r c args g = record { sound = tt }
    block_sound BlockMessage.IfCurtailed r c args g = record { sound = tt }

    blocks_by : (m : BlockMessage) (r : Value) (o : Option Closure) (args : List Value) → WrittenOrNone p o → S (elim o [ Some c ↦ block_at p s m r c args | None ↦ Gives Nil ])
    blocks_by m r None args g = record { sound = tt }
    blocks_by m r (Some c) args g = block_sound m r c args g

    -- ---- rows and sends

    module _ (knows : KnowsCollections p) where
      rows_sound : (row : Row) (r : Value) (args : List Value) → takes row (level_of s r).class ≡ true → S (row_action p s row r args)
      unfolding row_action block_action
      rows_sound (Objects m) r args f = objects_sound p s h (declared_free p knows) m r args
      rows_sound (Classes m) r args f = classes_sound p s h (declared_free p knows) m r args
      rows_sound (Booleans m) r args f = booleans_sound p s h m r args
      rows_sound (Numbers m) r args f = numbers_sound m r args
      rows_sound (Characters m) r args f = characters_sound p s h m r args
      rows_sound (Transcripts m) r args f = transcripts_sound p s h m r args
      rows_sound (Strings m) r args f = strings_sound p s h m r args
      rows_sound (Sequences m) r args f = sequences_sound p s h m r args f
      rows_sound (Collections m) r args f = collections_sound p s h m r args f
      rows_sound (Blocks m) r args f = blocks_by m r (closure_of s r) args (closure_of_sound r)
      rows_sound (Exceptions m) r args f = exceptions_sound m r args f
      rows_sound (Loops m) r args f = loops_sound m r args f
      rows_sound (Slots slot) r args f = record { sound = tt }

      abbrev found_by : Option Found → ℕ → Value → List Value → Action
      found_by (Some (UserMethod code)) selector r args = Enters code r args
      found_by (Some (BuiltIn row)) selector r args = row_action p s row r args
      found_by None selector r args = Misses selector r args

      found_sound : (o : Option Found) (selector : ℕ) (r : Value) (args : List Value) → ((row : Row) → o ≡ Some (BuiltIn row) → takes row (level_of s r).class ≡ true) → ActionSound p s (found_by o selector r args)
      found_sound (Some (UserMethod code)) selector r args f = tt
      found_sound (Some (BuiltIn row)) selector r args f = (rows_sound row r args (f row refl)).sound
      found_sound None selector r args f = tt

      pub send_sound : (selector : ℕ) (r : Value) (args : List Value) → ActionSound p s (send_action p s selector r args)
      unfolding send_action
      send_sound selector r args = found_sound (lookup p (level_of s r) selector) selector r args (λ row e. row_fits p knows (level_of s r) selector row e)

      pub super_sound : KnowsClasses p → (class : Value) (selector : ℕ) (r : Value) (args : List Value) → IsOf p s r class → ActionSound p s (super_action p s class selector r args)
      unfolding super_action
      super_sound classes class selector r args g = found_sound (super_lookup p class selector) selector r args (λ row e. super_row_fits p knows classes s class r selector row g e)
