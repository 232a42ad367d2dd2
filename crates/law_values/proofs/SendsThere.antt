-- What a send does at once, and the closure of a block, has values that are there.
use Rattle.std.proofs.Common.{◌≡◌, ℕ, zero, suc, length, nat_eq, slice_get, List, [], ◌∷◌, Option, Some, None, Bool, true, false, ◌<◌}
use Rattle.std.specs.Option.{option_and_then}
use Rattle.object_heap.specs.declared.value.Value.{Value}
use Rattle.object_heap.specs.declared.value.Value.TheVariants.{Nil, True, False, Integer, Character, Symbol, Class, Meta, Transcript, Object}
use Rattle.object_heap.specs.declared.value.Closure.{Closure}
use Rattle.object_heap.specs.declared.trouble.Trouble.TheVariants.{WrongNumberOfArguments, CollectionExpected}
use Rattle.object_heap.specs.Store.{Store, object_at}
use Rattle.st_code.specs.Program.{Program, body_at, class_at}
use Rattle.st_code.specs.BuiltIns.{array_class}
use Rattle.st_code.specs.Messages.{Row, Objects, Classes, Booleans, Numbers, Characters, Transcripts, Strings, Sequences, Collections, Blocks, Exceptions, Loops, Slots, BlockMessage}
use Rattle.st_code.specs.Lookup.{Found, UserMethod, BuiltIn, level_of, lookup, super_lookup}
use Rattle.st_collections.specs.Actions.{Action, Gives, Fails, Activates, Misses, Enters, first}
use Rattle.st_collections.specs.Kinds.{is_a, slots_of}
use Rattle.st_rules.specs.Sends.{row_action, send_action, super_action}
use Rattle.st_rules.specs.ExceptionRows.{closure_of, value_with, block_at, block_action}
use Rattle.st_rules.specs.Rules.{closure_for}
use Rattle.law_values.specs.KnownNumbers.{Has, AllHave, ObjectsHave, ClosureHas, ClosuresHave, ActionHas}
use Rattle.law_values.proofs.ValuesThere.{first_has, second_has}
use Rattle.law_values.proofs.RowsThere.{Gets, slots_have, slot_has, if_has}
use Rattle.law_values.proofs.NumbersThere.{numbers_have}
use Rattle.law_values.proofs.MoreRowsThere.{objects_have, classes_have, booleans_have, characters_have, transcripts_have, strings_have, sequences_have, collections_have, exceptions_have, loops_have}

module _ (C : ℕ) (low : 29 < C) where
  -- a closure, if there is one
  abbrev pub ClosureOr : ℕ → Option Closure → Type 0
  ClosureOr k None = Unit {0}
  ClosureOr k (Some c) = ClosureHas C k c

  module _ (p : Program) (s : Store) (h : ObjectsHave C (length s.objects) s.objects) (cs : ClosuresHave C (length s.objects) s.closures) where
    abbrev k : ℕ
    k = length s.objects

    closure_at_has : (ds : List Closure) (n : ℕ) → ClosuresHave C k ds → ClosureOr k (slice_get ds n)
    closure_at_has [] n g = tt
    closure_at_has (c ∷ ds) zero g = g.0
    closure_at_has (c ∷ ds) (suc n) g = closure_at_has ds n g.1

    closure_after : (o : Option ℕ) → ClosureOr k (option_and_then (λ n. slice_get s.closures n) o)
    closure_after None = tt
    closure_after (Some n) = closure_at_has s.closures n cs

    closure_of_has : (v : Value) → ClosureOr k (closure_of s v)
    unfolding closure_of
    closure_of_has (Object n) = closure_after (object_at n s).closure
    closure_of_has Nil = tt
    closure_of_has True = tt
    closure_of_has False = tt
    closure_of_has (Integer n) = tt
    closure_of_has (Character c) = tt
    closure_of_has (Symbol n) = tt
    closure_of_has (Class c) = tt
    closure_of_has (Meta c) = tt
    closure_of_has Transcript = tt

    abbrev that_takes : Option Closure → ℕ → Option Closure
    that_takes None count = None
    that_takes (Some c) count = elim (nat_eq (body_at p c.code).parameters count) [ true ↦ Some c | false ↦ None ]

    taking_has : (o : Option Closure) (count : ℕ) → ClosureOr k o → ClosureOr k (that_takes o count)
    taking_has None count g = tt
    taking_has (Some c) count g = go (nat_eq (body_at p c.code).parameters count)
      where
        go : (b : Bool) → ClosureOr k (elim b [ true ↦ Some c | false ↦ None ])
        go true = g
        go false = tt

    pub closure_for_has : (v : Value) (count : ℕ) → ClosureOr k (closure_for p s v count)
    unfolding closure_for
    closure_for_has v count = taking_has (closure_of s v) count (closure_of_has v)

    value_with_has : (c : Closure) (args : List Value) → ClosureHas C k c → AllHave C k args → Gets C low p s h (value_with p c args)
    value_with_has c args g i = if_has C low p s h (nat_eq (body_at p c.code).parameters (length args)) (Activates c args) (Fails WrongNumberOfArguments) record { gets = (g, i) } record { gets = tt }

    block_has : (m : BlockMessage) (r : Value) (c : Closure) (args : List Value) → Has C k r → ClosureHas C k c → AllHave C k args → Gets C low p s h (block_at p s m r c args)
    block_has BlockMessage.Value r c args g d i = value_with_has c args d i
    block_has BlockMessage.ValueWithArguments r c args g d i = if_has C low p s h (is_a s array_class (first args)) (value_with p c (slots_of s (first args))) (Fails CollectionExpected) (value_with_has c (slots_of s (first args)) d (slots_have C low p s h (first args))) record { gets = tt }
    block_has BlockMessage.NumArgs r c args g d i = record { gets = tt }
    block_has BlockMessage.OnDo r c args g d i = record { gets = (g, first_has C low k args i, second_has C low k args i) }
    block_has BlockMessage.Ensure r c args g d i = record { gets = (g, first_has C low k args i) }
    block_has BlockMessage.IfCurtailed r c args g d i = record { gets = (g, first_has C low k args i) }

    blocks_by : (m : BlockMessage) (r : Value) (o : Option Closure) (args : List Value) → Has C k r → ClosureOr k o → AllHave C k args → Gets C low p s h (elim o [ Some c ↦ block_at p s m r c args | None ↦ Gives Nil ])
    blocks_by m r None args g d i = record { gets = tt }
    blocks_by m r (Some c) args g d i = block_has m r c args g d i

    module _ (cl : (n : ℕ) → (object_at n s).class < C) (up : (class above : ℕ) → (class_at p class).superclass ≡ Some above → above < C) where
      rows_have : (row : Row) (r : Value) (args : List Value) → Has C k r → AllHave C k args → Gets C low p s h (row_action p s row r args)
      unfolding row_action block_action
      rows_have (Objects m) r args g i = objects_have C low p s h cl m r args g i
      rows_have (Classes m) r args g i = classes_have C low p s h up m r args
      rows_have (Booleans m) r args g i = booleans_have C low p s h m r args g i
      rows_have (Numbers m) r args g i = numbers_have C low p s h m r args g i
      rows_have (Characters m) r args g i = characters_have C low p s h m r args
      rows_have (Transcripts m) r args g i = transcripts_have C low p s h m r args g
      rows_have (Strings m) r args g i = strings_have C low p s h m r args
      rows_have (Sequences m) r args g i = sequences_have C low p s h m r args g i
      rows_have (Collections m) r args g i = collections_have C low p s h m r args g i
      rows_have (Blocks m) r args g i = blocks_by m r (closure_of s r) args g (closure_of_has r) i
      rows_have (Exceptions m) r args g i = exceptions_have C low p s h m r args g i
      rows_have (Loops m) r args g i = loops_have C low p s h m r args g i
      rows_have (Slots slot) r args g i = record { gets = slot_has C low p s h r slot }

      abbrev found_by : Option Found → ℕ → Value → List Value → Action
      found_by (Some (UserMethod code)) selector r args = Enters code r args
      found_by (Some (BuiltIn row)) selector r args = row_action p s row r args
      found_by None selector r args = Misses selector r args

      found_has : (o : Option Found) (selector : ℕ) (r : Value) (args : List Value) → Has C k r → AllHave C k args → ActionHas C s (found_by o selector r args)
      found_has (Some (UserMethod code)) selector r args g i = (g, i)
      found_has (Some (BuiltIn row)) selector r args g i = (rows_have row r args g i).gets
      found_has None selector r args g i = (g, i)

      pub send_has : (selector : ℕ) (r : Value) (args : List Value) → Has C k r → AllHave C k args → ActionHas C s (send_action p s selector r args)
      unfolding send_action
      send_has selector r args g i = found_has (lookup p (level_of s r) selector) selector r args g i

      pub super_has : (class : Value) (selector : ℕ) (r : Value) (args : List Value) → Has C k r → AllHave C k args → ActionHas C s (super_action p s class selector r args)
      unfolding super_action
      super_has class selector r args g i = found_has (super_lookup p class selector) selector r args g i
