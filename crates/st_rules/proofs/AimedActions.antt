-- What a message does at once leaves the closures as they are, or copies one, and activates one that is there.
use Rattle.std.proofs.Common.{◌≡◌, ℕ, zero, suc, ◌<◌, length, pos, List, [], ◌∷◌, Option, Some, None, Bool, true, false, ap, subst, sym, arith, nat_eq, slice_get, if◌then◌else◌}
use Rattle.std.specs.Option.{option_and_then}
use Rattle.object_heap.specs.declared.value.Value.{Value}
use Rattle.object_heap.specs.declared.value.Value.TheVariants.{Nil, Integer, Object}
use Rattle.object_heap.specs.declared.value.Closure.{Closure}
use Rattle.object_heap.specs.declared.trouble.Trouble.TheVariants.{WrongNumberOfArguments, CollectionExpected}
use Rattle.object_heap.specs.Store.{Store, Object as HeapObject, closure_at, object_at}
use Rattle.st_code.specs.Program.{Program, body_at}
use Rattle.st_code.specs.BuiltIns.{array_class}
use Rattle.st_code.specs.Messages.{Row, Objects, Classes, Booleans, Numbers, Characters, Transcripts, Strings, Sequences, Collections, Blocks, Exceptions, Loops, Slots, BlockMessage, ObjectMessage}
use Rattle.st_code.specs.Lookup.{Found, UserMethod, BuiltIn, level_of, lookup, super_lookup}
use Rattle.st_collections.specs.Actions.{Action, Gives, Changes, Makes, Writes, Fails, DividesByZero, PassesIntegers, Begins, Activates, Sends, Misses, Enters, Guards, Ensures, Curtails, Iterates, Raises, RaisesNew, Controls, Terminates, first, second}
use Rattle.st_collections.specs.Kinds.{is_a, slots_of}
use Rattle.st_collections.specs.ObjectRows.{copied, object_action}
use Rattle.st_rules.specs.State.{Mark}
use Rattle.st_rules.specs.Sends.{row_action, send_action, super_action}
use Rattle.st_rules.specs.ExceptionRows.{closure_of, block_action}
use Rattle.st_rules.specs.Rules.{closure_for}
use Rattle.st_rules.proofs.SameRows.{with_rest, relabeled, object_free, class_free, boolean_free, number_free, character_free, transcript_free, string_free, sequence_free, collection_free, exception_free, loop_free}
use Rattle.st_rules.proofs.Targets.{HomeOk, HomesOk, homes_new}

-- what a message does at once leaves the closures as they are, or copies one, and activates one that is there
abbrev pub ActionOk : List Mark → ℕ → List Closure → Action → Type 0
ActionOk s next cs (Changes t v) = t.closures ≡ cs
ActionOk s next cs (Makes n t v) = HomesOk s next t.closures
ActionOk s next cs (Raises t e) = t.closures ≡ cs
ActionOk s next cs (Activates c args) = HomeOk c.home s × (c.home < next)
ActionOk s next cs a = Unit {0}

-- a closure that may be activated
abbrev pub There' : Option Closure → List Mark → ℕ → Type 0
There' None s next = Unit {0}
There' (Some c) s next = HomeOk c.home s × (c.home < next)

module _ (p : Program) (s : List Mark) (next : ℕ) (t : Store) (homes : HomesOk s next t.closures) where
  abbrev Fine : Action → Type 0
  Fine a = ActionOk s next t.closures a

  changes_store : (a b : Store) (v : Value) → Changes a v ≡ Changes b v → a ≡ b
  changes_store a b v e = cc

  makes_store : (n : ℕ) (a b : Store) (v : Value) → Makes n a v ≡ Makes n b v → a ≡ b
  makes_store n a b v e = cc

  raises_store : (a b : Store) (n : ℕ) → Raises a n ≡ Raises b n → a ≡ b
  raises_store a b n e = cc

  row_fine : (a : Action) → a ≡ relabeled t.closures t.scopes a → Fine a
  row_fine (Gives v) e = tt
  row_fine (Changes u v) e = ap (λ (x : Store). x.closures) (changes_store u (with_rest t.closures t.scopes u) v e)
  row_fine (Makes n u v) e = subst (λ (x : Store). HomesOk s next x.closures) (sym (makes_store n u (with_rest t.closures t.scopes u) v e)) homes
  row_fine (Writes text v) e = tt
  row_fine (Fails trouble) e = tt
  row_fine (DividesByZero v) e = tt
  row_fine PassesIntegers e = tt
  row_fine (Begins v args) e = tt
  row_fine (Activates c args) e = let none : ⊥ = grind (arith, e) in absurd none
  row_fine (Sends selector r args) e = tt
  row_fine (Misses selector r args) e = tt
  row_fine (Enters code r args) e = tt
  row_fine (Guards v w x) e = tt
  row_fine (Ensures v w) e = tt
  row_fine (Curtails v w) e = tt
  row_fine (Iterates l) e = tt
  row_fine (Raises u n) e = ap (λ (x : Store). x.closures) (raises_store u (with_rest t.closures t.scopes u) n e)
  row_fine (RaisesNew c slots) e = tt
  row_fine (Controls c n v) e = tt
  row_fine (Terminates v) e = tt

  -- a closure that is there
  abbrev There : Option Closure → Type 0
  There o = There' o s next

  there_at : (cs : List Closure) (k : ℕ) → HomesOk s next cs → There (slice_get cs k)
  there_at [] k h = tt
  there_at (c ∷ cs) zero h = h.0
  there_at (c ∷ cs) (suc k) h = there_at cs k h.1

  there_after : (o : Option ℕ) → There (option_and_then (λ k. slice_get t.closures k) o)
  there_after None = tt
  there_after (Some k) = there_at t.closures k homes

  pub there_of : (v : Value) → There (closure_of t v)
  unfolding closure_of
  there_of (Object n) = there_after (object_at n t).closure
  there_of v = tt

  abbrev that_takes : Option Closure → ℕ → Option Closure
  that_takes None count = None
  that_takes (Some c) count = elim (nat_eq (body_at p c.code).parameters count) [ true ↦ Some c | false ↦ None ]

  there_taking : (o : Option Closure) (count : ℕ) → There o → There (that_takes o count)
  there_taking None count h = tt
  there_taking (Some c) count h = go (nat_eq (body_at p c.code).parameters count)
    where
      go : (b : Bool) → There (elim b [ true ↦ Some c | false ↦ None ])
      go true = h
      go false = tt

  pub there_for : (v : Value) (count : ℕ) → There (closure_for p t v count)
  unfolding closure_for
  there_for v count = there_taking (closure_of t v) count (there_of v)

  if_fine : (b : Bool) (a c : Action) → Fine a → Fine c → Fine (if b then a else c)
  if_fine true a c x y = x
  if_fine false a c x y = y

  -- a message of a Block with this closure
  abbrev activates : Closure → List Value → Action
  activates c args = if nat_eq (body_at p c.code).parameters (length args) then Activates c args else Fails WrongNumberOfArguments

  abbrev block_given : BlockMessage → Value → Closure → List Value → Action
  block_given BlockMessage.Value r c args = activates c args
  block_given BlockMessage.ValueWithArguments r c args = if is_a t array_class (first args) then activates c (slots_of t (first args)) else Fails CollectionExpected
  block_given BlockMessage.NumArgs r c args = Gives (Integer (pos (body_at p c.code).parameters))
  block_given BlockMessage.OnDo r c args = Guards r (first args) (second args)
  block_given BlockMessage.Ensure r c args = Ensures r (first args)
  block_given BlockMessage.IfCurtailed r c args = Curtails r (first args)

  abbrev block_by : BlockMessage → Value → Option Closure → List Value → Action
  block_by m r o args = elim o [ Some c ↦ block_given m r c args | None ↦ Gives Nil ]

  activates_fine : (c : Closure) (args : List Value) → There (Some c) → Fine (activates c args)
  activates_fine c args h = if_fine (nat_eq (body_at p c.code).parameters (length args)) (Activates c args) (Fails WrongNumberOfArguments) h tt

  block_fine : (m : BlockMessage) (r : Value) (o : Option Closure) (args : List Value) → There o → Fine (block_by m r o args)
  block_fine m r None args h = tt
  block_fine BlockMessage.Value r (Some c) args h = activates_fine c args h
  block_fine BlockMessage.ValueWithArguments r (Some c) args h = if_fine (is_a t array_class (first args)) (activates c (slots_of t (first args))) (Fails CollectionExpected) (activates_fine c (slots_of t (first args)) h) tt
  block_fine BlockMessage.NumArgs r (Some c) args h = tt
  block_fine BlockMessage.OnDo r (Some c) args h = tt
  block_fine BlockMessage.Ensure r (Some c) args h = tt
  block_fine BlockMessage.IfCurtailed r (Some c) args h = tt

  copied_fine : (o : HeapObject) (c : Option Closure) → There c → Fine (copied t o c)
  copied_fine o None h = homes
  copied_fine o (Some c) h = homes_new s next t.closures c homes h.0 h.1

  copy_fine : (r : Value) (args : List Value) → Fine (object_action p t ObjectMessage.Copy r args)
  unfolding object_action
  copy_fine (Object n) args = copied_fine (object_at n t) (closure_at n t) (there_after (object_at n t).closure)
  copy_fine r args = tt

  rows_fine : (row : Row) (r : Value) (args : List Value) → Fine (row_action p t row r args)
  unfolding row_action block_action
  rows_fine (Objects ObjectMessage.Copy) r args = copy_fine r args
  rows_fine (Objects m) r args = row_fine _ (object_free p t t.closures t.scopes m r args tt)
  rows_fine (Classes m) r args = row_fine _ (class_free p t t.closures t.scopes m r args)
  rows_fine (Booleans m) r args = row_fine _ (boolean_free p t t.closures t.scopes m r args)
  rows_fine (Numbers m) r args = row_fine _ (number_free p t t.closures t.scopes m r args)
  rows_fine (Characters m) r args = row_fine _ (character_free p t t.closures t.scopes m r args)
  rows_fine (Transcripts m) r args = row_fine _ (transcript_free p t t.closures t.scopes m r args)
  rows_fine (Strings m) r args = row_fine _ (string_free p t t.closures t.scopes m r args)
  rows_fine (Sequences m) r args = row_fine _ (sequence_free p t t.closures t.scopes m r args)
  rows_fine (Collections m) r args = row_fine _ (collection_free p t t.closures t.scopes m r args)
  rows_fine (Blocks m) r args = block_fine m r (closure_of t r) args (there_of r)
  rows_fine (Exceptions m) r args = row_fine _ (exception_free p t t.closures t.scopes m r args)
  rows_fine (Loops m) r args = row_fine _ (loop_free p t t.closures t.scopes m r args)
  rows_fine (Slots slot) r args = tt

  abbrev found_by : Option Found → ℕ → Value → List Value → Action
  found_by (Some (UserMethod code)) selector r args = Enters code r args
  found_by (Some (BuiltIn row)) selector r args = row_action p t row r args
  found_by None selector r args = Misses selector r args

  found_fine : (f : Option Found) (selector : ℕ) (r : Value) (args : List Value) → Fine (found_by f selector r args)
  found_fine (Some (UserMethod code)) selector r args = tt
  found_fine (Some (BuiltIn row)) selector r args = rows_fine row r args
  found_fine None selector r args = tt

  pub send_fine : (selector : ℕ) (r : Value) (args : List Value) → Fine (send_action p t selector r args)
  unfolding send_action
  send_fine selector r args = found_fine (lookup p (level_of t r) selector) selector r args

  pub super_fine : (class : Value) (selector : ℕ) (r : Value) (args : List Value) → Fine (super_action p t class selector r args)
  unfolding super_action
  super_fine class selector r args = found_fine (super_lookup p class selector) selector r args
