-- A send does the same at once on both machines: what it finds, and what that does.
use Rattle.std.proofs.Common.{◌≡◌, ℕ, pos, List, [], ◌∷◌, ◌++◌, length, Option, Some, None, Bool, true, false, refl, sym, ap, ◌∙◌, subst, arith, nat_eq, if◌then◌else◌, drop}
use Rattle.std.specs.Option.{option_map}
use Rattle.std.proofs.lemmas.List.{length-map, map-append}
use Rattle.object_heap.specs.declared.value.Value.{Value}
use Rattle.object_heap.specs.declared.value.Value.TheVariants.{Nil, Integer, Object}
use Rattle.object_heap.specs.declared.value.Closure.{Closure}
use Rattle.object_heap.specs.declared.trouble.Trouble.TheVariants.{WrongNumberOfArguments, CollectionExpected}
use Rattle.object_heap.specs.Store.{Store, Object as HeapObject, block_added, block_object, closure_at, object_at}
use Rattle.st_code.specs.Program.{Program, MethodRow, InMethod, body_at}
use Rattle.st_code.specs.BuiltIns.{array_class}
use Rattle.st_code.specs.Messages.{Row, Objects, Classes, Booleans, Numbers, Characters, Transcripts, Strings, Sequences, Collections, Blocks, Exceptions, Loops, Slots, BlockMessage, ObjectMessage}
use Rattle.st_code.specs.Lookup.{Level, level_of, class_level, walk, Found, UserMethod, BuiltIn, method_at, found_at, found_in, lookup, super_lookup}
use Rattle.st_collections.specs.Actions.{Action, Gives, Changes, Makes, Writes, Fails, DividesByZero, PassesIntegers, Begins, Activates, Sends, Misses, Enters, Guards, Ensures, Curtails, Iterates, Raises, RaisesNew, Controls, Terminates, first, next_object, second}
use Rattle.st_collections.specs.Kinds.{is_a, slots_of, slot_of}
use Rattle.st_collections.specs.ObjectRows.{copied, object_action}
use Rattle.st_rules.specs.Sends.{row_action, send_action, super_action}
use Rattle.st_rules.specs.ExceptionRows.{closure_of, block_action}
use Rattle.st_rules.specs.Compilable.{Body, AllMethods, Compilable}
use Rattle.st_rules.proofs.SameRows.{with_rest, relabeled, object_free, class_free, boolean_free, number_free, character_free, transcript_free, string_free, sequence_free, collection_free, exception_free, loop_free}
use Rattle.st_rules.proofs.Flattening.{Places, placed, flat_closures, flat_store, flat_action, StoreHolds, ClosureHolds, ClosuresHold, ActionHolds}
use Rattle.st_rules.proofs.FlatControl.{Both, both_of}

-- ---- methods

module _ (p : Program) (ok : Compilable p) where
  abbrev IsMethod : Option ℕ → Type 0
  IsMethod (Some code) = Body p code InMethod None
  IsMethod None = Unit {0}

  abbrev IsFound : Option Found → Type 0
  IsFound (Some (UserMethod code)) = Body p code InMethod None
  IsFound (Some (BuiltIn row)) = Unit {0}
  IsFound None = Unit {0}

  picked : (b : Bool) (x y : Option ℕ) → IsMethod x → IsMethod y → IsMethod (elim b [ true ↦ x | false ↦ y ])
  picked true x y h i = h
  picked false x y h i = i

  method_held : (methods : List MethodRow) (l : Level) (selector : ℕ) → AllMethods p methods → IsMethod (method_at methods l selector)
  unfolding method_at
  method_held [] l selector h = tt
  method_held (m ∷ methods) l selector h = picked _ (Some m.code) (method_at methods l selector) h.0 (method_held methods l selector h.1)

  level_held : (o : Option ℕ) (built : Option Row) → IsMethod o → IsFound (elim o [ Some code ↦ Some (UserMethod code) | None ↦ option_map BuiltIn built ])
  level_held (Some code) built h = h
  level_held None None h = tt
  level_held None (Some row) h = tt

  at_held : (l : Level) (selector : ℕ) → IsFound (found_at p l selector)
  unfolding found_at
  at_held l selector = level_held (method_at p.methods l selector) _ (method_held p.methods l selector ok.methods)

  first_held : (o rest : Option Found) → IsFound o → IsFound rest → IsFound (elim o [ Some found ↦ Some found | None ↦ rest ])
  first_held (Some found) rest h i = h
  first_held None rest h i = i

  found_held : (levels : List Level) (selector : ℕ) → IsFound (found_in p levels selector)
  unfolding found_in
  found_held [] selector = tt
  found_held (l ∷ levels) selector = first_held (found_at p l selector) (found_in p levels selector) (at_held l selector) (found_held levels selector)

-- ---- rows

module _ (p : Program) (g : Places) (s : Store) (holds : StoreHolds p g s.scopes s.closures) where
  -- both do the same, in a store that has the closures and scopes of this one
  abbrev Same : Action → Action → Type 0
  Same a' a = (a' ≡ flat_action p g s.closures a) × ActionHolds p s.closures s.scopes a

  changes_store : (t t' : Store) (v : Value) → Changes t v ≡ Changes t' v → t ≡ t'
  changes_store t t' v e = cc

  makes_store : (n : ℕ) (t t' : Store) (v : Value) → Makes n t v ≡ Makes n t' v → t ≡ t'
  makes_store n t t' v e = cc

  raises_store : (t t' : Store) (n : ℕ) → Raises t n ≡ Raises t' n → t ≡ t'
  raises_store t t' n e = cc

  row_same : (a' a : Action) → a' ≡ relabeled (flat_closures g s.closures) g.scopes a → a ≡ relabeled s.closures s.scopes a → Same a' a
  row_same a' (Gives v) e f = (e, tt)
  row_same a' (Changes t v) e f = (e, sym (changes_store t (with_rest s.closures s.scopes t) v f))
  row_same a' (Makes n t v) e f =
      let kept : t ≡ with_rest s.closures s.scopes t = makes_store n t (with_rest s.closures s.scopes t) v f in
      let closures : t.closures ≡ s.closures = ap (λ (x : Store). x.closures) kept in (
        e ∙ ap (λ (cs : List Closure). Makes n (with_rest (flat_closures g cs) g.scopes t) v) (sym closures),
        (ap (λ (x : Store). x.scopes) kept, subst (λ (cs : List Closure). ClosuresHold p s.scopes cs) (sym closures) holds.closures),
      )
  row_same a' (Writes text v) e f = (e, tt)
  row_same a' (Fails trouble) e f = (e, tt)
  row_same a' (DividesByZero v) e f = (e, tt)
  row_same a' PassesIntegers e f = (e, tt)
  row_same a' (Begins v args) e f = (e, tt)
  row_same a' (Activates c args) e f = let none : ⊥ = grind (arith, f) in absurd none
  row_same a' (Sends selector r args) e f = (e, tt)
  row_same a' (Misses selector r args) e f = (e, tt)
  row_same a' (Enters code r args) e f = let none : ⊥ = grind (arith, f) in absurd none
  row_same a' (Guards v w x) e f = (e, tt)
  row_same a' (Ensures v w) e f = (e, tt)
  row_same a' (Curtails v w) e f = (e, tt)
  row_same a' (Iterates l) e f = (e, tt)
  row_same a' (Raises t n) e f = (e, sym (raises_store t (with_rest s.closures s.scopes t) n f))
  row_same a' (RaisesNew c slots) e f = (e, tt)
  row_same a' (Controls c n v) e f = (e, tt)
  row_same a' (Terminates v) e f = (e, tt)

  -- a message of a Block with this closure
  abbrev activates : Closure → List Value → Action
  activates c args = if nat_eq (body_at p c.code).parameters (length args) then Activates c args else Fails WrongNumberOfArguments

  abbrev block_given : Store → BlockMessage → Value → Closure → List Value → Action
  block_given t BlockMessage.Value r c args = activates c args
  block_given t BlockMessage.ValueWithArguments r c args = if is_a t array_class (first args) then activates c (slots_of t (first args)) else Fails CollectionExpected
  block_given t BlockMessage.NumArgs r c args = Gives (Integer (pos (body_at p c.code).parameters))
  block_given t BlockMessage.OnDo r c args = Guards r (first args) (second args)
  block_given t BlockMessage.Ensure r c args = Ensures r (first args)
  block_given t BlockMessage.IfCurtailed r c args = Curtails r (first args)

  abbrev block_by : Store → BlockMessage → Value → Option Closure → List Value → Action
  block_by t m r o args = elim o [ Some c ↦ block_given t m r c args | None ↦ Gives Nil ]

  activates_same : (c : Closure) (args : List Value) → ClosureHolds p s.scopes c → Same (activates (placed g.places c) args) (activates c args)
  activates_same c args h = go (nat_eq (body_at p c.code).parameters (length args))
    where
      go : (b : Bool) → Same (if b then Activates (placed g.places c) args else Fails WrongNumberOfArguments) (if b then Activates c args else Fails WrongNumberOfArguments)
      go true = (refl, h)
      go false = (refl, tt)

  block_given_same : (m : BlockMessage) (r : Value) (c : Closure) (args : List Value) → ClosureHolds p s.scopes c → Same (block_given (flat_store g s) m r (placed g.places c) args) (block_given s m r c args)
  unfolding is_a slots_of
  block_given_same BlockMessage.Value r c args h = activates_same c args h
  block_given_same BlockMessage.ValueWithArguments r c args h = go (is_a s array_class (first args))
    where
      go : (b : Bool) → Same (if b then activates (placed g.places c) (slots_of s (first args)) else Fails CollectionExpected) (if b then activates c (slots_of s (first args)) else Fails CollectionExpected)
      go true = activates_same c (slots_of s (first args)) h
      go false = (refl, tt)
  block_given_same BlockMessage.NumArgs r c args h = (refl, tt)
  block_given_same BlockMessage.OnDo r c args h = (refl, tt)
  block_given_same BlockMessage.Ensure r c args h = (refl, tt)
  block_given_same BlockMessage.IfCurtailed r c args h = (refl, tt)

  block_by_same : (m : BlockMessage) (r : Value) (o o' : Option Closure) (args : List Value) → Both p g s.scopes o o' → Same (block_by (flat_store g s) m r o' args) (block_by s m r o args)
  block_by_same m r None o' args b = subst (λ x. Same (block_by (flat_store g s) m r x args) (Gives Nil)) (sym b) (refl, tt)
  block_by_same m r (Some c) o' args b = subst (λ x. Same (block_by (flat_store g s) m r x args) (block_given s m r c args)) (sym b.0) (block_given_same m r c args b.1)

  block_same : (m : BlockMessage) (r : Value) (args : List Value) → Same (block_action p (flat_store g s) m r args) (block_action p s m r args)
  unfolding block_action
  block_same m r args = block_by_same m r (closure_of s r) (closure_of (flat_store g s) r) args (both_of p g s r holds.closures)

  -- ---- a copy

  closure_added : (cs : List Closure) (c : Closure) → ClosuresHold p s.scopes cs → ClosureHolds p s.scopes c → ClosuresHold p s.scopes (cs ++ c ∷ [])
  closure_added [] c h i = (i, tt)
  closure_added (d ∷ cs) c h i = (h.0, closure_added cs c h.1 i)

  blocks_same : (class : ℕ) (c : Closure) → block_added class (placed g.places c) (flat_store g s) ≡ flat_store g (block_added class c s)
  blocks_same class c =
      ap (λ n. record { objects = s.objects ++ block_object class n ∷ []; closures = flat_closures g s.closures ++ placed g.places c ∷ []; scopes = g.scopes }) (length-map s.closures (placed g.places))
      ∙ ap (λ cs. record { objects = s.objects ++ block_object class (length s.closures) ∷ []; closures = cs; scopes = g.scopes }) (sym (map-append (placed g.places) s.closures (c ∷ [])))

  copied_same : (o : HeapObject) (c c' : Option Closure) → Both p g s.scopes c c' → Same (copied (flat_store g s) o c') (copied s o c)
  copied_same o None c' b = subst (λ x. Same (copied (flat_store g s) o x) (copied s o None)) (sym b) (refl, (refl, holds.closures))
  copied_same o (Some c) c' b =
      subst (λ x. Same (copied (flat_store g s) o x) (copied s o (Some c))) (sym b.0)
      (ap (λ (t : Store). Makes 2 t (next_object s)) (blocks_same o.class c), (refl, closure_added s.closures c holds.closures b.1))

  copy_same : (r : Value) (args : List Value) → Same (object_action p (flat_store g s) ObjectMessage.Copy r args) (object_action p s ObjectMessage.Copy r args)
  unfolding object_action closure_of
  copy_same (Object n) args = copied_same (object_at n s) (closure_at n s) (closure_at n (flat_store g s)) (both_of p g s (Object n) holds.closures)
  copy_same r args = (refl, tt)

  rows_same : (row : Row) (r : Value) (args : List Value) → Same (row_action p (flat_store g s) row r args) (row_action p s row r args)
  unfolding row_action slot_of slots_of
  rows_same (Objects ObjectMessage.Copy) r args = copy_same r args
  rows_same (Objects m) r args = row_same _ _ (object_free p s (flat_closures g s.closures) g.scopes m r args tt) (object_free p s s.closures s.scopes m r args tt)
  rows_same (Classes m) r args = row_same _ _ (class_free p s (flat_closures g s.closures) g.scopes m r args) (class_free p s s.closures s.scopes m r args)
  rows_same (Booleans m) r args = row_same _ _ (boolean_free p s (flat_closures g s.closures) g.scopes m r args) (boolean_free p s s.closures s.scopes m r args)
  rows_same (Numbers m) r args = row_same _ _ (number_free p s (flat_closures g s.closures) g.scopes m r args) (number_free p s s.closures s.scopes m r args)
  rows_same (Characters m) r args = row_same _ _ (character_free p s (flat_closures g s.closures) g.scopes m r args) (character_free p s s.closures s.scopes m r args)
  rows_same (Transcripts m) r args = row_same _ _ (transcript_free p s (flat_closures g s.closures) g.scopes m r args) (transcript_free p s s.closures s.scopes m r args)
  rows_same (Strings m) r args = row_same _ _ (string_free p s (flat_closures g s.closures) g.scopes m r args) (string_free p s s.closures s.scopes m r args)
  rows_same (Sequences m) r args = row_same _ _ (sequence_free p s (flat_closures g s.closures) g.scopes m r args) (sequence_free p s s.closures s.scopes m r args)
  rows_same (Collections m) r args = row_same _ _ (collection_free p s (flat_closures g s.closures) g.scopes m r args) (collection_free p s s.closures s.scopes m r args)
  rows_same (Blocks m) r args = block_same m r args
  rows_same (Exceptions m) r args = row_same _ _ (exception_free p s (flat_closures g s.closures) g.scopes m r args) (exception_free p s s.closures s.scopes m r args)
  rows_same (Loops m) r args = row_same _ _ (loop_free p s (flat_closures g s.closures) g.scopes m r args) (loop_free p s s.closures s.scopes m r args)
  rows_same (Slots slot) r args = (refl, tt)

  -- ---- sends

  abbrev found_by : Store → Option Found → ℕ → Value → List Value → Action
  found_by t (Some (UserMethod code)) selector r args = Enters code r args
  found_by t (Some (BuiltIn row)) selector r args = row_action p t row r args
  found_by t None selector r args = Misses selector r args

  module _ (ok : Compilable p) where
    found_same : (f : Option Found) (selector : ℕ) (r : Value) (args : List Value) → IsFound p ok f → Same (found_by (flat_store g s) f selector r args) (found_by s f selector r args)
    found_same (Some (UserMethod code)) selector r args h = (refl, h)
    found_same (Some (BuiltIn row)) selector r args h = rows_same row r args
    found_same None selector r args h = (refl, tt)

    pub send_same : (selector : ℕ) (r : Value) (args : List Value) → Same (send_action p (flat_store g s) selector r args) (send_action p s selector r args)
    unfolding send_action level_of lookup
    send_same selector r args = found_same (lookup p (level_of s r) selector) selector r args (found_held p ok (walk p (level_of s r)) selector)

    pub super_same : (class : Value) (selector : ℕ) (r : Value) (args : List Value) → Same (super_action p (flat_store g s) class selector r args) (super_action p s class selector r args)
    unfolding super_action super_lookup
    super_same class selector r args = found_same (super_lookup p class selector) selector r args (found_held p ok (drop 1 (walk p (class_level class))) selector)
