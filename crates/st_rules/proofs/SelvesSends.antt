-- A method that a lookup finds is written in a class of its receiver.
use Rattle.std.proofs.Common.{◌≡◌, ℕ, zero, suc, inl, inr, List, [], ◌∷◌, length, drop, nat_eq, ◌&&◌, eqb-true, slice_get, Option, Some, None, Bool, true, false, refl, sym, ap, ◌∙◌, arith, if◌then◌else◌, true≢false}
use Rattle.std.specs.Option.{option_and_then, option_map}
use Rattle.object_heap.specs.declared.value.Value.{Value}
use Rattle.object_heap.specs.declared.value.Value.TheVariants.{Nil, True, False, Integer, Character, Symbol, Class, Meta, Transcript, Object}
use Rattle.object_heap.specs.declared.value.Closure.{Closure}
use Rattle.object_heap.specs.declared.trouble.Trouble.TheVariants.{WrongNumberOfArguments, CollectionExpected}
use Rattle.object_heap.specs.Store.{Store, Object as HeapObject, closure_at, object_at}
use Rattle.st_code.specs.Program.{Program, MethodRow, Side, OfInstance, OfClass, OfMeta, same_side, body_at, name_at}
use Rattle.st_code.specs.BuiltIns.{array_class, row_at}
use Rattle.st_code.specs.Messages.{Row, Objects, Classes, Booleans, Numbers, Characters, Transcripts, Strings, Sequences, Collections, Blocks, Exceptions, Loops, Slots, BlockMessage, ObjectMessage}
use Rattle.st_code.specs.Lookup.{Level, level, level_of, walk, class_level, Found, UserMethod, BuiltIn, is_method, method_at, found_at, found_in, lookup, super_lookup}
use Rattle.st_collections.specs.Actions.{Action, Gives, Changes, Makes, Writes, Fails, DividesByZero, PassesIntegers, Begins, Activates, Sends, Misses, Enters, Guards, Ensures, Curtails, Iterates, Raises, RaisesNew, Controls, Terminates, first}
use Rattle.st_collections.specs.Kinds.{is_a, slots_of}
use Rattle.st_collections.specs.ObjectRows.{copied, object_action}
use Rattle.st_rules.specs.Sends.{row_action, send_action, super_action}
use Rattle.st_rules.specs.ExceptionRows.{closure_of, value_with, block_at, block_action}
use Rattle.st_rules.specs.Rules.{closure_for}
use Rattle.st_rules.specs.Selves.{OnWalk, IsOf, MethodsSit, KnowsClasses}
use Rattle.st_rules.proofs.SameRows.{relabeled, object_free, class_free, boolean_free, number_free, character_free, transcript_free, string_free, sequence_free, collection_free, exception_free, loop_free}

-- ---- lookups

module _ (p : Program) where
  -- a method that is found is written at this level, or at one of these
  abbrev FoundAt : Level → Option Found → Type 0
  FoundAt l (Some (UserMethod code)) = l ≡ class_level (body_at p code).class
  FoundAt l o = Unit {0}

  abbrev FoundOn : List Level → Option Found → Type 0
  FoundOn levels (Some (UserMethod code)) = OnWalk levels (class_level (body_at p code).class)
  FoundOn levels o = Unit {0}

  side_is : (a b : Side) → same_side a b ≡ true → a ≡ b
  side_is OfInstance OfInstance e = refl
  side_is OfClass OfClass e = refl
  side_is OfMeta OfMeta e = refl
  side_is OfInstance OfClass e = let none : ⊥ = true≢false (sym e) in absurd none
  side_is OfInstance OfMeta e = let none : ⊥ = true≢false (sym e) in absurd none
  side_is OfClass OfInstance e = let none : ⊥ = true≢false (sym e) in absurd none
  side_is OfClass OfMeta e = let none : ⊥ = true≢false (sym e) in absurd none
  side_is OfMeta OfInstance e = let none : ⊥ = true≢false (sym e) in absurd none
  side_is OfMeta OfClass e = let none : ⊥ = true≢false (sym e) in absurd none

  all_three : (a b c : Bool) → (a && b && c) ≡ true → (b ≡ true) × (c ≡ true)
  all_three true true true e = (refl, refl)
  all_three true true false e = let none : ⊥ = true≢false (sym e) in absurd none
  all_three true false c e = let none : ⊥ = true≢false (sym e) in absurd none
  all_three false b c e = let none : ⊥ = true≢false (sym e) in absurd none

  level_is : (l : Level) (selector : ℕ) (m : MethodRow) → is_method l selector m ≡ true → level m.side m.class ≡ l
  level_is l selector m e =
      let h = all_three (nat_eq m.selector selector) (nat_eq m.class l.class) (same_side m.side l.side) e in
      ap (λ c. level m.side c) (eqb-true m.class l.class h.0) ∙ ap (λ s. level s l.class) (side_is m.side l.side h.1)

  abbrev MethodAt : Level → Option ℕ → Type 0
  MethodAt l None = Unit {0}
  MethodAt l (Some code) = l ≡ class_level (body_at p code).class

  methods_at : (methods : List MethodRow) (l : Level) (selector : ℕ) → MethodsSit p methods → MethodAt l (method_at methods l selector)
  unfolding method_at
  methods_at [] l selector h = tt
  methods_at (m ∷ methods) l selector h = go (is_method l selector m) refl (methods_at methods l selector h.1)
    where
      go : (b : Bool) → is_method l selector m ≡ b → MethodAt l (method_at methods l selector) → MethodAt l (elim b [ true ↦ Some m.code | false ↦ method_at methods l selector ])
      go true e on = sym (level_is l selector m e) ∙ sym h.0
      go false e on = on

  row_found : (l : Level) (o : Option Row) → FoundAt l (option_map BuiltIn o)
  row_found l None = tt
  row_found l (Some row) = tt

  found_level : (l : Level) (selector : ℕ) → MethodsSit p p.methods → FoundAt l (found_at p l selector)
  unfolding found_at
  found_level l selector h = go (method_at p.methods l selector) (methods_at p.methods l selector h)
    where
      go : (o : Option ℕ) → MethodAt l o → FoundAt l (elim o [ Some code ↦ Some (UserMethod code) | None ↦ option_map BuiltIn (row_at l.class l.side (name_at p selector)) ])
      go None m = row_found l (row_at l.class l.side (name_at p selector))
      go (Some code) m = m

  found_levels : (levels : List Level) (selector : ℕ) → MethodsSit p p.methods → FoundOn levels (found_in p levels selector)
  unfolding found_in
  found_levels [] selector h = tt
  found_levels (l ∷ levels) selector h = go (found_at p l selector) (found_level l selector h) (found_levels levels selector h)
    where
      further : (o : Option Found) → FoundOn levels o → FoundOn (l ∷ levels) o
      further None f = tt
      further (Some (UserMethod code)) f = inr f
      further (Some (BuiltIn row)) f = tt

      go : (o : Option Found) → FoundAt l o → FoundOn levels (found_in p levels selector) → FoundOn (l ∷ levels) (elim o [ Some found ↦ Some found | None ↦ found_in p levels selector ])
      go None a f = further (found_in p levels selector) f
      go (Some (UserMethod code)) a f = inl a
      go (Some (BuiltIn row)) a f = tt

-- ---- closures and sends

abbrev pub ClosureFits : Program → Store → Closure → Type 0
ClosureFits p s c = IsOf p s c.receiver c.class

abbrev pub ClosuresFit : Program → Store → List Closure → Type 0
ClosuresFit p s [] = Unit {0}
ClosuresFit p s (c ∷ cs) = ClosureFits p s c × ClosuresFit p s cs

abbrev pub ClosureOrNone : Program → Store → Option Closure → Type 0
ClosureOrNone p s None = Unit {0}
ClosureOrNone p s (Some c) = ClosureFits p s c

-- what an action activates or enters is of its receiver's class
abbrev pub ActionFits : Program → Store → Action → Type 0
ActionFits p s (Activates c args) = ClosureFits p s c
ActionFits p s (Enters code r args) = IsOf p s r (body_at p code).class
ActionFits p s a = Unit {0}

module _ (p : Program) (known : KnowsClasses p) (s : Store) (cs : ClosuresFit p s s.closures) where
  closure_at_fits : (ds : List Closure) (n : ℕ) → ClosuresFit p s ds → ClosureOrNone p s (slice_get ds n)
  closure_at_fits [] n g = tt
  closure_at_fits (c ∷ ds) zero g = g.0
  closure_at_fits (c ∷ ds) (suc n) g = closure_at_fits ds n g.1

  closure_after : (o : Option ℕ) → ClosureOrNone p s (option_and_then (λ n. slice_get s.closures n) o)
  closure_after None = tt
  closure_after (Some n) = closure_at_fits s.closures n cs

  closure_of_fits : (v : Value) → ClosureOrNone p s (closure_of s v)
  unfolding closure_of
  closure_of_fits (Object n) = closure_after (object_at n s).closure
  closure_of_fits Nil = tt
  closure_of_fits True = tt
  closure_of_fits False = tt
  closure_of_fits (Integer n) = tt
  closure_of_fits (Character c) = tt
  closure_of_fits (Symbol n) = tt
  closure_of_fits (Class c) = tt
  closure_of_fits (Meta c) = tt
  closure_of_fits Transcript = tt

  abbrev that_takes : Option Closure → ℕ → Option Closure
  that_takes None count = None
  that_takes (Some c) count = elim (nat_eq (body_at p c.code).parameters count) [ true ↦ Some c | false ↦ None ]

  taking_fits : (o : Option Closure) (count : ℕ) → ClosureOrNone p s o → ClosureOrNone p s (that_takes o count)
  taking_fits None count g = tt
  taking_fits (Some c) count g = go (nat_eq (body_at p c.code).parameters count)
    where
      go : (b : Bool) → ClosureOrNone p s (elim b [ true ↦ Some c | false ↦ None ])
      go true = g
      go false = tt

  pub closure_for_fits : (v : Value) (count : ℕ) → ClosureOrNone p s (closure_for p s v count)
  unfolding closure_for
  closure_for_fits v count = taking_fits (closure_of s v) count (closure_of_fits v)

  row_fits : (a : Action) → a ≡ relabeled s.closures s.scopes a → ActionFits p s a
  row_fits (Gives v) e = tt
  row_fits (Changes u v) e = tt
  row_fits (Makes n u v) e = tt
  row_fits (Writes text v) e = tt
  row_fits (Fails trouble) e = tt
  row_fits (DividesByZero v) e = tt
  row_fits PassesIntegers e = tt
  row_fits (Begins v args) e = tt
  row_fits (Activates c args) e = let none : ⊥ = grind (arith, e) in absurd none
  row_fits (Sends selector r args) e = tt
  row_fits (Misses selector r args) e = tt
  row_fits (Enters code r args) e = let none : ⊥ = grind (arith, e) in absurd none
  row_fits (Guards v w x) e = tt
  row_fits (Ensures v w) e = tt
  row_fits (Curtails v w) e = tt
  row_fits (Iterates l) e = tt
  row_fits (Raises u n) e = tt
  row_fits (RaisesNew c slots) e = tt
  row_fits (Controls c n v) e = tt
  row_fits (Terminates v) e = tt

  if_fits : (b : Bool) (x y : Action) → ActionFits p s x → ActionFits p s y → ActionFits p s (if b then x else y)
  if_fits true x y g i = g
  if_fits false x y g i = i

  value_fits : (c : Closure) (args : List Value) → ClosureFits p s c → ActionFits p s (value_with p c args)
  value_fits c args g = if_fits (nat_eq (body_at p c.code).parameters (length args)) (Activates c args) (Fails WrongNumberOfArguments) g tt

  block_fits : (m : BlockMessage) (r : Value) (c : Closure) (args : List Value) → ClosureFits p s c → ActionFits p s (block_at p s m r c args)
  block_fits BlockMessage.Value r c args g = value_fits c args g
  block_fits BlockMessage.ValueWithArguments r c args g = if_fits (is_a s array_class (first args)) (value_with p c (slots_of s (first args))) (Fails CollectionExpected) (value_fits c (slots_of s (first args)) g) tt
  block_fits BlockMessage.NumArgs r c args g = tt
  block_fits BlockMessage.OnDo r c args g = tt
  block_fits BlockMessage.Ensure r c args g = tt
  block_fits BlockMessage.IfCurtailed r c args g = tt

  blocks_by : (m : BlockMessage) (r : Value) (o : Option Closure) (args : List Value) → ClosureOrNone p s o → ActionFits p s (elim o [ Some c ↦ block_at p s m r c args | None ↦ Gives Nil ])
  blocks_by m r None args g = tt
  blocks_by m r (Some c) args g = block_fits m r c args g

  copied_fits : (o : HeapObject) (c : Option Closure) → ActionFits p s (copied s o c)
  copied_fits o None = tt
  copied_fits o (Some c) = tt

  copy_fits : (r : Value) (args : List Value) → ActionFits p s (object_action p s ObjectMessage.Copy r args)
  unfolding object_action
  copy_fits (Object n) args = copied_fits (object_at n s) (closure_at n s)
  copy_fits r args = tt

  rows_fit : (row : Row) (r : Value) (args : List Value) → ActionFits p s (row_action p s row r args)
  unfolding row_action block_action
  rows_fit (Objects ObjectMessage.Copy) r args = copy_fits r args
  rows_fit (Objects m) r args = row_fits _ (object_free p s s.closures s.scopes m r args tt)
  rows_fit (Classes m) r args = row_fits _ (class_free p s s.closures s.scopes m r args)
  rows_fit (Booleans m) r args = row_fits _ (boolean_free p s s.closures s.scopes m r args)
  rows_fit (Numbers m) r args = row_fits _ (number_free p s s.closures s.scopes m r args)
  rows_fit (Characters m) r args = row_fits _ (character_free p s s.closures s.scopes m r args)
  rows_fit (Transcripts m) r args = row_fits _ (transcript_free p s s.closures s.scopes m r args)
  rows_fit (Strings m) r args = row_fits _ (string_free p s s.closures s.scopes m r args)
  rows_fit (Sequences m) r args = row_fits _ (sequence_free p s s.closures s.scopes m r args)
  rows_fit (Collections m) r args = row_fits _ (collection_free p s s.closures s.scopes m r args)
  rows_fit (Blocks m) r args = blocks_by m r (closure_of s r) args (closure_of_fits r)
  rows_fit (Exceptions m) r args = row_fits _ (exception_free p s s.closures s.scopes m r args)
  rows_fit (Loops m) r args = row_fits _ (loop_free p s s.closures s.scopes m r args)
  rows_fit (Slots slot) r args = tt

  abbrev found_by : Option Found → ℕ → Value → List Value → Action
  found_by (Some (UserMethod code)) selector r args = Enters code r args
  found_by (Some (BuiltIn row)) selector r args = row_action p s row r args
  found_by None selector r args = Misses selector r args

  found_fits : (o : Option Found) (selector : ℕ) (r : Value) (args : List Value) → FoundOn p (walk p (level_of s r)) o → ActionFits p s (found_by o selector r args)
  found_fits (Some (UserMethod code)) selector r args g = g
  found_fits (Some (BuiltIn row)) selector r args g = rows_fit row r args
  found_fits None selector r args g = tt

  pub send_fits : (selector : ℕ) (r : Value) (args : List Value) → ActionFits p s (send_action p s selector r args)
  unfolding send_action lookup
  send_fits selector r args = found_fits (found_in p (walk p (level_of s r)) selector) selector r args (found_levels p (walk p (level_of s r)) selector known.methods)

  -- what is found behind the level of a class of the receiver
  behind_fits : (from l : Level) (o : Option Found) → OnWalk (walk p from) l → FoundOn p (drop 1 (walk p l)) o → FoundOn p (walk p from) o
  behind_fits from l None w f = tt
  behind_fits from l (Some (UserMethod code)) w f = known.behind from l (class_level (body_at p code).class) w f
  behind_fits from l (Some (BuiltIn row)) w f = tt

  pub super_fits : (class : Value) (selector : ℕ) (r : Value) (args : List Value) → IsOf p s r class → ActionFits p s (super_action p s class selector r args)
  unfolding super_action super_lookup
  super_fits class selector r args g =
      let o = found_in p (drop 1 (walk p (class_level class))) selector in
      found_fits o selector r args (behind_fits (level_of s r) (class_level class) o g (found_levels p (drop 1 (walk p (class_level class))) selector known.methods))
