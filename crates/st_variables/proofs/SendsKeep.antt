-- A message that shortens an object is found by no object of a class of the file: what a send does at once leaves each object its slots.
use Rattle.std.proofs.Common.{◌≡◌, ℕ, zero, suc, ◌⊎◌, inl, inr, List, [], ◌∷◌, ◌++◌, map, drop, length, nat_eq, ◌&&◌, eqb-true, Option, Some, None, Bool, true, false, refl, sym, ap, ◌∙◌, subst, arith, if◌then◌else◌, true≢false, slice_get}
use Rattle.std.specs.Option.{option_and_then, option_map}
use Rattle.object_heap.specs.declared.value.Value.{Value}
use Rattle.object_heap.specs.declared.value.Value.TheVariants.{Nil, True, False, Integer, Character, Symbol, Class, Meta, Transcript, Object}
use Rattle.object_heap.specs.declared.value.Closure.{Closure}
use Rattle.object_heap.specs.declared.trouble.Trouble.TheVariants.{WrongNumberOfArguments, CollectionExpected}
use Rattle.object_heap.specs.Store.{Store, object_at}
use Rattle.st_code.specs.Texts.{Text, same_text}
use Rattle.st_code.specs.Program.{Program, Side, OfInstance, OfClass, same_side, body_at, class_at, name_at}
use Rattle.st_code.specs.BuiltIns.{Section, row_in, is_section, or_else, row_in_sections, built_in_messages, row_at, object_class, class_class, array_class}
use Rattle.st_code.specs.BuiltInRows.{RowAt}
use Rattle.st_code.specs.Messages.{Row, Objects, Classes, Booleans, Numbers, Characters, Transcripts, Strings, Sequences, Collections, Blocks, Exceptions, Loops, Slots, BlockMessage, LoopMessage}
use Rattle.st_code.specs.Lookup.{Level, level, level_of, superclasses, walk, class_level, Found, UserMethod, BuiltIn, method_at, found_at, found_in, lookup, super_lookup}
use Rattle.st_collections.specs.Actions.{Action, Gives, Fails, Activates, Misses, Enters, first}
use Rattle.st_collections.specs.Kinds.{is_a, slots_of}
use Rattle.st_rules.specs.Sends.{row_action, send_action, super_action}
use Rattle.st_rules.specs.ExceptionRows.{closure_of, value_with, block_at, block_action}
use Rattle.st_rules.specs.Rules.{closure_for}
use Rattle.st_rules.specs.Selves.{OnWalk, IsOf, KnowsClasses}
use Rattle.st_variables.specs.Known.{Among, InFile, AllFull, is_open, KnowsVariables}
use Rattle.st_variables.proofs.Wholes.{ClosureIs, ClosuresAre, NoObject, NoClass, MessageKeeps, ActionKeeps}
use Rattle.st_variables.proofs.RowsKeep.{Keeps, if_keeps, objects_keep, classes_keep, booleans_keep, characters_keep, transcripts_keep, strings_keep, sequences_keep, collections_keep, exceptions_keep, loops_keep}
use Rattle.st_variables.proofs.NumbersKeep.{numbers_keep}

-- ---- messages that shorten no object

abbrev is_calm_loop : LoopMessage → Bool
is_calm_loop LoopMessage.Remove = false
is_calm_loop LoopMessage.RemoveIfAbsent = false
is_calm_loop LoopMessage.RemoveKey = false
is_calm_loop LoopMessage.RemoveKeyIfAbsent = false
is_calm_loop m = true

abbrev is_calm : Row → Bool
is_calm (Sequences m) = false
is_calm (Collections m) = false
is_calm (Loops m) = is_calm_loop m
is_calm row = true

-- the rows of Object and of the classes from Class on are among them
abbrev all_calm : List RowAt → Bool
all_calm [] = true
all_calm (r ∷ rows) = is_calm r.row && all_calm rows

abbrev open_calm : List Section → Bool
open_calm [] = true
open_calm (s ∷ sections) = (if is_open s.class then all_calm s.rows else true) && open_calm sections

table_calm : open_calm built_in_messages ≡ true
unfolding built_in_messages
table_calm = refl

both_true : (a b : Bool) → (a && b) ≡ true → (a ≡ true) × (b ≡ true)
both_true true b e = (refl, e)
both_true false b e = let none : ⊥ = true≢false (sym e) in absurd none

abbrev Calm : Option Row → Type 0
Calm None = Unit {0}
Calm (Some row) = is_calm row ≡ true

rows_calm : (rows : List RowAt) (t : Text) → all_calm rows ≡ true → Calm (row_in rows t)
unfolding row_in
rows_calm [] t e = tt
rows_calm (r ∷ rows) t e = let h = both_true (is_calm r.row) (all_calm rows) e in go (same_text r.selector t) h.0 (rows_calm rows t h.1)
  where
    go : (b : Bool) → is_calm r.row ≡ true → Calm (row_in rows t) → Calm (elim b [ true ↦ Some r.row | false ↦ row_in rows t ])
    go true c on = c
    go false c on = on

either_calm : (a b : Option Row) → Calm a → Calm b → Calm (or_else a b)
either_calm None b g i = i
either_calm (Some row) b g i = g

sections_calm : (ss : List Section) (class : ℕ) (side : Side) (t : Text) → is_open class ≡ true → open_calm ss ≡ true → Calm (row_in_sections ss class side t)
unfolding row_in_sections
sections_calm [] class side t o e = tt
sections_calm (s ∷ ss) class side t o e =
    let h = both_true (if is_open s.class then all_calm s.rows else true) (open_calm ss) e in
    go (is_section class side s) refl (sections_calm ss class side t o h.1) h.0
  where
    class_is : is_section class side s ≡ true → s.class ≡ class
    class_is e = eqb-true s.class class (both_true (nat_eq s.class class) (same_side s.side side) e).0

    go : (b : Bool) → is_section class side s ≡ b → Calm (row_in_sections ss class side t) → (if is_open s.class then all_calm s.rows else true) ≡ true → Calm (elim b [ true ↦ or_else (row_in s.rows t) (row_in_sections ss class side t) | false ↦ row_in_sections ss class side t ])
    go true e on c =
        let same : is_open s.class ≡ true = ap is_open (class_is e) ∙ o in
        either_calm (row_in s.rows t) (row_in_sections ss class side t) (rows_calm s.rows t (sym (ap (λ b. if b then all_calm s.rows else true) same) ∙ c)) on
    go false e on c = on

calm_at : (class : ℕ) (side : Side) (t : Text) → is_open class ≡ true → Calm (row_at class side t)
unfolding row_at
calm_at class side t o = sections_calm built_in_messages class side t o table_calm

-- ---- lookups

abbrev FoundCalm : Option Found → Type 0
FoundCalm (Some (BuiltIn row)) = is_calm row ≡ true
FoundCalm o = Unit {0}

module _ (p : Program) where
  row_found : (o : Option Row) → Calm o → FoundCalm (option_map BuiltIn o)
  row_found None c = tt
  row_found (Some row) c = c

  level_calm : (l : Level) (selector : ℕ) → is_open l.class ≡ true → FoundCalm (found_at p l selector)
  unfolding found_at
  level_calm l selector o = go (method_at p.methods l selector)
    where
      go : (m : Option ℕ) → FoundCalm (elim m [ Some code ↦ Some (UserMethod code) | None ↦ option_map BuiltIn (row_at l.class l.side (name_at p selector)) ])
      go None = row_found (row_at l.class l.side (name_at p selector)) (calm_at l.class l.side (name_at p selector) o)
      go (Some code) = tt

  abbrev AllOpen : List Level → Type 0
  AllOpen levels = (l : Level) → OnWalk levels l → is_open l.class ≡ true

  levels_calm : (levels : List Level) (selector : ℕ) → AllOpen levels → FoundCalm (found_in p levels selector)
  unfolding found_in
  levels_calm [] selector o = tt
  levels_calm (l ∷ levels) selector o = go (found_at p l selector) (level_calm l selector (o l (inl refl))) (levels_calm levels selector (λ m w. o m (inr w)))
    where
      go : (f : Option Found) → FoundCalm f → FoundCalm (found_in p levels selector) → FoundCalm (elim f [ Some found ↦ Some found | None ↦ found_in p levels selector ])
      go None a on = on
      go (Some found) a on = a

  -- ---- the walk from an object of a class of the file, and from such a class

  pub in_map : (s : Side) (xs : List ℕ) (l : Level) → OnWalk (map (level s) xs) l → (d : ℕ) × (level s d ≡ l) × Among xs d
  in_map s [] l h = absurd h
  in_map s (x ∷ xs) l (inl e) = (x, e, inl refl)
  in_map s (x ∷ xs) l (inr y) = let h = in_map s xs l y in (h.0, h.1, inr h.2)

  pub on_either : (xs ys : List Level) (l : Level) → OnWalk (xs ++ ys) l → OnWalk xs l ⊎ OnWalk ys l
  on_either [] ys l h = inr h
  on_either (x ∷ xs) ys l (inl e) = inl (inl e)
  on_either (x ∷ xs) ys l (inr y) = elim (on_either xs ys l y) [ inl a ↦ inl (inr a) | inr b ↦ inr b ]

  module _ (known : KnowsVariables p) where
    mapped_open : (s : Side) (k : ℕ) → InFile p k → AllOpen (map (level s) (superclasses p k))
    mapped_open s k f l w = let h = in_map s (superclasses p k) l w in ap (λ (m : Level). is_open m.class) (sym h.1) ∙ known.over k h.0 f h.2

    tail_open : AllOpen (level OfInstance class_class ∷ level OfInstance object_class ∷ [])
    tail_open l (inl e) = ap (λ (m : Level). is_open m.class) (sym e)
    tail_open l (inr (inl e)) = ap (λ (m : Level). is_open m.class) (sym e)
    tail_open l (inr (inr none)) = absurd none

    instance_open : (k : ℕ) → InFile p k → AllOpen (walk p (level OfInstance k))
    unfolding walk
    instance_open k f = mapped_open OfInstance k f

    class_open : (k : ℕ) → InFile p k → AllOpen (walk p (level OfClass k))
    unfolding walk
    class_open k f l w = elim (on_either (map (level OfClass) (superclasses p k)) (level OfInstance class_class ∷ level OfInstance object_class ∷ []) l w) [
      | inl a ↦ mapped_open OfClass k f l a
      | inr b ↦ tail_open l b
    ]

    -- a receiver is of the file, and all that is visited is open, or it is not
    abbrev Sorted : Store → Value → Type 0
    Sorted s r = AllOpen (walk p (level_of s r)) ⊎ (NoObject p s r × NoClass p r)

    in_file_or : (b : Bool) → (b ≡ true) ⊎ (b ≡ true → ⊥)
    in_file_or true = inl refl
    in_file_or false = inr (λ e. true≢false (sym e))

    object_is : (n m : ℕ) → ◌≡◌ {A = Value} (Object n) (Object m) → n ≡ m
    object_is n m e = cc

    class_is : (n m : ℕ) → ◌≡◌ {A = Value} (Class n) (Class m) → n ≡ m
    class_is n m e = cc

    no_class_object : (n m : ℕ) → ◌≡◌ {A = Value} (Object n) (Class m) → ⊥
    no_class_object n m e = grind (arith, e)

    no_object_class : (n m : ℕ) → ◌≡◌ {A = Value} (Class n) (Object m) → ⊥
    no_object_class n m e = grind (arith, e)

    sorted : (s : Store) (r : Value) → Sorted s r
    unfolding level_of
    sorted s (Object n) = elim (in_file_or (class_at p (object_at n s).class).in_file) [
      | inl f ↦ inl (instance_open (object_at n s).class f)
      | inr none ↦ inr ((λ m e f. none (subst (λ i. InFile p (object_at i s).class) (sym (object_is n m e)) f)), (λ c e. absurd (no_class_object n c e)))
    ]
    sorted s (Class c) = elim (in_file_or (class_at p c).in_file) [
      | inl f ↦ inl (class_open c f)
      | inr none ↦ inr ((λ n e. absurd (no_object_class c n e)), (λ d e f. none (subst (λ i. InFile p i) (sym (class_is c d e)) f)))
    ]
    sorted s Nil = inr ((λ n e. let none : ⊥ = grind (arith, e) in absurd none), (λ c e. let none : ⊥ = grind (arith, e) in absurd none))
    sorted s True = inr ((λ n e. let none : ⊥ = grind (arith, e) in absurd none), (λ c e. let none : ⊥ = grind (arith, e) in absurd none))
    sorted s False = inr ((λ n e. let none : ⊥ = grind (arith, e) in absurd none), (λ c e. let none : ⊥ = grind (arith, e) in absurd none))
    sorted s (Integer i) = inr ((λ n e. let none : ⊥ = grind (arith, e) in absurd none), (λ c e. let none : ⊥ = grind (arith, e) in absurd none))
    sorted s (Character b) = inr ((λ n e. let none : ⊥ = grind (arith, e) in absurd none), (λ c e. let none : ⊥ = grind (arith, e) in absurd none))
    sorted s (Symbol i) = inr ((λ n e. let none : ⊥ = grind (arith, e) in absurd none), (λ c e. let none : ⊥ = grind (arith, e) in absurd none))
    sorted s (Meta i) = inr ((λ n e. let none : ⊥ = grind (arith, e) in absurd none), (λ c e. let none : ⊥ = grind (arith, e) in absurd none))
    sorted s Transcript = inr ((λ n e. let none : ⊥ = grind (arith, e) in absurd none), (λ c e. let none : ⊥ = grind (arith, e) in absurd none))

-- ---- rows and sends

-- a closure, if there is one
abbrev pub ClosureOr : Program → Option Closure → Type 0
ClosureOr p None = Unit {0}
ClosureOr p (Some c) = ClosureIs p c

module _ (p : Program) (known : KnowsVariables p) (s : Store) (h : AllFull p s.objects) (cs : ClosuresAre p s.closures) where
  closure_at_is : (ds : List Closure) (n : ℕ) → ClosuresAre p ds → ClosureOr p (slice_get ds n)
  closure_at_is [] n g = tt
  closure_at_is (c ∷ ds) zero g = g.0
  closure_at_is (c ∷ ds) (suc n) g = closure_at_is ds n g.1

  closure_after : (o : Option ℕ) → ClosureOr p (option_and_then (λ n. slice_get s.closures n) o)
  closure_after None = tt
  closure_after (Some n) = closure_at_is s.closures n cs

  closure_of_is : (v : Value) → ClosureOr p (closure_of s v)
  unfolding closure_of
  closure_of_is (Object n) = closure_after (object_at n s).closure
  closure_of_is v = tt

  abbrev that_takes : Option Closure → ℕ → Option Closure
  that_takes None count = None
  that_takes (Some c) count = elim (nat_eq (body_at p c.code).parameters count) [ true ↦ Some c | false ↦ None ]

  taking_is : (o : Option Closure) (count : ℕ) → ClosureOr p o → ClosureOr p (that_takes o count)
  taking_is None count g = tt
  taking_is (Some c) count g = go (nat_eq (body_at p c.code).parameters count)
    where
      go : (b : Bool) → ClosureOr p (elim b [ true ↦ Some c | false ↦ None ])
      go true = g
      go false = tt

  pub closure_for_is : (v : Value) (count : ℕ) → ClosureOr p (closure_for p s v count)
  unfolding closure_for
  closure_for_is v count = taking_is (closure_of s v) count (closure_of_is v)

  abbrev G : Action → Type 0
  G a = Keeps p known s h a

  value_keeps : (c : Closure) (args : List Value) → ClosureIs p c → G (value_with p c args)
  value_keeps c args g = if_keeps p known s h (nat_eq (body_at p c.code).parameters (length args)) (Activates c args) (Fails WrongNumberOfArguments) record { keeps = g } record { keeps = tt }

  block_keeps : (m : BlockMessage) (r : Value) (c : Closure) (args : List Value) → ClosureIs p c → G (block_at p s m r c args)
  block_keeps BlockMessage.Value r c args g = value_keeps c args g
  block_keeps BlockMessage.ValueWithArguments r c args g = if_keeps p known s h (is_a s array_class (first args)) (value_with p c (slots_of s (first args))) (Fails CollectionExpected) (value_keeps c (slots_of s (first args)) g) record { keeps = tt }
  block_keeps m r c args g = record { keeps = tt }

  blocks_by : (m : BlockMessage) (r : Value) (o : Option Closure) (args : List Value) → ClosureOr p o → G (elim o [ Some c ↦ block_at p s m r c args | None ↦ Gives Nil ])
  blocks_by m r None args g = record { keeps = tt }
  blocks_by m r (Some c) args g = block_keeps m r c args g

  -- a message that may shorten its receiver is sent to what is not of the file
  abbrev RowFits : Row → Value → Type 0
  RowFits row r = (is_calm row ≡ true) ⊎ (NoObject p s r × NoClass p r)

  loop_fits : (m : LoopMessage) (r : Value) → RowFits (Loops m) r → MessageKeeps p s m r
  loop_fits LoopMessage.Remove r (inl e) = let none : ⊥ = true≢false (sym e) in absurd none
  loop_fits LoopMessage.RemoveIfAbsent r (inl e) = let none : ⊥ = true≢false (sym e) in absurd none
  loop_fits LoopMessage.RemoveKey r (inl e) = let none : ⊥ = true≢false (sym e) in absurd none
  loop_fits LoopMessage.RemoveKeyIfAbsent r (inl e) = let none : ⊥ = true≢false (sym e) in absurd none
  loop_fits LoopMessage.Remove r (inr o) = o.0
  loop_fits LoopMessage.RemoveIfAbsent r (inr o) = o.0
  loop_fits LoopMessage.RemoveKey r (inr o) = o.0
  loop_fits LoopMessage.RemoveKeyIfAbsent r (inr o) = o.0
  loop_fits m r f = tt

  not_calm : (r : Value) → (false ≡ true) ⊎ (NoObject p s r × NoClass p r) → NoObject p s r × NoClass p r
  not_calm r (inl e) = let none : ⊥ = true≢false (sym e) in absurd none
  not_calm r (inr o) = o

  rows_keep : (row : Row) (r : Value) (args : List Value) → RowFits row r → G (row_action p s row r args)
  unfolding row_action block_action
  rows_keep (Objects m) r args f = objects_keep p known s h m r args
  rows_keep (Classes m) r args f = classes_keep p known s h m r args
  rows_keep (Booleans m) r args f = booleans_keep p known s h m r args
  rows_keep (Numbers m) r args f = numbers_keep p known s h m r args
  rows_keep (Characters m) r args f = characters_keep p known s h m r args
  rows_keep (Transcripts m) r args f = transcripts_keep p known s h m r args
  rows_keep (Strings m) r args f = strings_keep p known s h m r args
  rows_keep (Sequences m) r args f = sequences_keep p known s h m r args (not_calm r f).0
  rows_keep (Collections m) r args f = let o = not_calm r f in collections_keep p known s h m r args o.0 o.1
  rows_keep (Blocks m) r args f = blocks_by m r (closure_of s r) args (closure_of_is r)
  rows_keep (Exceptions m) r args f = exceptions_keep p known s h m r args
  rows_keep (Loops m) r args f = loops_keep p known s h m r args (loop_fits m r f)
  rows_keep (Slots slot) r args f = record { keeps = tt }

  abbrev found_by : Option Found → ℕ → Value → List Value → Action
  found_by (Some (UserMethod code)) selector r args = Enters code r args
  found_by (Some (BuiltIn row)) selector r args = row_action p s row r args
  found_by None selector r args = Misses selector r args

  found_keeps : (o : Option Found) (selector : ℕ) (r : Value) (args : List Value) → FoundCalm o ⊎ (NoObject p s r × NoClass p r) → ActionKeeps p s (found_by o selector r args)
  found_keeps (Some (UserMethod code)) selector r args f = tt
  found_keeps (Some (BuiltIn row)) selector r args f = (rows_keep row r args f).keeps
  found_keeps None selector r args f = tt

  pub send_keeps : (selector : ℕ) (r : Value) (args : List Value) → ActionKeeps p s (send_action p s selector r args)
  unfolding send_action lookup
  send_keeps selector r args = go (sorted p known s r)
    where
      go : Sorted p known s r → ActionKeeps p s (found_by (found_in p (walk p (level_of s r)) selector) selector r args)
      go (inl o) = found_keeps (found_in p (walk p (level_of s r)) selector) selector r args (inl (levels_calm p (walk p (level_of s r)) selector o))
      go (inr o) = found_keeps (found_in p (walk p (level_of s r)) selector) selector r args (inr o)

  pub super_keeps : KnowsClasses p → (class : Value) (selector : ℕ) (r : Value) (args : List Value) → IsOf p s r class → ActionKeeps p s (super_action p s class selector r args)
  unfolding super_action super_lookup
  super_keeps classes class selector r args w = go (sorted p known s r)
    where
      levels : List Level
      levels = drop 1 (walk p (class_level class))

      go : Sorted p known s r → ActionKeeps p s (found_by (found_in p (drop 1 (walk p (class_level class))) selector) selector r args)
      go (inl o) = found_keeps (found_in p (drop 1 (walk p (class_level class))) selector) selector r args (inl (levels_calm p (drop 1 (walk p (class_level class))) selector (λ m i. o m (classes.behind (level_of s r) (class_level class) m w i))))
      go (inr o) = found_keeps (found_in p (drop 1 (walk p (class_level class))) selector) selector r args (inr o)
