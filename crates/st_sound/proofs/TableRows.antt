-- What a lookup finds is for its receiver's class, by the table of built-in messages and by where its levels stand.
use Rattle.std.proofs.Common.{◌≡◌, ℕ, ◌⊎◌, inl, inr, nat_eq, nat_le, not, ◌&&◌, ◌||◌, map, drop, List, [], ◌∷◌, ◌++◌, Option, Some, None, Bool, true, false, eqb-true, true≢false, refl, sym, ap, ◌∙◌, subst, arith}
use Rattle.std.specs.Option.{option_map}
use Rattle.object_heap.specs.declared.value.Value.{Value}
use Rattle.object_heap.specs.Store.{Store}
use Rattle.st_code.specs.Texts.{Text, same_text}
use Rattle.st_code.specs.BuiltIns.{object_class, string_class, symbol_class, array_class, byte_array_class, ordered_collection_class, set_class, dictionary_class, interval_class, class_class, metaclass_class, exception_class, Section, built_in_messages, row_in, is_section, or_else, row_in_sections, row_at}
use Rattle.st_code.specs.BuiltInRows.{RowAt}
use Rattle.st_code.specs.Lookup.{Level, level, level_of, superclasses, holds, walk, Found, UserMethod, BuiltIn, method_at, found_at, found_in, lookup, class_level, super_lookup}
use Rattle.st_code.specs.Messages.{Row, Objects, Classes, Booleans, Numbers, Characters, Transcripts, Strings, Sequences, Collections, Blocks, Exceptions, Loops, Slots, SequenceMessage, CollectionMessage, LoopMessage}
use Rattle.st_code.specs.Program.{Program, Side, OfInstance, OfClass, OfMeta, same_side, name_at}
use Rattle.st_collections.specs.Ordered.{IsOrdered}
use Rattle.st_rules.specs.Selves.{OnWalk, IsOf, KnowsClasses}
use Rattle.st_sound.specs.KnownCollections.{KnowsCollections}
use Rattle.st_sound.specs.Receivers.{changes, is_listed, takes}
use Rattle.st_sound.specs.RowsFit.{RowReady, RowsFit, SuperRowsFit, SendsAreReady, SuperSendsAreReady}
use Rattle.st_sound.specs.SoundStore.{SoundStore, grows, is_free}
use Rattle.st_sound.proofs.Meets.{ordered_open, receivers_stand}

-- ---- where the table has a row

abbrev of_instance : Bool → Side → Bool
of_instance b side = b && same_side side OfInstance

abbrev is_sequence : ℕ → Bool
is_sequence c = nat_eq c string_class || nat_eq c symbol_class || nat_eq c array_class || nat_eq c byte_array_class || nat_eq c ordered_collection_class || nat_eq c interval_class

abbrev is_writable : ℕ → Bool
is_writable c = nat_eq c string_class || nat_eq c array_class || nat_eq c byte_array_class || nat_eq c ordered_collection_class

abbrev is_exception : ℕ → Bool
is_exception c = nat_le exception_class c

abbrev sequence_at : SequenceMessage → ℕ → Bool
sequence_at SequenceMessage.Join c = is_sequence c
sequence_at SequenceMessage.CopyFromTo c = is_sequence c
sequence_at SequenceMessage.Reverse c = is_sequence c
sequence_at SequenceMessage.AtPut c = is_writable c
sequence_at m c = true

abbrev collection_at : CollectionMessage → Side → ℕ → Bool
collection_at CollectionMessage.Add side c = of_instance (nat_eq c ordered_collection_class) side
collection_at CollectionMessage.AddFirst side c = of_instance (nat_eq c ordered_collection_class) side
collection_at CollectionMessage.AddAll side c = of_instance (nat_eq c ordered_collection_class) side
collection_at CollectionMessage.RemoveFirst side c = of_instance (nat_eq c ordered_collection_class) side
collection_at CollectionMessage.RemoveLast side c = of_instance (nat_eq c ordered_collection_class) side
collection_at CollectionMessage.AddBeforeIndex side c = of_instance (nat_eq c ordered_collection_class) side
collection_at CollectionMessage.RemoveAtIndex side c = of_instance (nat_eq c ordered_collection_class) side
collection_at m side c = true

abbrev loop_at : LoopMessage → Side → ℕ → Bool
loop_at LoopMessage.AddToSet side c = of_instance (nat_eq c set_class) side
loop_at LoopMessage.Remove side c = of_instance (is_listed c) side
loop_at LoopMessage.RemoveIfAbsent side c = of_instance (is_listed c) side
loop_at LoopMessage.AtPut side c = of_instance (nat_eq c dictionary_class) side
loop_at LoopMessage.AtIfAbsentPut side c = of_instance (nat_eq c dictionary_class) side
loop_at LoopMessage.RemoveKey side c = of_instance (nat_eq c dictionary_class) side
loop_at LoopMessage.RemoveKeyIfAbsent side c = of_instance (nat_eq c dictionary_class) side
loop_at m side c = true

abbrev stands_at : Row → Side → ℕ → Bool
stands_at (Sequences m) side c = sequence_at m c
stands_at (Collections m) side c = collection_at m side c
stands_at (Exceptions m) side c = is_exception c
stands_at (Loops m) side c = loop_at m side c
stands_at row side c = true

abbrev rows_stand : List RowAt → Side → ℕ → Bool
rows_stand [] side c = true
rows_stand (r ∷ rows) side c = stands_at r.row side c && rows_stand rows side c

abbrev sections_stand : List Section → Bool
sections_stand [] = true
sections_stand (s ∷ sections) = rows_stand s.rows s.side s.class && sections_stand sections

table_stands : sections_stand built_in_messages ≡ true
unfolding built_in_messages
table_stands = refl

both : (a b : Bool) → (a && b) ≡ true → (a ≡ true) × (b ≡ true)
both true true e = (refl, refl)
both true false e = absurd (true≢false (sym e))
both false b e = absurd (true≢false (sym e))

-- what a row is found to be
abbrev RowStands : Side → ℕ → Option Row → Type 0
RowStands side c None = Unit {0}
RowStands side c (Some row) = stands_at row side c ≡ true

row_in_stands : (rows : List RowAt) (side : Side) (c : ℕ) (selector : Text) → rows_stand rows side c ≡ true → RowStands side c (row_in rows selector)
unfolding row_in
row_in_stands [] side c selector h = tt
row_in_stands (r ∷ rows) side c selector h = let x = both (stands_at r.row side c) (rows_stand rows side c) h in go (same_text r.selector selector) x.0 (row_in_stands rows side c selector x.1)
  where
    go : (b : Bool) → stands_at r.row side c ≡ true → RowStands side c (row_in rows selector) → RowStands side c (elim b [ true ↦ Some r.row | false ↦ row_in rows selector ])
    go true e f = e
    go false e f = f

side_is : (a b : Side) → same_side a b ≡ true → a ≡ b
side_is OfInstance OfInstance e = refl
side_is OfClass OfClass e = refl
side_is OfMeta OfMeta e = refl
side_is OfInstance OfClass e = absurd (true≢false (sym e))
side_is OfInstance OfMeta e = absurd (true≢false (sym e))
side_is OfClass OfInstance e = absurd (true≢false (sym e))
side_is OfClass OfMeta e = absurd (true≢false (sym e))
side_is OfMeta OfInstance e = absurd (true≢false (sym e))
side_is OfMeta OfClass e = absurd (true≢false (sym e))

either_stands : (side : Side) (c : ℕ) (a b : Option Row) → RowStands side c a → RowStands side c b → RowStands side c (or_else a b)
either_stands side c None b f g = g
either_stands side c (Some row) b f g = f

in_sections : (sections : List Section) (c : ℕ) (side : Side) (selector : Text) → sections_stand sections ≡ true → RowStands side c (row_in_sections sections c side selector)
unfolding row_in_sections
in_sections [] c side selector h = tt
in_sections (s ∷ sections) c side selector h =
    let x = both (rows_stand s.rows s.side s.class) (sections_stand sections) h in
    go (is_section c side s) refl (row_in_stands s.rows s.side s.class selector x.0) (in_sections sections c side selector x.1)
  where
    go : (b : Bool) → is_section c side s ≡ b → RowStands s.side s.class (row_in s.rows selector) → RowStands side c (row_in_sections sections c side selector) → RowStands side c (elim b [ true ↦ or_else (row_in s.rows selector) (row_in_sections sections c side selector) | false ↦ row_in_sections sections c side selector ])
    go true e f g =
        let y = both (nat_eq s.class c) (same_side s.side side) e in
        let here : RowStands side s.class (row_in s.rows selector) = subst (λ x. RowStands x s.class (row_in s.rows selector)) (side_is s.side side y.1) f in
        either_stands side c (row_in s.rows selector) (row_in_sections sections c side selector) (subst (λ x. RowStands side x (row_in s.rows selector)) (eqb-true s.class c y.0) here) g
    go false e f g = g

row_at_stands : (c : ℕ) (side : Side) (selector : Text) → RowStands side c (row_at c side selector)
unfolding row_at
row_at_stands c side selector = in_sections built_in_messages c side selector table_stands

-- ---- what is found, and where

abbrev FoundHere : Level → Option Found → Type 0
FoundHere l (Some (BuiltIn row)) = stands_at row l.side l.class ≡ true
FoundHere l o = Unit {0}

abbrev FoundThere : List Level → Option Found → Type 0
FoundThere levels (Some (BuiltIn row)) = (m : Level) × OnWalk levels m × (stands_at row m.side m.class ≡ true)
FoundThere levels o = Unit {0}

module _ (p : Program) where
  row_found : (l : Level) (o : Option Row) → RowStands l.side l.class o → FoundHere l (option_map BuiltIn o)
  row_found l None f = tt
  row_found l (Some row) f = f

  found_here : (l : Level) (selector : ℕ) → FoundHere l (found_at p l selector)
  unfolding found_at
  found_here l selector = go (method_at p.methods l selector)
    where
      go : (o : Option ℕ) → FoundHere l (elim o [ Some code ↦ Some (UserMethod code) | None ↦ option_map BuiltIn (row_at l.class l.side (name_at p selector)) ])
      go None = row_found l (row_at l.class l.side (name_at p selector)) (row_at_stands l.class l.side (name_at p selector))
      go (Some code) = tt

  further : (l : Level) (levels : List Level) (o : Option Found) → FoundThere levels o → FoundThere (l ∷ levels) o
  further l levels None f = tt
  further l levels (Some (UserMethod code)) f = tt
  further l levels (Some (BuiltIn row)) f = (f.0, inr f.1, f.2)

  found_there : (levels : List Level) (selector : ℕ) → FoundThere levels (found_in p levels selector)
  unfolding found_in
  found_there [] selector = tt
  found_there (l ∷ levels) selector = go (found_at p l selector) (found_here l selector) (found_there levels selector)
    where
      go : (o : Option Found) → FoundHere l o → FoundThere levels (found_in p levels selector) → FoundThere (l ∷ levels) (elim o [ Some found ↦ Some found | None ↦ found_in p levels selector ])
      go None f g = further l levels (found_in p levels selector) g
      go (Some (UserMethod code)) f g = tt
      go (Some (BuiltIn row)) f g = (l, inl refl, f)

-- ---- levels of a walk

abbrev pub FailsAll : (ℕ → Bool) → List ℕ → Type 0
FailsAll test [] = Unit {0}
FailsAll test (x ∷ xs) = (test x ≡ false) × FailsAll test xs

fails_map : (test : ℕ → Bool) (side : Side) (xs : List ℕ) (m : Level) → FailsAll test xs → OnWalk (map (level side) xs) m → test m.class ≡ false
fails_map test side [] m f h = absurd h
fails_map test side (x ∷ xs) m f (inl e) = subst (λ (l : Level). test l.class ≡ false) e f.0
fails_map test side (x ∷ xs) m f (inr h) = fails_map test side xs m f.1 h

on_either : (xs ys : List Level) (l : Level) → OnWalk (xs ++ ys) l → OnWalk xs l ⊎ OnWalk ys l
on_either [] ys l h = inr h
on_either (x ∷ xs) ys l (inl e) = inl (inl e)
on_either (x ∷ xs) ys l (inr y) = elim (on_either xs ys l y) [ inl a ↦ inl (inr a) | inr b ↦ inr b ]

-- a test that the classes of classes and Object fail
pub record Other (test : ℕ → Bool) : Type 0 where
  pub classes : test class_class ≡ false
  pub metaclasses : test metaclass_class ≡ false
  pub object : test object_class ≡ false

fails_tail : (test : ℕ → Bool) (top : ℕ) (m : Level) → test top ≡ false → test object_class ≡ false → OnWalk (level OfInstance top ∷ level OfInstance object_class ∷ []) m → test m.class ≡ false
fails_tail test top m f g (inl e) = subst (λ (l : Level). test l.class ≡ false) e f
fails_tail test top m f g (inr (inl e)) = subst (λ (l : Level). test l.class ≡ false) e g
fails_tail test top m f g (inr (inr none)) = absurd none

held_map : (xs : List ℕ) (m : Level) → OnWalk (map (level OfInstance) xs) m → holds xs m.class ≡ true
held_map [] m h = absurd h
held_map (x ∷ xs) m (inl e) = held_by (nat_eq x m.class) refl (ap (λ (l : Level). l.class) e)
  where
    held_by : (b : Bool) → nat_eq x m.class ≡ b → x ≡ m.class → (elim b [ true ↦ true | false ↦ holds xs m.class ]) ≡ true
    held_by true e f = refl
    held_by false e f = let none : ⊥ = grind (arith, e, f) in absurd none
held_map (x ∷ xs) m (inr h) = held_on (nat_eq x m.class) (held_map xs m h)
  where
    held_on : (b : Bool) → holds xs m.class ≡ true → (elim b [ true ↦ true | false ↦ holds xs m.class ]) ≡ true
    held_on true e = refl
    held_on false e = e

no_other : (test : ℕ → Bool) (c : ℕ) → test c ≡ true → test c ≡ false → ⊥
no_other test c e f = true≢false (sym e ∙ f)

side_map : (side : Side) (xs : List ℕ) (m : Level) → OnWalk (map (level side) xs) m → m.side ≡ side
side_map side [] m h = absurd h
side_map side (x ∷ xs) m (inl e) = sym (ap (λ (l : Level). l.side) e)
side_map side (x ∷ xs) m (inr h) = side_map side xs m h

class_or_instance : OfClass ≡ OfInstance → ⊥
class_or_instance e = let x : same_side OfClass OfInstance ≡ true = subst (λ s. same_side s OfInstance ≡ true) (sym e) refl in true≢false (sym x)

module _ (p : Program) (knows : KnowsCollections p) where
  -- no level of a walk passes, where the class and those above fail
  pub fails_walk : (test : ℕ → Bool) → Other test → (from m : Level) → FailsAll test (superclasses p from.class) → OnWalk (walk p from) m → test m.class ≡ false
  unfolding walk
  fails_walk test other from m f h = go from.side h
    where
      go : (side : Side) → OnWalk (elim side [
        | OfInstance ↦ map (level OfInstance) (superclasses p from.class)
        | OfClass ↦ map (level OfClass) (superclasses p from.class) ++ level OfInstance class_class ∷ level OfInstance object_class ∷ []
        | OfMeta ↦ level OfInstance metaclass_class ∷ level OfInstance object_class ∷ []
      ]) m → test m.class ≡ false
      go OfInstance h = fails_map test OfInstance (superclasses p from.class) m f h
      go OfClass h = elim (on_either (map (level OfClass) (superclasses p from.class)) (level OfInstance class_class ∷ level OfInstance object_class ∷ []) m h) [
        | inl a ↦ fails_map test OfClass (superclasses p from.class) m f a
        | inr b ↦ fails_tail test class_class m other.classes other.object b
      ]
      go OfMeta h = fails_tail test metaclass_class m other.metaclasses other.object h

  -- the receiver is an instance of the class itself, where nothing is under that
  leaf_walk : (test : ℕ → Bool) → Other test → ((c : ℕ) → test c ≡ true → grows c ≡ true) → (from m : Level) → OnWalk (walk p from) m → of_instance (test m.class) m.side ≡ true → test from.class ≡ true
  unfolding walk
  leaf_walk test other up from m h e = let x = both (test m.class) (same_side m.side OfInstance) e in go from.side x.0 (side_is m.side OfInstance x.1) h
    where
      go : (side : Side) → test m.class ≡ true → m.side ≡ OfInstance → OnWalk (elim side [
        | OfInstance ↦ map (level OfInstance) (superclasses p from.class)
        | OfClass ↦ map (level OfClass) (superclasses p from.class) ++ level OfInstance class_class ∷ level OfInstance object_class ∷ []
        | OfMeta ↦ level OfInstance metaclass_class ∷ level OfInstance object_class ∷ []
      ]) m → test from.class ≡ true
      go OfInstance f s h = subst (λ c. test c ≡ true) (sym (knows.under from.class m.class (up m.class f) (held_map (superclasses p from.class) m h))) f
      go OfClass f s h = elim (on_either (map (level OfClass) (superclasses p from.class)) (level OfInstance class_class ∷ level OfInstance object_class ∷ []) m h) [
        | inl a ↦ absurd (class_or_instance (sym (side_map OfClass (superclasses p from.class) m a) ∙ s))
        | inr b ↦ absurd (no_other test m.class f (fails_tail test class_class m other.classes other.object b))
      ]
      go OfMeta f s h = absurd (no_other test m.class f (fails_tail test metaclass_class m other.metaclasses other.object h))

  -- ---- rows

  -- a receiver is no Dictionary, where that and those above it fail
  dictionary_not : (test : ℕ → Bool) → Other test → FailsAll test (superclasses p dictionary_class) → (from m : Level) → OnWalk (walk p from) m → test m.class ≡ true → not (nat_eq from.class dictionary_class) ≡ true
  dictionary_not test other f from m h e = go (nat_eq from.class dictionary_class) refl
    where
      go : (b : Bool) → nat_eq from.class dictionary_class ≡ b → not b ≡ true
      go true k = absurd (no_other test m.class e (fails_walk test other from m (subst (λ c. FailsAll test (superclasses p c)) (sym (eqb-true from.class dictionary_class k)) f) h))
      go false k = refl

  interval_not : (test : ℕ → Bool) → Other test → FailsAll test (superclasses p interval_class) → (from m : Level) → OnWalk (walk p from) m → test m.class ≡ true → not (nat_eq from.class interval_class) ≡ true
  interval_not test other f from m h e = go (nat_eq from.class interval_class) refl
    where
      go : (b : Bool) → nat_eq from.class interval_class ≡ b → not b ≡ true
      go true k = absurd (no_other test m.class e (fails_walk test other from m (subst (λ c. FailsAll test (superclasses p c)) (sym (eqb-true from.class interval_class k)) f) h))
      go false k = refl

  and_both : (a b : Bool) → a ≡ true → b ≡ true → (a && b) ≡ true
  and_both true true e f = refl
  and_both true false e f = f
  and_both false b e f = e

  under_dictionary : (test : ℕ → Bool) → FailsAll test (dictionary_class ∷ 8 ∷ object_class ∷ []) → FailsAll test (superclasses p dictionary_class)
  under_dictionary test f = subst (λ xs. FailsAll test xs) (sym knows.dictionary) f

  under_interval : (test : ℕ → Bool) → FailsAll test (interval_class ∷ 8 ∷ object_class ∷ []) → FailsAll test (superclasses p interval_class)
  under_interval test f = subst (λ xs. FailsAll test xs) (sym knows.interval) f

  free_from : (test : ℕ → Bool) → Other test → FailsAll test (dictionary_class ∷ 8 ∷ object_class ∷ []) → FailsAll test (interval_class ∷ 8 ∷ object_class ∷ []) → (from m : Level) → OnWalk (walk p from) m → test m.class ≡ true → is_free from.class ≡ true
  free_from test other f g from m h e =
      and_both (not (nat_eq from.class dictionary_class)) (not (nat_eq from.class interval_class)) (dictionary_not test other (under_dictionary test f) from m h e) (interval_not test other (under_interval test g) from m h e)

  sequence_from : (from m : Level) → OnWalk (walk p from) m → is_sequence m.class ≡ true → not (nat_eq from.class dictionary_class) ≡ true
  sequence_from from m h e = dictionary_not (λ c. is_sequence c) (record { classes = refl; metaclasses = refl; object = refl }) (under_dictionary (λ c. is_sequence c) (refl, (refl, (refl, tt)))) from m h e

  ordered_from : (from m : Level) → OnWalk (walk p from) m → of_instance (nat_eq m.class ordered_collection_class) m.side ≡ true → nat_eq from.class ordered_collection_class ≡ true
  ordered_from from m h e = leaf_walk (λ c. nat_eq c ordered_collection_class) (record { classes = refl; metaclasses = refl; object = refl }) (λ c f. ap (λ x. grows x) (eqb-true c ordered_collection_class f)) from m h e

  set_from : (from m : Level) → OnWalk (walk p from) m → of_instance (nat_eq m.class set_class) m.side ≡ true → nat_eq from.class set_class ≡ true
  set_from from m h e = leaf_walk (λ c. nat_eq c set_class) (record { classes = refl; metaclasses = refl; object = refl }) (λ c f. ap (λ x. grows x) (eqb-true c set_class f)) from m h e

  dictionary_from : (from m : Level) → OnWalk (walk p from) m → of_instance (nat_eq m.class dictionary_class) m.side ≡ true → nat_eq from.class dictionary_class ≡ true
  dictionary_from from m h e = leaf_walk (λ c. nat_eq c dictionary_class) (record { classes = refl; metaclasses = refl; object = refl }) (λ c f. ap (λ x. grows x) (eqb-true c dictionary_class f)) from m h e

  listed_grows : (c : ℕ) → is_listed c ≡ true → grows c ≡ true
  listed_grows c e = go (nat_eq c ordered_collection_class) (nat_eq c set_class) refl refl e
    where
      go : (a b : Bool) → nat_eq c ordered_collection_class ≡ a → nat_eq c set_class ≡ b → (a || b) ≡ true → grows c ≡ true
      go true b f g e = ap (λ x. grows x) (eqb-true c ordered_collection_class f)
      go false true f g e = ap (λ x. grows x) (eqb-true c set_class g)
      go false false f g e = absurd (true≢false (sym e))

  listed_from : (from m : Level) → OnWalk (walk p from) m → of_instance (is_listed m.class) m.side ≡ true → is_listed from.class ≡ true
  listed_from from m h e = leaf_walk (λ c. is_listed c) (record { classes = refl; metaclasses = refl; object = refl }) listed_grows from m h e

  sequences_from : (x : SequenceMessage) (from m : Level) → OnWalk (walk p from) m → stands_at (Sequences x) m.side m.class ≡ true → takes (Sequences x) from.class ≡ true
  sequences_from SequenceMessage.Join from m h e = sequence_from from m h e
  sequences_from SequenceMessage.CopyFromTo from m h e = sequence_from from m h e
  sequences_from SequenceMessage.Reverse from m h e = sequence_from from m h e
  sequences_from SequenceMessage.AtPut from m h e = free_from (λ c. is_writable c) (record { classes = refl; metaclasses = refl; object = refl }) (refl, (refl, (refl, tt))) (refl, (refl, (refl, tt))) from m h e
  sequences_from x from m h e = refl

  collections_from : (x : CollectionMessage) (from m : Level) → OnWalk (walk p from) m → stands_at (Collections x) m.side m.class ≡ true → takes (Collections x) from.class ≡ true
  collections_from CollectionMessage.Add from m h e = ordered_from from m h e
  collections_from CollectionMessage.AddFirst from m h e = ordered_from from m h e
  collections_from CollectionMessage.AddAll from m h e = ordered_from from m h e
  collections_from CollectionMessage.RemoveFirst from m h e = ordered_from from m h e
  collections_from CollectionMessage.RemoveLast from m h e = ordered_from from m h e
  collections_from CollectionMessage.AddBeforeIndex from m h e = ordered_from from m h e
  collections_from CollectionMessage.RemoveAtIndex from m h e = ordered_from from m h e
  collections_from x from m h e = refl

  loops_from : (x : LoopMessage) (from m : Level) → OnWalk (walk p from) m → stands_at (Loops x) m.side m.class ≡ true → takes (Loops x) from.class ≡ true
  loops_from LoopMessage.AddToSet from m h e = set_from from m h e
  loops_from LoopMessage.Remove from m h e = listed_from from m h e
  loops_from LoopMessage.RemoveIfAbsent from m h e = listed_from from m h e
  loops_from LoopMessage.AtPut from m h e = dictionary_from from m h e
  loops_from LoopMessage.AtIfAbsentPut from m h e = dictionary_from from m h e
  loops_from LoopMessage.RemoveKey from m h e = dictionary_from from m h e
  loops_from LoopMessage.RemoveKeyIfAbsent from m h e = dictionary_from from m h e
  loops_from x from m h e = refl

  row_from : (row : Row) (from m : Level) → OnWalk (walk p from) m → stands_at row m.side m.class ≡ true → takes row from.class ≡ true
  row_from (Objects x) from m h e = refl
  row_from (Classes x) from m h e = refl
  row_from (Booleans x) from m h e = refl
  row_from (Numbers x) from m h e = refl
  row_from (Characters x) from m h e = refl
  row_from (Transcripts x) from m h e = refl
  row_from (Strings x) from m h e = refl
  row_from (Sequences x) from m h e = sequences_from x from m h e
  row_from (Collections x) from m h e = collections_from x from m h e
  row_from (Blocks x) from m h e = refl
  row_from (Exceptions x) from m h e = free_from (λ c. is_exception c) (record { classes = refl; metaclasses = refl; object = refl }) (refl, (refl, (refl, tt))) (refl, (refl, (refl, tt))) from m h e
  row_from (Loops x) from m h e = loops_from x from m h e
  row_from (Slots x) from m h e = refl

  pub row_fits : (from : Level) (selector : ℕ) (row : Row) → lookup p from selector ≡ Some (BuiltIn row) → takes row from.class ≡ true
  unfolding lookup
  row_fits from selector row e =
      let f : FoundThere (walk p from) (Some (BuiltIn row)) = subst (λ o. FoundThere (walk p from) o) e (found_there p (walk p from) selector) in
      row_from row from f.0 f.1 f.2

  pub super_row_fits : KnowsClasses p → (s : Store) (class r : Value) (selector : ℕ) (row : Row) → IsOf p s r class → super_lookup p class selector ≡ Some (BuiltIn row) → takes row (level_of s r).class ≡ true
  unfolding super_lookup
  super_row_fits classes s class r selector row g e =
      let levels = drop 1 (walk p (class_level class)) in
      let f : FoundThere levels (Some (BuiltIn row)) = subst (λ o. FoundThere levels o) e (found_there p levels selector) in
      row_from row (level_of s r) f.0 (classes.behind (level_of s r) (class_level class) f.0 g f.1) f.2

pub rows_fit : RowsFit
rows_fit p knows from selector row e = row_fits p knows from selector row e

pub super_rows_fit : SuperRowsFit
super_rows_fit p classes knows s class r selector row g e = super_row_fits p knows classes s class r selector row g e

-- ---- receivers in a sound store

ready : (s : Store) → SoundStore s → (row : Row) (r : Value) → takes row (level_of s r).class ≡ true → RowReady s row r
ready s h (Objects m) r e = tt
ready s h (Classes m) r e = tt
ready s h (Booleans m) r e = tt
ready s h (Numbers m) r e = tt
ready s h (Characters m) r e = tt
ready s h (Transcripts m) r e = tt
ready s h (Strings m) r e = tt
ready s h (Sequences m) r e = tt
ready s h (Collections m) r e = λ c. go (changes m) c e
  where
    go : (b : Bool) → b ≡ true → (not b || nat_eq (level_of s r).class ordered_collection_class) ≡ true → IsOrdered s r
    go true c e = ordered_open s h r (eqb-true (level_of s r).class ordered_collection_class e)
    go false c e = absurd (true≢false (sym c))
ready s h (Blocks m) r e = tt
ready s h (Exceptions m) r e = tt
ready s h (Loops m) r e = receivers_stand s h m r e
ready s h (Slots slot) r e = tt

pub sends_ready : SendsAreReady
sends_ready p knows s h r selector row e = ready s h row r (row_fits p knows (level_of s r) selector row e)

pub super_sends_ready : SuperSendsAreReady
super_sends_ready p classes knows s h class r selector row g e = ready s h row r (super_row_fits p knows classes s class r selector row g e)
