-- What a lookup finds, as far as the slots of built-in objects go, is for its receiver's class.
use Rattle.std.proofs.Common.{◌≡◌, ◌<◌, ◌≤◌, length, nat_lt, ap, arith, ℕ, inl, inr, nat_eq, nat_le, not, ◌&&◌, ◌||◌, drop, List, [], ◌∷◌, Option, Some, None, Bool, true, false, eqb-true, true≢false, refl, sym, ◌∙◌, subst}
use Rattle.std.specs.Option.{option_map}
use Rattle.std.proofs.lemmas.Bool.{ltb-true, ltb-false, leb-true, ne_eqb}
use Rattle.std.proofs.lemmas.List.{get_or_past}
use Rattle.st_code.specs.Program.{ClassRow, NoIndexes, class_at}
use Rattle.st_code.specs.Lookup.{some_superclasses}
use Rattle.st_code.specs.BuiltIns.{exception_set_class}
use Rattle.object_heap.specs.declared.value.Value.{Value}
use Rattle.object_heap.specs.Store.{Store}
use Rattle.st_code.specs.Texts.{Text, same_text}
use Rattle.st_code.specs.BuiltIns.{object_class, string_class, symbol_class, array_class, byte_array_class, ordered_collection_class, interval_class, exception_class, Section, built_in_messages, row_in, is_section, or_else, row_in_sections, row_at}
use Rattle.st_code.specs.BuiltInRows.{RowAt}
use Rattle.st_code.specs.Lookup.{Level, level_of, superclasses, walk, Found, UserMethod, BuiltIn, method_at, found_at, found_in, lookup, class_level, super_lookup}
use Rattle.st_code.specs.Messages.{Row, Objects, Classes, Booleans, Numbers, Characters, Transcripts, Strings, Sequences, Collections, Blocks, Exceptions, Loops, Slots, SequenceMessage, CollectionMessage}
use Rattle.st_code.specs.Program.{Program, Side, OfInstance, OfClass, OfMeta, same_side, name_at}
use Rattle.st_rules.specs.Selves.{OnWalk, IsOf, KnowsClasses}
use Rattle.st_sound.specs.KnownCollections.{KnowsCollections}
use Rattle.st_sound.specs.SoundStore.{grows}
use Rattle.st_sound.proofs.TableRows.{FailsAll, Other, fails_walk}
use Rattle.law_values.specs.KnownBuilt.{Chain, fraction_chain, block_chain, message_chain, association_chain, exception_chains, chains, Stand, KnowsBuilt}
use Rattle.law_values.specs.BuiltObjects.{is_one_of}
use Rattle.law_values.proofs.BuiltObjects.{is_bound, is_fixed}

-- what stands for a class that isn't there
abbrev pub none_class : ClassRow
none_class = record { name = []; superclass = None; in_file = false; indexed = NoIndexes; slots = 0; class_slots = 0 }

-- ---- receivers

abbrev pub is_open : ℕ → Bool
is_open class = not (is_bound class)

abbrev pub is_loose : ℕ → Bool
is_loose class = not (is_fixed class)

abbrev classes_of : List Chain → List ℕ
classes_of [] = []
classes_of (c ∷ cs) = c.class ∷ classes_of cs

-- not fixed, or Interval
abbrev pub is_wide : ℕ → Bool
is_wide class = not (is_one_of (classes_of chains) class)

abbrev pub sequence_fits : SequenceMessage → ℕ → Bool
sequence_fits SequenceMessage.Join class = is_wide class
sequence_fits SequenceMessage.CopyFromTo class = is_wide class
sequence_fits SequenceMessage.Reverse class = is_wide class
sequence_fits SequenceMessage.AtPut class = is_open class
sequence_fits m class = true

abbrev pub CollectionFits : Program → CollectionMessage → ℕ → Type 0
CollectionFits p CollectionMessage.NewEmpty class = (is_loose class ≡ true) × (class < length p.classes)
CollectionFits p m class = Unit {0}

-- the row may be found by receivers of this class, or by the class itself
abbrev pub FitsRow : Program → Row → ℕ → Type 0
FitsRow p (Sequences m) class = sequence_fits m class ≡ true
FitsRow p (Collections m) class = CollectionFits p m class
FitsRow p (Exceptions m) class = (is_open class ≡ true) × (class < length p.classes)
FitsRow p row class = Unit {0}

-- ---- where the table has a row

abbrev is_sequence : ℕ → Bool
is_sequence c = nat_eq c string_class || nat_eq c symbol_class || nat_eq c array_class || nat_eq c byte_array_class || nat_eq c ordered_collection_class || nat_eq c interval_class

abbrev is_writable : ℕ → Bool
is_writable c = nat_eq c string_class || nat_eq c array_class || nat_eq c byte_array_class || nat_eq c ordered_collection_class

abbrev is_exception : ℕ → Bool
is_exception c = nat_le exception_class c && nat_le c exception_set_class

abbrev sequence_at : SequenceMessage → ℕ → Bool
sequence_at SequenceMessage.Join c = is_sequence c
sequence_at SequenceMessage.CopyFromTo c = is_sequence c
sequence_at SequenceMessage.Reverse c = is_sequence c
sequence_at SequenceMessage.AtPut c = is_writable c
sequence_at m c = true

abbrev collection_at : CollectionMessage → ℕ → Bool
collection_at CollectionMessage.NewEmpty c = grows c
collection_at m c = true

abbrev stands_at : Row → Side → ℕ → Bool
stands_at (Sequences m) side c = sequence_at m c
stands_at (Collections m) side c = collection_at m c
stands_at (Exceptions m) side c = is_exception c
stands_at row side c = true

abbrev rows_stand : List RowAt → Side → ℕ → Bool
rows_stand [] side c = true
rows_stand (r ∷ rows) side c = stands_at r.row side c && rows_stand rows side c

abbrev sections_stand : List Section → Bool
sections_stand [] = true
sections_stand (s ∷ sections) = rows_stand s.rows s.side s.class && sections_stand sections

table_stands : sections_stand built_in_messages ≡ true
unfolding built_in_messages
table_stands = refl

both : (a b : Bool) → (a && b) ≡ true → (a ≡ true) × (b ≡ true)
both true true e = (refl, refl)
both true false e = absurd (true≢false (sym e))
both false b e = absurd (true≢false (sym e))

-- what a row is found to be
abbrev RowStands : Side → ℕ → Option Row → Type 0
RowStands side c None = Unit {0}
RowStands side c (Some row) = stands_at row side c ≡ true

row_in_stands : (rows : List RowAt) (side : Side) (c : ℕ) (selector : Text) → rows_stand rows side c ≡ true → RowStands side c (row_in rows selector)
unfolding row_in
row_in_stands [] side c selector h = tt
row_in_stands (r ∷ rows) side c selector h = let x = both (stands_at r.row side c) (rows_stand rows side c) h in go (same_text r.selector selector) x.0 (row_in_stands rows side c selector x.1)
  where
    go : (b : Bool) → stands_at r.row side c ≡ true → RowStands side c (row_in rows selector) → RowStands side c (elim b [ true ↦ Some r.row | false ↦ row_in rows selector ])
    go true e f = e
    go false e f = f

side_is : (a b : Side) → same_side a b ≡ true → a ≡ b
side_is OfInstance OfInstance e = refl
side_is OfClass OfClass e = refl
side_is OfMeta OfMeta e = refl
side_is OfInstance OfClass e = absurd (true≢false (sym e))
side_is OfInstance OfMeta e = absurd (true≢false (sym e))
side_is OfClass OfInstance e = absurd (true≢false (sym e))
side_is OfClass OfMeta e = absurd (true≢false (sym e))
side_is OfMeta OfInstance e = absurd (true≢false (sym e))
side_is OfMeta OfClass e = absurd (true≢false (sym e))

either_stands : (side : Side) (c : ℕ) (a b : Option Row) → RowStands side c a → RowStands side c b → RowStands side c (or_else a b)
either_stands side c None b f g = g
either_stands side c (Some row) b f g = f

in_sections : (sections : List Section) (c : ℕ) (side : Side) (selector : Text) → sections_stand sections ≡ true → RowStands side c (row_in_sections sections c side selector)
unfolding row_in_sections
in_sections [] c side selector h = tt
in_sections (s ∷ sections) c side selector h =
    let x = both (rows_stand s.rows s.side s.class) (sections_stand sections) h in
    go (is_section c side s) refl (row_in_stands s.rows s.side s.class selector x.0) (in_sections sections c side selector x.1)
  where
    go : (b : Bool) → is_section c side s ≡ b → RowStands s.side s.class (row_in s.rows selector) → RowStands side c (row_in_sections sections c side selector) → RowStands side c (elim b [ true ↦ or_else (row_in s.rows selector) (row_in_sections sections c side selector) | false ↦ row_in_sections sections c side selector ])
    go true e f g =
        let y = both (nat_eq s.class c) (same_side s.side side) e in
        let here : RowStands side s.class (row_in s.rows selector) = subst (λ x. RowStands x s.class (row_in s.rows selector)) (side_is s.side side y.1) f in
        either_stands side c (row_in s.rows selector) (row_in_sections sections c side selector) (subst (λ x. RowStands side x (row_in s.rows selector)) (eqb-true s.class c y.0) here) g
    go false e f g = g

row_at_stands : (c : ℕ) (side : Side) (selector : Text) → RowStands side c (row_at c side selector)
unfolding row_at
row_at_stands c side selector = in_sections built_in_messages c side selector table_stands

-- ---- what is found, and where

abbrev FoundHere : Level → Option Found → Type 0
FoundHere l (Some (BuiltIn row)) = stands_at row l.side l.class ≡ true
FoundHere l o = Unit {0}

abbrev FoundThere : List Level → Option Found → Type 0
FoundThere levels (Some (BuiltIn row)) = (m : Level) × OnWalk levels m × (stands_at row m.side m.class ≡ true)
FoundThere levels o = Unit {0}

module _ (p : Program) where
  row_found : (l : Level) (o : Option Row) → RowStands l.side l.class o → FoundHere l (option_map BuiltIn o)
  row_found l None f = tt
  row_found l (Some row) f = f

  found_here : (l : Level) (selector : ℕ) → FoundHere l (found_at p l selector)
  unfolding found_at
  found_here l selector = go (method_at p.methods l selector)
    where
      go : (o : Option ℕ) → FoundHere l (elim o [ Some code ↦ Some (UserMethod code) | None ↦ option_map BuiltIn (row_at l.class l.side (name_at p selector)) ])
      go None = row_found l (row_at l.class l.side (name_at p selector)) (row_at_stands l.class l.side (name_at p selector))
      go (Some code) = tt

  further : (l : Level) (levels : List Level) (o : Option Found) → FoundThere levels o → FoundThere (l ∷ levels) o
  further l levels None f = tt
  further l levels (Some (UserMethod code)) f = tt
  further l levels (Some (BuiltIn row)) f = (f.0, inr f.1, f.2)

  found_there : (levels : List Level) (selector : ℕ) → FoundThere levels (found_in p levels selector)
  unfolding found_in
  found_there [] selector = tt
  found_there (l ∷ levels) selector = go (found_at p l selector) (found_here l selector) (found_there levels selector)
    where
      go : (o : Option Found) → FoundHere l o → FoundThere levels (found_in p levels selector) → FoundThere (l ∷ levels) (elim o [ Some found ↦ Some found | None ↦ found_in p levels selector ])
      go None f g = further l levels (found_in p levels selector) g
      go (Some (UserMethod code)) f g = tt
      go (Some (BuiltIn row)) f g = (l, inl refl, f)

-- ---- classes that no receiver has

abbrev pub FailChains : (ℕ → Bool) → List Chain → Type 0
FailChains test [] = Unit {0}
FailChains test (c ∷ cs) = FailsAll test (c.class ∷ c.above) × FailChains test cs

module _ (p : Program) (knows : KnowsCollections p) (known : KnowsBuilt p) where
  avoids : (test : ℕ → Bool) → Other test → (cs : List Chain) → Stand p cs → FailChains test cs → (from m : Level) → OnWalk (walk p from) m → test m.class ≡ true → not (is_one_of (classes_of cs) from.class) ≡ true
  avoids test other [] s f from m h e = refl
  avoids test other (c ∷ cs) s f from m h e = go (nat_eq from.class c.class) refl (avoids test other cs s.1 f.1 from m h e)
    where
      go : (b : Bool) → nat_eq from.class c.class ≡ b → not (is_one_of (classes_of cs) from.class) ≡ true → not (b || is_one_of (classes_of cs) from.class) ≡ true
      go true k i =
          let none : test m.class ≡ false = fails_walk p knows test other from m (subst (λ x. FailsAll test (superclasses p x)) (sym (eqb-true from.class c.class k)) (subst (λ xs. FailsAll test xs) (sym s.0) f.0)) h in
          absurd (true≢false (sym e ∙ none))
      go false k i = i

  abbrev pub interval_chain : Chain
  interval_chain = record { class = interval_class; above = 8 ∷ object_class ∷ [] }

  loose_from : (test : ℕ → Bool) → Other test → FailChains test (fraction_chain ∷ interval_chain ∷ block_chain ∷ message_chain ∷ association_chain ∷ exception_chains) → (from m : Level) → OnWalk (walk p from) m → test m.class ≡ true → is_loose from.class ≡ true
  loose_from test other f from m h e = avoids test other (fraction_chain ∷ interval_chain ∷ block_chain ∷ message_chain ∷ association_chain ∷ exception_chains) (known.above.0, (knows.interval, known.above.1)) f from m h e

  pub open_from : (test : ℕ → Bool) → Other test → FailChains test (fraction_chain ∷ interval_chain ∷ block_chain ∷ message_chain ∷ []) → (from m : Level) → OnWalk (walk p from) m → test m.class ≡ true → is_open from.class ≡ true
  open_from test other f from m h e = avoids test other (fraction_chain ∷ interval_chain ∷ block_chain ∷ message_chain ∷ []) (known.above.0, (knows.interval, (known.above.1.0, (known.above.1.1.0, tt)))) f from m h e

  wide_from : (from m : Level) → OnWalk (walk p from) m → is_sequence m.class ≡ true → is_wide from.class ≡ true
  wide_from from m h e = avoids (λ c. is_sequence c) (record { classes = refl; metaclasses = refl; object = refl }) chains known.above ((refl, (refl, tt)), ((refl, (refl, tt)), ((refl, (refl, tt)), ((refl, (refl, tt)), ((refl, (refl, tt)), ((refl, (refl, (refl, tt))), ((refl, (refl, (refl, (refl, tt)))), ((refl, (refl, (refl, (refl, tt)))), ((refl, (refl, (refl, tt))), ((refl, (refl, (refl, (refl, tt)))), tt)))))))))) from m h e

  -- a class that the program doesn't have stands alone
  alone : (c : ℕ) → length p.classes ≤ c → superclasses p c ≡ c ∷ []
  unfolding superclasses class_at
  alone c l = ap (λ (r : ClassRow). c ∷ elim r.superclass [ None ↦ [] | Some above ↦ some_superclasses p c above ]) (get_or_past p.classes c none_class l)

  -- so a class is there, where a level of its walk passes a test that no late class does
  in_range : (test : ℕ → Bool) → Other test → ((c : ℕ) → exception_set_class < c → test c ≡ false) → (from m : Level) → OnWalk (walk p from) m → test m.class ≡ true → from.class < length p.classes
  in_range test other late from m h e = by (nat_lt from.class (length p.classes)) refl
    where
      by : (b : Bool) → nat_lt from.class (length p.classes) ≡ b → from.class < length p.classes
      by true k = ltb-true from.class (length p.classes) k
      by false k =
          let l = ltb-false from.class (length p.classes) k in
          let far : exception_set_class < from.class = omega (arith, l, known.classes) in
          absurd (true≢false (sym e ∙ fails_walk p knows test other from m (subst (λ xs. FailsAll test xs) (sym (alone from.class l)) (late from.class far, tt)) h))

  grows_low : (c : ℕ) → exception_set_class < c → grows c ≡ false
  grows_low c l = rw (ne_eqb c 13 (λ e. let none : ⊥ = omega (arith, e, l) in none), ne_eqb c 14 (λ e. let none : ⊥ = omega (arith, e, l) in none), ne_eqb c 15 (λ e. let none : ⊥ = omega (arith, e, l) in none)) refl

  exception_low : (c : ℕ) → exception_set_class < c → is_exception c ≡ false
  exception_low c l = by (nat_le exception_class c) (nat_le c exception_set_class) refl
    where
      by : (a b : Bool) → nat_le c exception_set_class ≡ b → (a && b) ≡ false
      by true true e = let k = leb-true c exception_set_class e in absurd (omega (arith, k, l))
      by true false e = refl
      by false b e = refl

  sequences_from : (x : SequenceMessage) (from m : Level) → OnWalk (walk p from) m → stands_at (Sequences x) m.side m.class ≡ true → FitsRow p (Sequences x) from.class
  sequences_from SequenceMessage.Join from m h e = wide_from from m h e
  sequences_from SequenceMessage.CopyFromTo from m h e = wide_from from m h e
  sequences_from SequenceMessage.Reverse from m h e = wide_from from m h e
  sequences_from SequenceMessage.AtPut from m h e = open_from (λ c. is_writable c) (record { classes = refl; metaclasses = refl; object = refl }) ((refl, (refl, tt)), ((refl, (refl, (refl, tt))), ((refl, (refl, tt)), ((refl, (refl, tt)), tt)))) from m h e
  sequences_from x from m h e = refl

  collections_from : (x : CollectionMessage) (from m : Level) → OnWalk (walk p from) m → stands_at (Collections x) m.side m.class ≡ true → FitsRow p (Collections x) from.class
  collections_from CollectionMessage.NewEmpty from m h e = (loose_from (λ c. grows c) (record { classes = refl; metaclasses = refl; object = refl }) ((refl, (refl, tt)), ((refl, (refl, (refl, tt))), ((refl, (refl, tt)), ((refl, (refl, tt)), ((refl, (refl, tt)), ((refl, (refl, tt)), ((refl, (refl, (refl, tt))), ((refl, (refl, (refl, (refl, tt)))), ((refl, (refl, (refl, (refl, tt)))), ((refl, (refl, (refl, tt))), ((refl, (refl, (refl, (refl, tt)))), tt))))))))))) from m h e, in_range (λ c. grows c) (record { classes = refl; metaclasses = refl; object = refl }) grows_low from m h e)
  collections_from x from m h e = tt

  row_from : (row : Row) (from m : Level) → OnWalk (walk p from) m → stands_at row m.side m.class ≡ true → FitsRow p row from.class
  row_from (Objects x) from m h e = tt
  row_from (Classes x) from m h e = tt
  row_from (Booleans x) from m h e = tt
  row_from (Numbers x) from m h e = tt
  row_from (Characters x) from m h e = tt
  row_from (Transcripts x) from m h e = tt
  row_from (Strings x) from m h e = tt
  row_from (Sequences x) from m h e = sequences_from x from m h e
  row_from (Collections x) from m h e = collections_from x from m h e
  row_from (Blocks x) from m h e = tt
  row_from (Exceptions x) from m h e = (open_from (λ c. is_exception c) (record { classes = refl; metaclasses = refl; object = refl }) ((refl, (refl, tt)), ((refl, (refl, (refl, tt))), ((refl, (refl, tt)), ((refl, (refl, tt)), tt)))) from m h e, in_range (λ c. is_exception c) (record { classes = refl; metaclasses = refl; object = refl }) exception_low from m h e)
  row_from (Loops x) from m h e = tt
  row_from (Slots x) from m h e = tt

  pub found_fits : (from : Level) (selector : ℕ) (row : Row) → lookup p from selector ≡ Some (BuiltIn row) → FitsRow p row from.class
  unfolding lookup
  found_fits from selector row e =
      let f : FoundThere (walk p from) (Some (BuiltIn row)) = subst (λ o. FoundThere (walk p from) o) e (found_there p (walk p from) selector) in
      row_from row from f.0 f.1 f.2

  pub super_fits : KnowsClasses p → (s : Store) (class r : Value) (selector : ℕ) (row : Row) → IsOf p s r class → super_lookup p class selector ≡ Some (BuiltIn row) → FitsRow p row (level_of s r).class
  unfolding super_lookup
  super_fits classes s class r selector row g e =
      let levels = drop 1 (walk p (class_level class)) in
      let f : FoundThere levels (Some (BuiltIn row)) = subst (λ o. FoundThere levels o) e (found_there p levels selector) in
      row_from row (level_of s r) f.0 (classes.behind (level_of s r) (class_level class) f.0 g f.1) f.2
