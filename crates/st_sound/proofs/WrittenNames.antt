-- The classes of a file, and what names stand for in them: only its own have named slots, and none stands under OrderedCollection, Set or Dictionary.
use Rattle.std.proofs.Common.{◌≡◌, ℕ, zero, suc, ◌+◌, ◌<◌, ◌≤◌, ◌⊎◌, inl, inr, nat_eq, not, ◌&&◌, map, length, get_or, append_assoc, append-nil, List, [], ◌∷◌, ◌++◌, Option, Some, None, Bool, true, false, eqb-true, true≢false, refl, sym, ap, ◌∙◌, subst, arith}
use Rattle.std.proofs.lemmas.Bool.{ne_eqb}
use Rattle.object_heap.specs.declared.value.Value.{Value}
use Rattle.object_heap.specs.declared.value.Value.TheVariants.{Nil, Class, Meta}
use Rattle.st_code.specs.BuiltIns.{built_in_classes, built_in_class_rows, collection_class, object_class, dictionary_class, interval_class}
use Rattle.st_code.specs.Definitions.{built_in_names, class_row, class_over, declared_unit, declared_units, names_of, or_zero, RunLimits, program_of}
use Rattle.st_code.specs.Lookup.{some_superclasses, superclasses, holds}
use Rattle.st_code.specs.Named.{NamedUnit, ClassUnit, GlobalUnit, PoolVariableUnit, InitializerUnit, PoolInitializerUnit, ProgramUnit, MethodUnit, ClassMethodUnit}
use Rattle.st_code.specs.Program.{Program, Scoped, Slot, ClassSlot, Side, OfInstance, OfClass, OfMeta, ClassRow, NoIndexes, class_at}
use Rattle.st_code.specs.Resolved.{GlobalName, PoolName, ClassName, ClassNames, Names, no_names, class_names_at, class_in, place_in, text_in, Meant, At, or_meant, meant_shared, in_pools, in_classes, meant_class, meant_slot, own_names, or_transcript, meant_outside, meant_from, meant, place_of}
use Rattle.st_code.specs.Texts.{Text, same_text}
use Rattle.st_sound.specs.KnownCollections.{may_extend, Extends}
use Rattle.st_sound.specs.SoundStore.{grows}
use Rattle.st_sound.proofs.TableRows.{FailsAll}
use Rattle.st_sound.proofs.WrittenTrees.{PlaceWritten}

-- ---- classes in order

abbrev pub built : List ClassNames
built = map built_in_names built_in_class_rows

abbrev none_class : ClassRow
none_class = record { name = []; superclass = None; in_file = false; indexed = NoIndexes; slots = 0; class_slots = 0 }

-- a superclass takes no elements
abbrev SuperFine : Option ℕ → Type 0
SuperFine None = Unit {0}
SuperFine (Some a) = grows a ≡ false

abbrev AllFine : List ClassNames → Type 0
AllFine [] = Unit {0}
AllFine (c ∷ cs) = SuperFine c.row.superclass × AllFine cs

-- named slots are of the file's own classes
abbrev Owned : ClassNames → Type 0
Owned c = (c.instance_names ≡ []) ⊎ (c.row.in_file ≡ true)

abbrev AllOwned : List ClassNames → Type 0
AllOwned [] = Unit {0}
AllOwned (c ∷ cs) = Owned c × AllOwned cs

pub record Extended (cs : List ClassNames) : Type 0 where
  pub extra : List ClassNames
  pub begins : cs ≡ built ++ extra
  pub fine : AllFine cs
  pub owned : AllOwned cs

fine_append : (xs : List ClassNames) (c : ClassNames) → AllFine xs → SuperFine c.row.superclass → AllFine (xs ++ c ∷ [])
fine_append [] c h f = (f, tt)
fine_append (x ∷ xs) c h f = (h.0, fine_append xs c h.1 f)

owned_append : (xs : List ClassNames) (c : ClassNames) → AllOwned xs → Owned c → AllOwned (xs ++ c ∷ [])
owned_append [] c h f = (f, tt)
owned_append (x ∷ xs) c h f = (h.0, owned_append xs c h.1 f)

-- ---- where a name is found

abbrev AtLeast : ℕ → Option ℕ → Type 0
AtLeast n None = Unit {0}
AtLeast n (Some k) = n ≤ k

found_late : (n m : ℕ) (cs : List ClassNames) (t : Text) → n ≤ m → AtLeast n (class_in m cs t)
found_late n m [] t l = tt
found_late n m (c ∷ cs) t l = go (same_text c.row.name t) (found_late n (suc m) cs t (omega (arith, l)))
  where
    go : (b : Bool) → AtLeast n (class_in (suc m) cs t) → AtLeast n (elim b [ true ↦ Some m | false ↦ class_in (suc m) cs t ])
    go true h = l
    go false h = h

abbrev or_later : Option ℕ → Option ℕ → Option ℕ
or_later (Some k) o = Some k
or_later None o = o

found_either : (n : ℕ) (xs ys : List ClassNames) (t : Text) → class_in n (xs ++ ys) t ≡ or_later (class_in n xs t) (class_in (n + length xs) ys t)
found_either n [] ys t = let e : n ≡ n + 0 = omega arith in ap (λ k. class_in k ys t) e
found_either n (x ∷ xs) ys t = go (same_text x.row.name t) (found_either (suc n) xs ys t)
  where
    go : (b : Bool) → class_in (suc n) (xs ++ ys) t ≡ or_later (class_in (suc n) xs t) (class_in (suc n + length xs) ys t) → elim b [ true ↦ Some n | false ↦ class_in (suc n) (xs ++ ys) t ] ≡ or_later (elim b [ true ↦ Some n | false ↦ class_in (suc n) xs t ]) (class_in (n + length (x ∷ xs)) ys t)
    go true h = refl
    go false h = let e : suc n + length xs ≡ n + length (x ∷ xs) = omega arith in h ∙ ap (λ k. or_later (class_in (suc n) xs t) (class_in k ys t)) e

built_size : length built ≡ 30
unfolding built_in_class_rows built_in_classes
built_size = refl

pub grows_late : (k : ℕ) → 15 < k → grows k ≡ false
grows_late k l = rw (ne_eqb k 13 (λ e. let none : ⊥ = omega (arith, e, l) in none), ne_eqb k 14 (λ e. let none : ⊥ = omega (arith, e, l) in none), ne_eqb k 15 (λ e. let none : ⊥ = omega (arith, e, l) in none)) refl

not_grows : (b : Bool) → not b ≡ true → b ≡ false
not_grows true e = sym e
not_grows false e = refl

super_by : (a b : Option ℕ) → may_extend a ≡ true → AtLeast 30 b → grows (or_zero (or_later a b)) ≡ false
super_by (Some k) b e l = not_grows (grows k) e
super_by None None e l = refl
super_by None (Some k) e l = grows_late k (omega (arith, l))

super_fine : (extra : List ClassNames) (t : Text) → may_extend (class_in 0 built t) ≡ true → grows (or_zero (class_in 0 (built ++ extra) t)) ≡ false
super_fine extra t e =
    let late : AtLeast 30 (class_in (0 + length built) extra t) = found_late 30 (0 + length built) extra t (omega (arith, built_size)) in
    ap (λ o. grows (or_zero o)) (found_either 0 built extra t) ∙ super_by (class_in 0 built t) (class_in (0 + length built) extra t) e late

-- ---- unit by unit

abbrev ExtendsOne : NamedUnit → Type 0
ExtendsOne (ClassUnit c) = may_extend (class_in 0 built c.superclass) ≡ true
ExtendsOne u = Unit {0}

unit_extended : (x : Names) (u : NamedUnit) → ExtendsOne u → Extended x.classes → Extended (declared_unit x u).classes
unit_extended x (ClassUnit c) e h =
    let superclass = or_zero (class_in 0 x.classes c.superclass) in
    let new = class_over c superclass (class_names_at x.classes superclass) (length x.shared) in
    let fine : grows superclass ≡ false = ap (λ cs. grows (or_zero (class_in 0 cs c.superclass))) h.begins ∙ super_fine h.extra c.superclass e in
    record { extra = h.extra ++ new ∷ []; begins = ap (λ cs. cs ++ new ∷ []) h.begins ∙ append_assoc built h.extra (new ∷ []); fine = fine_append x.classes new h.fine fine; owned = owned_append x.classes new h.owned (inr refl) }
unit_extended x (GlobalUnit name) e h = h
unit_extended x (PoolVariableUnit pool name) e h = h
unit_extended x (InitializerUnit target b) e h = h
unit_extended x (PoolInitializerUnit pool name b) e h = h
unit_extended x (ProgramUnit b) e h = h
unit_extended x (MethodUnit class m) e h = h
unit_extended x (ClassMethodUnit class m) e h = h

first_extends : (u : NamedUnit) (units : List NamedUnit) → Extends (u ∷ units) → ExtendsOne u × Extends units
first_extends (ClassUnit c) units e = (e.0, e.1)
first_extends (GlobalUnit name) units e = (tt, e)
first_extends (PoolVariableUnit pool name) units e = (tt, e)
first_extends (InitializerUnit target b) units e = (tt, e)
first_extends (PoolInitializerUnit pool name b) units e = (tt, e)
first_extends (ProgramUnit b) units e = (tt, e)
first_extends (MethodUnit class m) units e = (tt, e)
first_extends (ClassMethodUnit class m) units e = (tt, e)

units_extended : (units : List NamedUnit) (x : Names) → Extends units → Extended x.classes → Extended (declared_units x units).classes
units_extended [] x e h = h
units_extended (u ∷ units) x e h = let f = first_extends u units e in units_extended units (declared_unit x u) f.1 (unit_extended x u f.0 h)

abbrev is_fine : Option ℕ → Bool
is_fine None = true
is_fine (Some a) = not (grows a)

-- the built-in classes: their superclasses take no elements, and none is of the file
abbrev all_plain : List ClassRow → Bool
all_plain [] = true
all_plain (r ∷ rows) = is_fine r.superclass && (not r.in_file && all_plain rows)

built_plain : all_plain built_in_class_rows ≡ true
unfolding built_in_class_rows built_in_classes
built_plain = refl

both_true : (a b : Bool) → (a && b) ≡ true → (a ≡ true) × (b ≡ true)
both_true true b e = (refl, e)
both_true false b e = absurd (true≢false (sym e))

super_told : (o : Option ℕ) → is_fine o ≡ true → SuperFine o
super_told None e = tt
super_told (Some a) e = not_grows (grows a) e

fine_rows : (rows : List ClassRow) → all_plain rows ≡ true → AllFine (map built_in_names rows)
fine_rows [] e = tt
fine_rows (r ∷ rows) e =
    let h = both_true (is_fine r.superclass) (not r.in_file && all_plain rows) e in
    let i = both_true (not r.in_file) (all_plain rows) h.1 in
    (super_told r.superclass h.0, fine_rows rows i.1)

owned_rows : (rows : List ClassRow) → AllOwned (map built_in_names rows)
owned_rows [] = tt
owned_rows (r ∷ rows) = (inl refl, owned_rows rows)

pub names_extended : (names : List Text) (units : List NamedUnit) → Extends units → Extended (names_of names units).classes
unfolding names_of
names_extended names units e = units_extended units (record { names = names; classes = built; shared = [] }) e record { extra = []; begins = sym (append-nil built); fine = fine_rows built_in_class_rows built_plain; owned = owned_rows built_in_class_rows }

-- ---- what the classes of a program are

fine_at : (cs : List ClassNames) (c a : ℕ) → AllFine cs → (get_or (map class_row cs) c none_class).superclass ≡ Some a → grows a ≡ false
fine_at [] c a h e = let none : ⊥ = grind (arith, e) in absurd none
fine_at (x ∷ cs) zero a h e = subst SuperFine e h.0
fine_at (x ∷ cs) (suc c) a h e = fine_at cs c a h.1 e

pub owned_at : (cs : List ClassNames) (c : ℕ) → AllOwned cs → ((get_or cs c no_names).instance_names ≡ []) ⊎ ((get_or (map class_row cs) c none_class).in_file ≡ true)
owned_at [] c h = inl refl
owned_at (x ∷ cs) zero h = h.0
owned_at (x ∷ cs) (suc c) h = owned_at cs c h.1

-- a class of the file stands behind the built-in ones
late_at : (rows : List ClassRow) (ys : List ClassNames) (c : ℕ) → all_plain rows ≡ true → (get_or (map class_row (map built_in_names rows ++ ys)) c none_class).in_file ≡ true → length rows ≤ c
late_at [] ys c h e = omega arith
late_at (r ∷ rows) ys zero h e =
    let i = both_true (not r.in_file) (all_plain rows) (both_true (is_fine r.superclass) (not r.in_file && all_plain rows) h).1 in
    let none : r.in_file ≡ false = not_grows r.in_file i.0 in
    absurd (true≢false (sym e ∙ none))
late_at (r ∷ rows) ys (suc c) h e =
    let i = both_true (not r.in_file) (all_plain rows) (both_true (is_fine r.superclass) (not r.in_file && all_plain rows) h).1 in
    let l = late_at rows ys c i.1 e in
    omega (arith, l)

rows_size : length built_in_class_rows ≡ 30
unfolding built_in_class_rows built_in_classes
rows_size = refl

module _ (names : List Text) (units : List NamedUnit) (limits : RunLimits) (e : Extends units) where
  abbrev p : Program
  p = program_of names units limits

  abbrev X : Names
  X = names_of names units

  abbrev extended : Extended (names_of names units).classes
  extended = names_extended names units e

  pub declared_late : (class : ℕ) → (class_at (program_of names units limits) class).in_file ≡ true → 29 < class
  unfolding program_of class_at
  declared_late class f =
      let g : (get_or (map class_row (map built_in_names built_in_class_rows ++ extended.extra)) class none_class).in_file ≡ true = subst (λ cs. (get_or (map class_row cs) class none_class).in_file ≡ true) extended.begins f in
      let l = late_at built_in_class_rows extended.extra class built_plain g in
      omega (arith, l, rows_size)

  superclass_fine : (c a : ℕ) → (class_at (program_of names units limits) c).superclass ≡ Some a → grows a ≡ false
  unfolding program_of class_at
  superclass_fine c a f = fine_at X.classes c a extended.fine f

  -- the classes above a class take no elements
  abbrev above_by : ℕ → Option ℕ → List ℕ
  above_by n o = elim o [ None ↦ [] | Some above ↦ some_superclasses p n above ]

  above_fail : (n c : ℕ) → FailsAll (λ k. grows k) (above_by n (class_at p c).superclass)
  above_fail zero c = go (class_at p c).superclass
    where
      go : (o : Option ℕ) → FailsAll (λ k. grows k) (above_by zero o)
      go None = tt
      go (Some a) = tt
  above_fail (suc n) c = go (class_at p c).superclass refl (λ a. above_fail n a)
    where
      go : (o : Option ℕ) → (class_at p c).superclass ≡ o → ((a : ℕ) → FailsAll (λ k. grows k) (above_by n (class_at p a).superclass)) → FailsAll (λ k. grows k) (above_by (suc n) o)
      go None f on = tt
      go (Some a) f on = (superclass_fine c a f, on a)

  holds_not : (xs : List ℕ) (a : ℕ) → grows a ≡ true → FailsAll (λ k. grows k) xs → holds xs a ≡ false
  holds_not [] a g f = refl
  holds_not (x ∷ xs) a g f = go (nat_eq x a) refl (holds_not xs a g f.1)
    where
      go : (b : Bool) → nat_eq x a ≡ b → holds xs a ≡ false → elim b [ true ↦ true | false ↦ holds xs a ] ≡ false
      go true h i = absurd (true≢false (sym g ∙ ap grows (sym (eqb-true x a h)) ∙ f.0))
      go false h i = i

  pub nothing_under : (class above : ℕ) → grows above ≡ true → holds (superclasses (program_of names units limits) class) above ≡ true → class ≡ above
  unfolding superclasses
  nothing_under class above g h = go (nat_eq class above) refl h
    where
      go : (b : Bool) → nat_eq class above ≡ b → elim b [ true ↦ true | false ↦ holds (above_by class (class_at p class).superclass) above ] ≡ true → class ≡ above
      go true f i = eqb-true class above f
      go false f i = absurd (true≢false (sym i ∙ holds_not (above_by class (class_at p class).superclass) above g (above_fail class class)))

  superclass_at : (c : ℕ) (o : Option ℕ) → (get_or (map class_row (built ++ extended.extra)) c none_class).superclass ≡ o → (class_at (program_of names units limits) c).superclass ≡ o
  unfolding program_of class_at
  superclass_at c o f = ap (λ cs. (get_or (map class_row cs) c none_class).superclass) extended.begins ∙ f

  object_super : (class_at (program_of names units limits) 0).superclass ≡ None
  unfolding built_in_class_rows built_in_classes
  object_super = superclass_at 0 None refl

  collection_super : (class_at (program_of names units limits) 8).superclass ≡ Some 0
  unfolding built_in_class_rows built_in_classes
  collection_super = superclass_at 8 (Some 0) refl

  dictionary_super : (class_at (program_of names units limits) 15).superclass ≡ Some 8
  unfolding built_in_class_rows built_in_classes
  dictionary_super = superclass_at 15 (Some 8) refl

  interval_super : (class_at (program_of names units limits) 16).superclass ≡ Some 8
  unfolding built_in_class_rows built_in_classes
  interval_super = superclass_at 16 (Some 8) refl

  collections_above : (n : ℕ) → some_superclasses p (suc (suc n)) 8 ≡ 8 ∷ 0 ∷ []
  collections_above n = ap (λ o. 8 ∷ above_by (suc n) o) collection_super ∙ ap (λ o. 8 ∷ 0 ∷ above_by n o) object_super

  pub above_dictionary : superclasses (program_of names units limits) dictionary_class ≡ dictionary_class ∷ collection_class ∷ object_class ∷ []
  unfolding superclasses
  above_dictionary = ap (λ o. 15 ∷ above_by 15 o) dictionary_super ∙ ap (λ xs. 15 ∷ xs) (collections_above 13)

  pub above_interval : superclasses (program_of names units limits) interval_class ≡ interval_class ∷ collection_class ∷ object_class ∷ []
  unfolding superclasses
  above_interval = ap (λ o. 16 ∷ above_by 16 o) interval_super ∙ ap (λ xs. 16 ∷ xs) (collections_above 14)

  pub slots_owned : (class : ℕ) → ((class_names_at (names_of names units).classes class).instance_names ≡ []) ⊎ ((class_at (program_of names units limits) class).in_file ≡ true)
  unfolding program_of class_at
  slots_owned class = owned_at X.classes class extended.owned

-- ---- what names stand for

module _ (p : Program) (X : Names) (owned : (class : ℕ) → ((class_names_at X.classes class).instance_names ≡ []) ⊎ ((class_at p class).in_file ≡ true)) where
  abbrev class_value : Side → ℕ → Value
  class_value side class = elim side [ OfInstance ↦ Class class | OfClass ↦ Meta class | _ ↦ Nil ]

  -- in a body of this class
  module _ (C : Value) where
    abbrev MeantFits : Meant → Type 0
    MeantFits m = PlaceWritten p C (place_of m)

    abbrev OrNone : Option Meant → Type 0
    OrNone None = Unit {0}
    OrNone (Some m) = MeantFits m

    or_fits : (a b : Option Meant) → OrNone a → OrNone b → OrNone (or_meant a b)
    or_fits None b h i = i
    or_fits (Some m) b h i = h

    shared_fits : (o : Option ℕ) → OrNone (meant_shared o)
    shared_fits None = tt
    shared_fits (Some n) = tt

    pools_fit : (pools : List Text) (t : Text) → OrNone (in_pools X.shared pools t)
    pools_fit [] t = tt
    pools_fit (pool ∷ pools) t = or_fits (meant_shared (place_in 0 X.shared (PoolName pool t))) (in_pools X.shared pools t) (shared_fits (place_in 0 X.shared (PoolName pool t))) (pools_fit pools t)

    above_fits : (o : Option ℕ) (n : ℕ) (t : Text) → ((above : ℕ) → OrNone (in_classes X n above t)) → OrNone (elim o [ None ↦ None | Some above ↦ in_classes X n above t ])
    above_fits None n t on = tt
    above_fits (Some above) n t on = on above

    classes_fit : (n class : ℕ) (t : Text) → OrNone (in_classes X n class t)
    classes_fit zero class t = tt
    classes_fit (suc n) class t =
        or_fits (meant_shared (place_in 0 X.shared (ClassName class t))) _ (shared_fits (place_in 0 X.shared (ClassName class t)))
        (or_fits (in_pools X.shared (class_names_at X.classes class).pools t) _ (pools_fit (class_names_at X.classes class).pools t) (above_fits (class_names_at X.classes class).row.superclass n t (λ above. classes_fit n above t)))

    class_fits : (o : Option ℕ) → OrNone (meant_class o)
    class_fits None = tt
    class_fits (Some c) = tt

    outside_by : (class : ℕ) (side : Side) (t : Text) → OrNone (own_names (class_names_at X.classes class) side t) → MeantFits (meant_outside X class side t)
    unfolding meant_outside
    outside_by class side t h =
        let o = or_meant (own_names (class_names_at X.classes class) side t) (or_meant (in_classes X (suc class) class t) (or_meant (meant_class (class_in 0 X.classes t)) (meant_shared (place_in 0 X.shared (GlobalName t))))) in
        let f : OrNone o = or_fits (own_names (class_names_at X.classes class) side t) _ h
        (or_fits (in_classes X (suc class) class t) _ (classes_fit (suc class) class t) (or_fits (meant_class (class_in 0 X.classes t)) _ (class_fits (class_in 0 X.classes t)) (shared_fits (place_in 0 X.shared (GlobalName t))))) in
        go o f
      where
        go : (o : Option Meant) → OrNone o → MeantFits (or_transcript o)
        go None h = tt
        go (Some m) h = h

    from_by : (class : ℕ) (side : Side) (up : ℕ) (scopes : List (List Text)) (t : Text) → OrNone (own_names (class_names_at X.classes class) side t) → MeantFits (meant_from X class side up scopes t)
    from_by class side up [] t h = outside_by class side t h
    from_by class side up (scope ∷ scopes) t h = go (text_in 0 scope t) (from_by class side (suc up) scopes t h)
      where
        go : (o : Option ℕ) → MeantFits (meant_from X class side (suc up) scopes t) → MeantFits (elim o [ Some n ↦ At (Scoped up n) | None ↦ meant_from X class side (suc up) scopes t ])
        go None h = h
        go (Some n) h = tt

  slots_fit : (class base : ℕ) (names : List Text) (t : Text) → (names ≡ []) ⊎ ((class_at p class).in_file ≡ true) → OrNone (Class class) (meant_slot (λ n. Slot (base + n)) (text_in 0 names t))
  slots_fit class base names t (inl none) = subst (λ ts. OrNone (Class class) (meant_slot (λ n. Slot (base + n)) (text_in 0 ts t))) (sym none) tt
  slots_fit class base names t (inr e) = go (text_in 0 names t)
    where
      go : (o : Option ℕ) → OrNone (Class class) (meant_slot (λ n. Slot (base + n)) o)
      go None = tt
      go (Some n) = e

  class_slots_fit : (C : Value) (o : Option ℕ) → OrNone C (meant_slot ClassSlot o)
  class_slots_fit C None = tt
  class_slots_fit C (Some n) = tt

  own_fits : (class : ℕ) (side : Side) (t : Text) → OrNone (class_value side class) (own_names (class_names_at X.classes class) side t)
  own_fits class OfInstance t = slots_fit class (class_names_at X.classes class).base (class_names_at X.classes class).instance_names t (owned class)
  own_fits class OfClass t = class_slots_fit (Meta class) (text_in 0 (class_names_at X.classes class).class_instance_names t)
  own_fits class OfMeta t = class_slots_fit Nil (text_in 0 (class_names_at X.classes class).class_instance_names t)

  pub names_fit : (class : ℕ) (side : Side) (scopes : List (List Text)) (t : Text) → PlaceWritten p (class_value side class) (place_of (meant X class side scopes t))
  unfolding meant
  names_fit class side scopes t = from_by (class_value side class) class side 0 scopes t (own_fits class side t)
