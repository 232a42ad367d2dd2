-- The program that the units of a file are has its classes in order, and its methods and initializers at their levels.
use Rattle.std.proofs.Common.{◌≡◌, ℕ, zero, suc, ◌+◌, ◌<◌, ◌⊎◌, inl, inr, List, [], ◌∷◌, ◌++◌, map, length, get_or, append_assoc, append-nil, Option, Some, None, Bool, true, false, ◌&&◌, refl, sym, ap, ◌∙◌, subst, arith, nat_lt, ltb-true, true≢false}
use Rattle.std.proofs.lemmas.List.{length-append}
use Rattle.object_heap.specs.declared.value.Value.TheVariants.{Nil, Class, Meta}
use Rattle.object_heap.specs.Store.{Store}
use Rattle.st_code.specs.Texts.{Text, same_text}
use Rattle.st_code.specs.Program.{Kind, InMethod, InInitializer, Body as BodyRow, Side, OfInstance, OfClass, OfMeta, MethodRow, Initializer, NoIndexes, ClassRow, Program, body_at, class_at}
use Rattle.st_code.specs.Named.{NamedBody, NamedUnit, ClassUnit, GlobalUnit, PoolVariableUnit, InitializerUnit, PoolInitializerUnit, ProgramUnit, MethodUnit, ClassMethodUnit}
use Rattle.st_code.specs.Resolved.{body_made, Names, ClassNames, class_in, class_names_at}
use Rattle.st_code.specs.Definitions.{RunLimits, context, built_in_names, class_row, class_over, declared_unit, declared_units, names_of, or_zero, Defined, nothing_defined, body_in, with_body, initialized, defined_unit, defined_units, program_of}
use Rattle.st_code.specs.BuiltIns.{built_in_classes, built_in_class_rows, undefined_object_class}
use Rattle.st_code.specs.Lookup.{level, level_of, walk, class_level}
use Rattle.st_rules.specs.Selves.{OnWalk, IsOf, MethodsSit, SelvesSit, ProgramsKnowClasses}
use Rattle.st_rules.proofs.SoundTrees.{Sits, sits_left, sits_from}
use Rattle.st_rules.proofs.SoundProgram.{units_grow}
use Rattle.st_rules.proofs.KnownWalks.{ClassTree, behind_known, walk_begins}

-- ---- superclasses by number

abbrev BelowIt : ℕ → Option ℕ → Type 0
BelowIt k None = Unit {0}
BelowIt k (Some a) = a < k

abbrev AllFall : ℕ → List ClassNames → Type 0
AllFall k [] = Unit {0}
AllFall k (c ∷ cs) = BelowIt k c.row.superclass × AllFall (suc k) cs

abbrev is_below : ℕ → Option ℕ → Bool
is_below k None = true
is_below k (Some a) = nat_lt a k

abbrev all_below : ℕ → List ClassNames → Bool
all_below k [] = true
all_below k (c ∷ cs) = is_below k c.row.superclass && all_below (suc k) cs

both_true : (a b : Bool) → (a && b) ≡ true → (a ≡ true) × (b ≡ true)
both_true true b e = (refl, e)
both_true false b e = let none : ⊥ = true≢false (sym e) in absurd none

below_told : (k : ℕ) (o : Option ℕ) → is_below k o ≡ true → BelowIt k o
below_told k None e = tt
below_told k (Some a) e = ltb-true a k e

all_told : (k : ℕ) (cs : List ClassNames) → all_below k cs ≡ true → AllFall k cs
all_told k [] e = tt
all_told k (c ∷ cs) e = let h = both_true (is_below k c.row.superclass) (all_below (suc k) cs) e in (below_told k c.row.superclass h.0, all_told (suc k) cs h.1)

abbrev built : List ClassNames
built = map built_in_names built_in_class_rows

built_fall : all_below 0 built ≡ true
unfolding built_in_class_rows built_in_classes
built_fall = refl

fall_append : (k : ℕ) (xs : List ClassNames) (c : ClassNames) → AllFall k xs → BelowIt (k + length xs) c.row.superclass → AllFall k (xs ++ c ∷ [])
fall_append k [] c h b = let e : k + 0 ≡ k = omega arith in (subst (λ n. BelowIt n c.row.superclass) e b, tt)
fall_append k (x ∷ xs) c h b = let e : k + length (x ∷ xs) ≡ suc k + length xs = omega arith in (h.0, fall_append (suc k) xs c h.1 (subst (λ n. BelowIt n c.row.superclass) e b))

-- the classes begin with those that are built in, and each superclass has a smaller number
pub record Ordered (cs : List ClassNames) : Type 0 where
  pub extra : List ClassNames
  pub begins : cs ≡ built ++ extra
  pub fall : AllFall 0 cs

found_below : (n : ℕ) (cs : List ClassNames) (t : Text) → BelowIt (n + length cs) (class_in n cs t)
found_below n [] t = tt
found_below n (c ∷ cs) t = go (same_text c.row.name t) (found_below (suc n) cs t)
  where
    go : (b : Bool) → BelowIt (suc n + length cs) (class_in (suc n) cs t) → BelowIt (n + length (c ∷ cs)) (elim b [ true ↦ Some n | false ↦ class_in (suc n) cs t ])
    go true h = omega arith
    go false h = let e : suc n + length cs ≡ n + length (c ∷ cs) = omega arith in subst (λ m. BelowIt m (class_in (suc n) cs t)) e h

or_zero_below : (n : ℕ) (o : Option ℕ) → 0 < n → BelowIt n o → or_zero o < n
or_zero_below n None l h = l
or_zero_below n (Some a) l h = h

built_some : 0 < length built
unfolding built_in_class_rows built_in_classes
built_some = omega arith

unit_ordered : (x : Names) (u : NamedUnit) → Ordered x.classes → Ordered (declared_unit x u).classes
unit_ordered x (ClassUnit c) h =
    let superclass = or_zero (class_in 0 x.classes c.superclass) in
    let new = class_over c superclass (class_names_at x.classes superclass) (length x.shared) in
    let size : length x.classes ≡ length built + length h.extra = ap length h.begins ∙ length-append built h.extra in
    let below : superclass < 0 + length x.classes = or_zero_below (0 + length x.classes) (class_in 0 x.classes c.superclass) (omega (arith, size, built_some)) (found_below 0 x.classes c.superclass) in
    record { extra = h.extra ++ new ∷ []; begins = ap (λ cs. cs ++ new ∷ []) h.begins ∙ append_assoc built h.extra (new ∷ []); fall = fall_append 0 x.classes new h.fall below }
unit_ordered x (GlobalUnit name) h = h
unit_ordered x (PoolVariableUnit pool name) h = h
unit_ordered x (InitializerUnit target b) h = h
unit_ordered x (PoolInitializerUnit pool name b) h = h
unit_ordered x (ProgramUnit b) h = h
unit_ordered x (MethodUnit class m) h = h
unit_ordered x (ClassMethodUnit class m) h = h

units_ordered : (units : List NamedUnit) (x : Names) → Ordered x.classes → Ordered (declared_units x units).classes
units_ordered [] x h = h
units_ordered (u ∷ units) x h = units_ordered units (declared_unit x u) (unit_ordered x u h)

names_ordered : (names : List Text) (units : List NamedUnit) → Ordered (names_of names units).classes
unfolding names_of
names_ordered names units = units_ordered units (record { names = names; classes = built; shared = [] }) (record { extra = []; begins = sym (append-nil built); fall = all_told 0 built built_fall })

-- what a number that names no class stands for
abbrev none_class : ClassRow
none_class = record { name = []; superclass = None; in_file = false; indexed = NoIndexes; slots = 0; class_slots = 0 }

-- the superclass of a class in this list
fall_at : (k : ℕ) (cs : List ClassNames) (c a : ℕ) (d : ClassRow) → d.superclass ≡ None → AllFall k cs → (get_or (map class_row cs) c d).superclass ≡ Some a → a < k + c
fall_at k [] c a d n h e = let none : ⊥ = grind (arith, n, e) in absurd none
fall_at k (x ∷ cs) zero a d n h e = let b : BelowIt k (Some a) = subst (λ o. BelowIt k o) e h.0 in omega (arith, b)
fall_at k (x ∷ cs) (suc c) a d n h e = let b = fall_at (suc k) cs c a d n h.1 e in omega (arith, b)

module _ (names : List Text) (units : List NamedUnit) (limits : RunLimits) where
  abbrev p : Program
  p = program_of names units limits

  abbrev ordered : Ordered (names_of names units).classes
  ordered = names_ordered names units

  pub tree_known : ClassTree (program_of names units limits)
  unfolding program_of class_at built_in_class_rows built_in_classes
  tree_known =
      record {
        falls = λ c a e. let l = fall_at 0 (names_of names units).classes c a none_class refl ordered.fall e in omega (arith, l);
        objects = ap (λ (cs : List ClassNames). (get_or (map class_row cs) 0 none_class).superclass) ordered.begins;
        classes = ap (λ (cs : List ClassNames). (get_or (map class_row cs) 20 none_class).superclass) ordered.begins;
        metaclasses = ap (λ (cs : List ClassNames). (get_or (map class_row cs) 21 none_class).superclass) ordered.begins;
      }

-- ---- methods and initializers, unit by unit

module _ (p : Program) (tree : ClassTree p) where
  pub record Placed (d : Defined) : Type 0 where
    pub methods : MethodsSit p d.methods
    pub selves : SelvesSit p d.initializers

  methods_more : (xs ys : List MethodRow) → MethodsSit p xs → MethodsSit p ys → MethodsSit p (xs ++ ys)
  methods_more [] ys h i = i
  methods_more (m ∷ xs) ys h i = (h.0, methods_more xs ys h.1 i)

  selves_more : (xs ys : List Initializer) → SelvesSit p xs → SelvesSit p ys → SelvesSit p (xs ++ ys)
  selves_more [] ys h i = i
  selves_more (x ∷ xs) ys h i = (h.0, selves_more xs ys h.1 i)

  -- the level of a body that is made
  body_level : (side : Side) (class k : ℕ) (b : BodyRow) → body_at p k ≡ b → b.class ≡ elim side [ OfInstance ↦ Class class | OfClass ↦ Meta class | _ ↦ Nil ] → (side ≡ OfInstance) ⊎ (side ≡ OfClass) → class_level (body_at p k).class ≡ level side class
  body_level OfInstance class k b e c w = ap (λ (y : BodyRow). class_level y.class) e ∙ ap class_level c
  body_level OfClass class k b e c w = ap (λ (y : BodyRow). class_level y.class) e ∙ ap class_level c
  body_level OfMeta class k b e c (inl w) = let none : ⊥ = grind (arith, w) in absurd none
  body_level OfMeta class k b e c (inr w) = let none : ⊥ = grind (arith, w) in absurd none

  -- the level of a body that stands in no other, once it is made
  made_level : (X : Names) (class : ℕ) (side : Side) (kind : Kind) (parameters : List Text) (b : NamedBody) (d : Defined) (methods : List MethodRow) (initializers : List Initializer) (more : List BodyRow) → (side ≡ OfInstance) ⊎ (side ≡ OfClass) → p.bodies ≡ (with_body X class side kind parameters b d methods initializers).bodies ++ more → class_level (body_at p (length d.bodies)).class ≡ level side class
  made_level X class side kind parameters b d methods initializers more w e =
      let new = body_made kind (context X class side (length d.bodies)) None parameters (parameters ++ b.temporaries) b.statements (body_in X class side kind parameters b d) in
      let s : Sits p (length d.bodies) new = sits_left p (length d.bodies) new more (sits_from p d.bodies (new ++ more) (e ∙ append_assoc d.bodies new more)) in
      body_level side class (length d.bodies) _ s.0.1 refl w

  -- self of a class, and nil
  class_sits : (class k : ℕ) → class_level (body_at p k).class ≡ level OfClass class → (s : Store) → IsOf p s (Class class) (body_at p k).class
  unfolding level_of
  class_sits class k e s = subst (λ l. OnWalk (walk p (level OfClass class)) l) (sym e) (walk_begins p tree class).1

  nil_sits : (k : ℕ) → class_level (body_at p k).class ≡ level OfInstance undefined_object_class → (s : Store) → IsOf p s Nil (body_at p k).class
  unfolding level_of
  nil_sits k e s = subst (λ l. OnWalk (walk p (level OfInstance undefined_object_class)) l) (sym e) (walk_begins p tree undefined_object_class).0

  module _ (X : Names) where
    initialized_placed : (o : Option ℕ) (target : Text) (b : NamedBody) (d : Defined) (more : List BodyRow) → p.bodies ≡ (initialized X o target b d).bodies ++ more → Placed d → Placed (initialized X o target b d)
    initialized_placed (Some class) target b d more e h =
        let l = made_level X class OfClass InInitializer [] b d [] [] more (inr refl) e in
        record { methods = methods_more d.methods [] h.methods tt; selves = selves_more d.initializers _ h.selves (class_sits class (length d.bodies) l, tt) }
    initialized_placed None target b d more e h =
        let l = made_level X undefined_object_class OfInstance InInitializer [] b d [] [] more (inl refl) e in
        record { methods = methods_more d.methods [] h.methods tt; selves = selves_more d.initializers _ h.selves (nil_sits (length d.bodies) l, tt) }

    unit_placed : (u : NamedUnit) (d : Defined) (more : List BodyRow) → p.bodies ≡ (defined_unit X u d).bodies ++ more → Placed d → Placed (defined_unit X u d)
    unit_placed (InitializerUnit target b) d more e h = initialized_placed (class_in 0 X.classes target) target b d more e h
    unit_placed (PoolInitializerUnit pool name b) d more e h =
        let l = made_level X undefined_object_class OfInstance InInitializer [] b d [] [] more (inl refl) e in
        record { methods = methods_more d.methods [] h.methods tt; selves = selves_more d.initializers _ h.selves (nil_sits (length d.bodies) l, tt) }
    unit_placed (ProgramUnit b) d more e h =
        let l = made_level X undefined_object_class OfInstance InInitializer [] b d [] [] more (inl refl) e in
        record { methods = methods_more d.methods [] h.methods tt; selves = selves_more d.initializers _ h.selves (nil_sits (length d.bodies) l, tt) }
    unit_placed (MethodUnit class m) d more e h =
        let c = or_zero (class_in 0 X.classes class) in
        let l = made_level X c OfInstance InMethod m.parameters m.body d [] [] more (inl refl) e in
        record { methods = methods_more d.methods _ h.methods (l, tt); selves = selves_more d.initializers [] h.selves tt }
    unit_placed (ClassMethodUnit class m) d more e h =
        let c = or_zero (class_in 0 X.classes class) in
        let l = made_level X c OfClass InMethod m.parameters m.body d [] [] more (inr refl) e in
        record { methods = methods_more d.methods _ h.methods (l, tt); selves = selves_more d.initializers [] h.selves tt }
    unit_placed (ClassUnit c) d more e h = h
    unit_placed (GlobalUnit name) d more e h = h
    unit_placed (PoolVariableUnit pool name) d more e h = h

    units_placed : (units : List NamedUnit) (d : Defined) → p.bodies ≡ (defined_units X units d).bodies → Placed d → Placed (defined_units X units d)
    units_placed [] d e h = h
    units_placed (u ∷ units) d e h =
        let g = units_grow X units (defined_unit X u d) in
        units_placed units (defined_unit X u d) e (unit_placed u d g.extra (e ∙ g.is) h)

pub programs_know_classes : ProgramsKnowClasses
unfolding program_of
programs_know_classes names units limits =
    let q = program_of names units limits in
    let tree = tree_known names units limits in
    let h = units_placed q tree (names_of names units) units nothing_defined refl (record { methods = tt; selves = tt }) in
    record { methods = h.methods; selves = h.selves; behind = behind_known q tree }
