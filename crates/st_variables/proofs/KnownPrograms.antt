-- The program that the units of a file are knows its variables, where each name that is assigned to stands for one.
use Rattle.std.proofs.Common.{◌≡◌, ℕ, zero, suc, ◌+◌, ◌<◌, ◌≤◌, inl, inr, List, [], ◌∷◌, ◌++◌, map, length, get_or, append_assoc, Option, Some, None, Bool, true, false, refl, sym, ap, ◌∙◌, subst, arith, true≢false}
use Rattle.std.proofs.lemmas.Bool.Decides.{leb_tells}
use Rattle.object_heap.specs.declared.value.Value.{Value}
use Rattle.object_heap.specs.declared.value.Value.TheVariants.{Class, Meta}
use Rattle.object_heap.specs.Store.{Object as HeapObject}
use Rattle.st_base.specs.Troubles.{trouble_texts}
use Rattle.st_code.specs.Texts.{Text, same_text}
use Rattle.st_code.specs.Literals.{literal_string, trouble_literals}
use Rattle.st_code.specs.Program.{Program, Scoped, Slot, ClassSlot, Side, OfInstance, OfClass, Kind, InMethod, InInitializer, MethodRow, Initializer, Body as BodyRow, NoIndexes, ClassRow, class_at}
use Rattle.st_code.specs.Named.{NamedBody, NamedUnit, ClassUnit, GlobalUnit, PoolVariableUnit, InitializerUnit, PoolInitializerUnit, ProgramUnit, MethodUnit, ClassMethodUnit}
use Rattle.st_code.specs.Resolved.{SharedName, GlobalName, PoolName, ClassName, same_shared, place_in, ClassNames, Names, class_names_at, class_in, text_in, Meant, At, or_meant, meant_shared, in_pools, in_classes, meant_class, own_names, meant_slot, or_transcript, meant_outside, meant_from, meant, body_made}
use Rattle.st_code.specs.Definitions.{RunLimits, Defined, nothing_defined, names_of, context, class_row, body_in, with_body, initialized, defined_unit, defined_units, or_zero, program_of}
use Rattle.st_code.specs.BuiltIns.{undefined_object_class, exception_set_class}
use Rattle.st_code.specs.Lookup.{some_superclasses, superclasses}
use Rattle.st_rules.proofs.SoundTrees.{Sits, sits_left, sits_from}
use Rattle.st_rules.proofs.SoundProgram.{units_grow}
use Rattle.st_variables.specs.Known.{Among, Under, InFile, AllFull, SlotKnown, ClassSlotKnown, is_open}
use Rattle.st_variables.specs.Assigned.{BodyAssigns, InitializerAssigns, UnitAssigns, UnitsAssign, ProgramsKnowVariables}
use Rattle.st_variables.proofs.KnownCode.{BodiesKnown, shared_known, own_known}
use Rattle.st_variables.proofs.KnownBodies.{MeantKnown, side_value, AllLow, low_append, bodies_append, statements_known}
use Rattle.st_variables.proofs.KnownClasses.{Above, Rows, open_from, rows_known}

module _ (p : Program) (X : Names) (rows : Rows X.classes (length X.shared)) (row_at : (k : ℕ) → class_at p k ≡ (class_names_at X.classes k).row) (count : p.variables ≡ length X.shared) where
  abbrev N : ℕ → ClassNames
  N k = class_names_at X.classes k

  -- ---- a class, and one above it

  record Up (k c : ℕ) : Type 0 where
    pub open' : is_open k ≡ true → is_open c ≡ true
    pub file : (N c).row.in_file ≡ true → (N k).row.in_file ≡ true
    pub slots : (N c).row.slots ≤ (N k).row.slots
    pub variables : length (N c).class_instance_names ≤ length (N k).class_instance_names

  up_itself : (k : ℕ) → Up k k
  up_itself k = record { open' = λ e. e; file = λ e. e; slots = omega arith; variables = omega arith }

  up_on : (k a c : ℕ) → Above (N k) (N a) k a → Up a c → Up k c
  up_on k a c b u =
      let s = b.slots in
      let v = b.variables in
      let t = u.slots in
      let w = u.variables in
      record { open' = λ e. u.open' (b.open' e); file = λ e. b.file (u.file e); slots = omega (arith, s, t); variables = omega (arith, v, w) }

  up : (n k c : ℕ) → Among (some_superclasses p n k) c → Up k c
  up zero k c h = absurd h
  up (suc n) k c (inl e) = subst (λ d. Up k d) e (up_itself k)
  up (suc n) k c (inr y) = go (class_at p k).superclass refl (λ a i. up n a c i) y
    where
      go : (o : Option ℕ) → (class_at p k).superclass ≡ o → ((a : ℕ) → Among (some_superclasses p n a) c → Up a c) → Among (elim o [ None ↦ [] | Some above ↦ some_superclasses p n above ]) c → Up k c
      go None e on h = absurd h
      go (Some a) e on h = up_on k a c (rows.above k a (sym (ap (λ (r : ClassRow). r.superclass) (row_at k)) ∙ e)) (on a h)

  under_up : (k c : ℕ) → Under p k c → Up k c
  unfolding superclasses
  under_up k c u = up (suc k) k c u

  -- ---- self's variables

  file_is : (k : ℕ) → (class_at p k).in_file ≡ (N k).row.in_file
  file_is k = ap (λ (r : ClassRow). r.in_file) (row_at k)

  named_file : (c n : ℕ) → n < length (N c).instance_names → (N c).row.in_file ≡ true
  named_file c n l = go (N c).row.in_file refl
    where
      go : (b : Bool) → (N c).row.in_file ≡ b → (N c).row.in_file ≡ true
      go true e = e
      go false e = let z : length (N c).instance_names ≡ 0 = ap length (rows.plain c e).0 in let none : ⊥ = omega (arith, l, z) in absurd none

  slot_known : (c n : ℕ) → n < length (N c).instance_names → SlotKnown p (Class c) ((N c).base + n)
  slot_known c n l = (
    c,
    refl,
    λ k u.
        let y = under_up k c u in
        let s = rows.sized c in
        let q : (class_at p k).slots ≡ (N k).row.slots = ap (λ (r : ClassRow). r.slots) (row_at k) in
        let t = y.slots in
        (file_is k ∙ y.file (named_file c n l), omega (arith, l, s, q, t)),
  )

  class_slot_known : (c n : ℕ) → n < length (N c).class_instance_names → ClassSlotKnown p (Meta c) n
  class_slot_known c n l = (
    c,
    refl,
    λ k u.
        let y = under_up k c u in
        let s = rows.placed k in
        let q : (class_at p k).class_slots ≡ (N k).row.class_slots = ap (λ (r : ClassRow). r.class_slots) (row_at k) in
        let t = y.variables in
        omega (arith, l, s, q, t, count),
  )

  -- ---- what names stand for

  abbrev BelowIt : ℕ → Option ℕ → Type 0
  BelowIt n None = Unit {0}
  BelowIt n (Some i) = i < n

  place_below : (n : ℕ) (ys : List SharedName) (x : SharedName) → BelowIt (n + length ys) (place_in n ys x)
  place_below n [] x = tt
  place_below n (y ∷ ys) x = go (same_shared y x) (place_below (suc n) ys x)
    where
      go : (b : Bool) → BelowIt (suc n + length ys) (place_in (suc n) ys x) → BelowIt (n + length (y ∷ ys)) (elim b [ true ↦ Some n | false ↦ place_in (suc n) ys x ])
      go true h = omega arith
      go false h = let e : suc n + length ys ≡ n + length (y ∷ ys) = omega arith in subst (λ m. BelowIt m (place_in (suc n) ys x)) e h

  text_below : (n : ℕ) (us : List Text) (t : Text) → BelowIt (n + length us) (text_in n us t)
  text_below n [] t = tt
  text_below n (u ∷ us) t = go (same_text u t) (text_below (suc n) us t)
    where
      go : (b : Bool) → BelowIt (suc n + length us) (text_in (suc n) us t) → BelowIt (n + length (u ∷ us)) (elim b [ true ↦ Some n | false ↦ text_in (suc n) us t ])
      go true h = omega arith
      go false h = let e : suc n + length us ≡ n + length (u ∷ us) = omega arith in subst (λ m. BelowIt m (text_in (suc n) us t)) e h

  module _ (D : Value) where
    abbrev OrKnown : Option Meant → Type 0
    OrKnown None = Unit {0}
    OrKnown (Some m) = MeantKnown p D m

    or_known : (a b : Option Meant) → OrKnown a → OrKnown b → OrKnown (or_meant a b)
    or_known None b h i = i
    or_known (Some m) b h i = h

    shared_named : (x : SharedName) → OrKnown (meant_shared (place_in 0 X.shared x))
    shared_named x = go (place_in 0 X.shared x) (place_below 0 X.shared x)
      where
        go : (o : Option ℕ) → BelowIt (0 + length X.shared) o → OrKnown (meant_shared o)
        go None h = tt
        go (Some i) h = omega (arith, h, count)

    pools_known : (pools : List Text) (t : Text) → OrKnown (in_pools X.shared pools t)
    pools_known [] t = tt
    pools_known (pool ∷ pools) t = or_known (meant_shared (place_in 0 X.shared (PoolName pool t))) (in_pools X.shared pools t) (shared_named (PoolName pool t)) (pools_known pools t)

    above_known : (o : Option ℕ) (n : ℕ) (t : Text) → ((above : ℕ) → OrKnown (in_classes X n above t)) → OrKnown (elim o [ None ↦ None | Some above ↦ in_classes X n above t ])
    above_known None n t on = tt
    above_known (Some above) n t on = on above

    classes_known : (n class : ℕ) (t : Text) → OrKnown (in_classes X n class t)
    classes_known zero class t = tt
    classes_known (suc n) class t =
        or_known (meant_shared (place_in 0 X.shared (ClassName class t))) _ (shared_named (ClassName class t))
        (or_known (in_pools X.shared (N class).pools t) _ (pools_known (N class).pools t) (above_known (N class).row.superclass n t (λ above. classes_known n above t)))

    class_meant : (o : Option ℕ) → OrKnown (meant_class o)
    class_meant None = tt
    class_meant (Some c) = tt

    transcript_known : (o : Option Meant) → OrKnown o → MeantKnown p D (or_transcript o)
    transcript_known None h = tt
    transcript_known (Some m) h = h

    module _ (class : ℕ) (side : Side) (own : (t : Text) → OrKnown (own_names (N class) side t)) where
      outside_known : (t : Text) → MeantKnown p D (meant_outside X class side t)
      unfolding meant_outside
      outside_known t =
          transcript_known _ (or_known (own_names (N class) side t) _ (own t)
          (or_known (in_classes X (suc class) class t) _ (classes_known (suc class) class t)
          (or_known (meant_class (class_in 0 X.classes t)) _ (class_meant (class_in 0 X.classes t)) (shared_named (GlobalName t)))))

      from_known : (up : ℕ) (scopes : List (List Text)) (t : Text) → MeantKnown p D (meant_from X class side up scopes t)
      from_known up [] t = outside_known t
      from_known up (scope ∷ scopes) t = go (text_in 0 scope t) (from_known (suc up) scopes t)
        where
          go : (o : Option ℕ) → MeantKnown p D (meant_from X class side (suc up) scopes t) → MeantKnown p D (elim o [ Some n ↦ At (Scoped up n) | None ↦ meant_from X class side (suc up) scopes t ])
          go None h = h
          go (Some n) h = tt

      meant_known : (scopes : List (List Text)) (t : Text) → MeantKnown p D (meant X class side scopes t)
      unfolding meant
      meant_known scopes t = from_known 0 scopes t

  own_instance : (class : ℕ) (t : Text) → OrKnown (Class class) (own_names (N class) OfInstance t)
  own_instance class t = go (text_in 0 (N class).instance_names t) (text_below 0 (N class).instance_names t)
    where
      go : (o : Option ℕ) → BelowIt (0 + length (N class).instance_names) o → OrKnown (Class class) (meant_slot (λ n. Slot ((N class).base + n)) o)
      go None h = tt
      go (Some n) h = slot_known class n (omega (arith, h))

  own_class : (class : ℕ) (t : Text) → OrKnown (Meta class) (own_names (N class) OfClass t)
  own_class class t = go (text_in 0 (N class).class_instance_names t) (text_below 0 (N class).class_instance_names t)
    where
      go : (o : Option ℕ) → BelowIt (0 + length (N class).class_instance_names) o → OrKnown (Meta class) (meant_slot ClassSlot o)
      go None h = tt
      go (Some n) h = class_slot_known class n (omega (arith, h))

  abbrev Reads : ℕ → Side → Type 0
  Reads class side = (scopes : List (List Text)) (t : Text) → MeantKnown p (side_value side class) (meant X class side scopes t)

  reads_instance : (class : ℕ) → Reads class OfInstance
  reads_instance class = meant_known (Class class) class OfInstance (own_instance class)

  reads_class : (class : ℕ) → Reads class OfClass
  reads_class class = meant_known (Meta class) class OfClass (own_class class)

  -- ---- units

  record Held (d : Defined) : Type 0 where
    pub bodies : BodiesKnown p d.bodies
    pub objects : AllLow d.objects

  body_held : (class : ℕ) (side : Side) → Reads class side → (kind : Kind) (parameters : List Text) (b : NamedBody) (d : Defined) (methods : List MethodRow) (initializers : List Initializer) (more : List BodyRow) → p.bodies ≡ (with_body X class side kind parameters b d methods initializers).bodies ++ more → BodyAssigns X class side parameters b → Held d → Held (with_body X class side kind parameters b d methods initializers)
  body_held class side reads kind parameters b d methods initializers more e a h =
      let made = body_in X class side kind parameters b d in
      let new = body_made kind (context X class side (length d.bodies)) None parameters (parameters ++ b.temporaries) b.statements made in
      let s : Sits p (length d.bodies) new = sits_left p (length d.bodies) new more (sits_from p d.bodies (new ++ more) (e ∙ append_assoc d.bodies new more)) in
      let g = statements_known p X class side reads (length d.bodies) ((parameters ++ b.temporaries) ∷ []) (record { bodies = suc (length d.bodies); objects = length d.objects }) b.statements a s.1 in
      record { bodies = bodies_append p d.bodies new h.bodies (g.item, g.bodies); objects = low_append d.objects made.objects h.objects g.objects }

  initialized_held : (o : Option ℕ) (target : Text) (b : NamedBody) (d : Defined) (more : List BodyRow) → p.bodies ≡ (initialized X o target b d).bodies ++ more → InitializerAssigns X o b → Held d → Held (initialized X o target b d)
  initialized_held (Some class) target b d more e a h = body_held class OfClass (reads_class class) InInitializer [] b d [] _ more e a h
  initialized_held None target b d more e a h = body_held undefined_object_class OfInstance (reads_instance undefined_object_class) InInitializer [] b d [] _ more e a h

  unit_held : (u : NamedUnit) (d : Defined) (more : List BodyRow) → p.bodies ≡ (defined_unit X u d).bodies ++ more → UnitAssigns X u → Held d → Held (defined_unit X u d)
  unit_held (InitializerUnit target b) d more e a h = initialized_held (class_in 0 X.classes target) target b d more e a h
  unit_held (PoolInitializerUnit pool name b) d more e a h = body_held undefined_object_class OfInstance (reads_instance undefined_object_class) InInitializer [] b d [] _ more e a h
  unit_held (ProgramUnit b) d more e a h = body_held undefined_object_class OfInstance (reads_instance undefined_object_class) InInitializer [] b d [] _ more e a h
  unit_held (MethodUnit class m) d more e a h = let c = or_zero (class_in 0 X.classes class) in body_held c OfInstance (reads_instance c) InMethod m.parameters m.body d _ [] more e a h
  unit_held (ClassMethodUnit class m) d more e a h = let c = or_zero (class_in 0 X.classes class) in body_held c OfClass (reads_class c) InMethod m.parameters m.body d _ [] more e a h
  unit_held (ClassUnit c) d more e a h = h
  unit_held (GlobalUnit name) d more e a h = h
  unit_held (PoolVariableUnit pool name) d more e a h = h

  units_held : (units : List NamedUnit) (d : Defined) → p.bodies ≡ (defined_units X units d).bodies → UnitsAssign X units → Held d → Held (defined_units X units d)
  units_held [] d e a h = h
  units_held (u ∷ units) d e a h =
      let g = units_grow X units (defined_unit X u d) in
      units_held units (defined_unit X u d) e a.1 (unit_held u d g.extra (e ∙ g.is) a.0 h)

  -- ---- what the program knows

  built_in : (class : ℕ) → class ≤ exception_set_class → (class_at p class).in_file ≡ false
  built_in class l = file_is class ∙ rows.low class l

  low_full : (os : List HeapObject) → AllLow os → AllFull p os
  low_full [] h = tt
  low_full (o ∷ os) h = ((λ e. let none : ⊥ = true≢false (sym e ∙ built_in o.class h.0) in absurd none), low_full os h.1)

  over : (k c : ℕ) → InFile p k → Under p k c → is_open c ≡ true
  over k c f u = elim (leb_tells k exception_set_class) [
    | inl l ↦ (let none : ⊥ = true≢false (sym f ∙ built_in k l.1) in absurd none)
    | inr l ↦ (under_up k c u).open' (open_from k (omega (arith, l.1)))
  ]

texts_low : (texts : List Text) → AllLow (map literal_string texts)
texts_low [] = tt
texts_low (t ∷ texts) = (omega arith, texts_low texts)

troubles_low : AllLow trouble_literals
unfolding trouble_literals
troubles_low = texts_low trouble_texts

-- what a number that names no class stands for
abbrev none_class : ClassRow
none_class = record { name = []; superclass = None; in_file = false; indexed = NoIndexes; slots = 0; class_slots = 0 }

map_at : (cs : List ClassNames) (k : ℕ) → get_or (map class_row cs) k none_class ≡ (class_names_at cs k).row
map_at [] k = refl
map_at (c ∷ cs) zero = refl
map_at (c ∷ cs) (suc k) = map_at cs k

class_is : (names : List Text) (units : List NamedUnit) (limits : RunLimits) (k : ℕ) → class_at (program_of names units limits) k ≡ (class_names_at (names_of names units).classes k).row
unfolding program_of class_at
class_is names units limits k = map_at (names_of names units).classes k

pub programs_know_variables : ProgramsKnowVariables
unfolding program_of
programs_know_variables names units limits given =
    let p = program_of names units limits in
    let x = names_of names units in
    let rows = rows_known names units given.superclasses in
    let row_at = class_is names units limits in
    let h = units_held p x rows row_at refl units nothing_defined refl given.places (record { bodies = tt; objects = tt }) in
    record {
      shared = shared_known p h.bodies;
      own = own_known p h.bodies;
      literals = low_full p x rows row_at refl ((defined_units x units nothing_defined).objects ++ trouble_literals) (low_append (defined_units x units nothing_defined).objects trouble_literals h.objects troubles_low);
      built_in = built_in p x rows row_at refl;
      over = over p x rows row_at refl;
    }
