-- The program that the units of a file are has the literals and variables that it names: unit by unit.
use Rattle.std.proofs.Common.{◌≡◌, ℕ, zero, suc, ◌+◌, ◌<◌, ◌≤◌, List, [], ◌∷◌, ◌++◌, map, length, Option, Some, None, Bool, true, false, subst, arith, get_or, sym}
use Rattle.std.proofs.lemmas.List.{length-append}
use Rattle.object_heap.specs.declared.value.Value.TheVariants.{Nil, Class, Meta}
use Rattle.object_heap.specs.declared.trouble.Trouble.{Trouble}
use Rattle.st_base.specs.Troubles.{trouble_texts}
use Rattle.object_heap.specs.Troubles.{place_of as trouble_place_of}
use Rattle.object_heap.specs.Store.{Object as HeapObject}
use Rattle.st_code.specs.Texts.{Text}
use Rattle.st_code.specs.Literals.{literal_string, trouble_literals}
use Rattle.st_code.specs.Program.{Place, Scoped, Slot, ClassSlot, Shared, Side, OfInstance, OfClass, OfMeta, Kind, InMethod, InInitializer, MethodRow, Initializer}
use Rattle.st_code.specs.Named.{NamedBody, NamedUnit, ClassUnit, GlobalUnit, PoolVariableUnit, InitializerUnit, PoolInitializerUnit, ProgramUnit, MethodUnit, ClassMethodUnit}
use Rattle.st_code.specs.Resolved.{SharedName, GlobalName, PoolName, ClassName, same_shared, place_in, ClassNames, Names, class_names_at, class_in, text_in, Meant, At, or_meant, meant_shared, in_pools, in_classes, meant_class, own_names, meant_slot, or_transcript, meant_outside, meant_from, meant, place_of}
use Rattle.st_code.specs.Definitions.{RunLimits, Defined, nothing_defined, names_of, body_in, with_body, initialized, defined_unit, defined_units, or_zero, program_of}
use Rattle.st_code.specs.BuiltIns.{undefined_object_class}
use Rattle.std.proofs.lemmas.List.{length-map}
use Rattle.st_code.specs.Program.{ClassRow, NoIndexes, class_at}
use Rattle.st_rules.proofs.KnownClasses.{tree_known}
use Rattle.st_code.specs.Texts.{same_text}
use Rattle.law_values.specs.KnownNumbers.{Has, ObjectsHave, SelvesHave, KnowsNumbers}
use Rattle.law_values.proofs.ValuesThere.{objects_append}
use Rattle.law_values.proofs.TreesThere.{BodiesHave, names_literal, codes_have, class_has}
use Rattle.law_values.proofs.MadeThere.{MeantHas, bodies_append, statements_have}

module _ (C : ℕ) (low : 29 < C) where
  -- ---- classes by name

  abbrev BelowOr : ℕ → Option ℕ → Type 0
  BelowOr n None = Unit {0}
  BelowOr n (Some c) = c < n

  found_below : (n : ℕ) (cs : List ClassNames) (t : Text) → BelowOr (n + length cs) (class_in n cs t)
  found_below n [] t = tt
  found_below n (c ∷ cs) t = go (same_text c.row.name t) (found_below (suc n) cs t)
    where
      go : (b : Bool) → BelowOr (suc n + length cs) (class_in (suc n) cs t) → BelowOr (n + length (c ∷ cs)) (elim b [ true ↦ Some n | false ↦ class_in (suc n) cs t ])
      go true h = omega arith
      go false h = let e : suc n + length cs ≡ n + length (c ∷ cs) = omega arith in subst (λ m. BelowOr m (class_in (suc n) cs t)) e h

  below_more : (n m : ℕ) (o : Option ℕ) → n ≤ m → BelowOr n o → BelowOr m o
  below_more n m None l h = tt
  below_more n m (Some c) l h = omega (arith, l, h)

  class_below : (cs : List ClassNames) (t : Text) → length cs ≤ C → BelowOr C (class_in 0 cs t)
  class_below cs t l = below_more (0 + length cs) C (class_in 0 cs t) (omega (arith, l)) (found_below 0 cs t)

  or_zero_below : (o : Option ℕ) → BelowOr C o → or_zero o < C
  or_zero_below None h = omega (arith, low)
  or_zero_below (Some c) h = h

  -- ---- what names stand for

  module _ (K : ℕ) (V : Place → Type 0) (X : Names) (scoped : (up n : ℕ) → V (Scoped up n)) (slot : (n : ℕ) → V (Slot n)) (class_slot : (n : ℕ) → V (ClassSlot n)) (inside : length X.classes ≤ C) (shared : (n : ℕ) → n < length X.shared → V (Shared n)) where
    abbrev OrNone : Option Meant → Type 0
    OrNone None = Unit {0}
    OrNone (Some m) = MeantHas C low K V m

    or_has : (a b : Option Meant) → OrNone a → OrNone b → OrNone (or_meant a b)
    or_has None b h i = i
    or_has (Some m) b h i = h

    abbrev Below : ℕ → Option ℕ → Type 0
    Below n None = Unit {0}
    Below n (Some i) = i < n

    place_below : (n : ℕ) (ys : List SharedName) (x : SharedName) → Below (n + length ys) (place_in n ys x)
    place_below n [] x = tt
    place_below n (y ∷ ys) x = go (same_shared y x) (place_below (suc n) ys x)
      where
        go : (b : Bool) → Below (suc n + length ys) (place_in (suc n) ys x) → Below (n + length (y ∷ ys)) (elim b [ true ↦ Some n | false ↦ place_in (suc n) ys x ])
        go true h = omega arith
        go false h = let e : suc n + length ys ≡ n + length (y ∷ ys) = omega arith in subst (λ m. Below m (place_in (suc n) ys x)) e h

    shared_has : (x : SharedName) → OrNone (meant_shared (place_in 0 X.shared x))
    shared_has x = go (place_in 0 X.shared x) (place_below 0 X.shared x)
      where
        go : (o : Option ℕ) → Below (0 + length X.shared) o → OrNone (meant_shared o)
        go None h = tt
        go (Some i) h = shared i (omega (arith, h))

    pools_have : (pools : List Text) (t : Text) → OrNone (in_pools X.shared pools t)
    pools_have [] t = tt
    pools_have (pool ∷ pools) t = or_has (meant_shared (place_in 0 X.shared (PoolName pool t))) (in_pools X.shared pools t) (shared_has (PoolName pool t)) (pools_have pools t)

    above_has : (o : Option ℕ) (n : ℕ) (t : Text) → ((above : ℕ) → OrNone (in_classes X n above t)) → OrNone (elim o [ None ↦ None | Some above ↦ in_classes X n above t ])
    above_has None n t on = tt
    above_has (Some above) n t on = on above

    classes_have : (n class : ℕ) (t : Text) → OrNone (in_classes X n class t)
    classes_have zero class t = tt
    classes_have (suc n) class t =
        or_has (meant_shared (place_in 0 X.shared (ClassName class t))) _ (shared_has (ClassName class t))
        (or_has (in_pools X.shared (class_names_at X.classes class).pools t) _ (pools_have (class_names_at X.classes class).pools t) (above_has (class_names_at X.classes class).row.superclass n t (λ above. classes_have n above t)))

    class_meant : (o : Option ℕ) → BelowOr C o → OrNone (meant_class o)
    class_meant None h = tt
    class_meant (Some c) h = h

    slot_meant : (f : ℕ → Place) (o : Option ℕ) → ((n : ℕ) → V (f n)) → OrNone (meant_slot f o)
    slot_meant f None h = tt
    slot_meant f (Some n) h = h n

    own_has : (c : ClassNames) (side : Side) (t : Text) → OrNone (own_names c side t)
    own_has c OfInstance t = slot_meant (λ n. Slot (c.base + n)) (text_in 0 c.instance_names t) (λ n. slot (c.base + n))
    own_has c OfClass t = slot_meant ClassSlot (text_in 0 c.class_instance_names t) class_slot
    own_has c OfMeta t = slot_meant ClassSlot (text_in 0 c.class_instance_names t) class_slot

    transcript_has : (o : Option Meant) → OrNone o → MeantHas C low K V (or_transcript o)
    transcript_has None h = tt
    transcript_has (Some m) h = h

    outside_has : (class : ℕ) (side : Side) (t : Text) → MeantHas C low K V (meant_outside X class side t)
    unfolding meant_outside
    outside_has class side t =
        transcript_has _ (or_has (own_names (class_names_at X.classes class) side t) _ (own_has (class_names_at X.classes class) side t)
        (or_has (in_classes X (suc class) class t) _ (classes_have (suc class) class t)
        (or_has (meant_class (class_in 0 X.classes t)) _ (class_meant (class_in 0 X.classes t) (class_below X.classes t inside)) (shared_has (GlobalName t)))))

    from_has : (class : ℕ) (side : Side) (up : ℕ) (scopes : List (List Text)) (t : Text) → MeantHas C low K V (meant_from X class side up scopes t)
    from_has class side up [] t = outside_has class side t
    from_has class side up (scope ∷ scopes) t = go (text_in 0 scope t) (from_has class side (suc up) scopes t)
      where
        go : (o : Option ℕ) → MeantHas C low K V (meant_from X class side (suc up) scopes t) → MeantHas C low K V (elim o [ Some n ↦ At (Scoped up n) | None ↦ meant_from X class side (suc up) scopes t ])
        go None h = h
        go (Some n) h = scoped up n

    pub meant_has : (class : ℕ) (side : Side) (scopes : List (List Text)) (t : Text) → MeantHas C low K V (meant X class side scopes t)
    unfolding meant
    meant_has class side scopes t = from_has class side 0 scopes t

  -- ---- units

  module _ (K : ℕ) (V : Place → Type 0) (X : Names) (inside : length X.classes ≤ C) (known : (class : ℕ) (side : Side) (scopes : List (List Text)) (t : Text) → MeantHas C low K V (meant X class side scopes t)) (assigns : (class : ℕ) (side : Side) (scopes : List (List Text)) (t : Text) → V (place_of (meant X class side scopes t))) where
    pub record Held (d : Defined) : Type 0 where
      pub bodies : BodiesHave C low K V d.bodies
      pub objects : ObjectsHave C K d.objects
      pub selves : SelvesHave C K d.initializers

    selves_append : (xs ys : List Initializer) → SelvesHave C K xs → SelvesHave C K ys → SelvesHave C K (xs ++ ys)
    selves_append [] ys g h = h
    selves_append (x ∷ xs) ys g h = (g.0, selves_append xs ys g.1 h)

    side_has : (side : Side) (class : ℕ) → class < C → Has C K (elim side [ OfInstance ↦ Class class | OfClass ↦ Meta class | _ ↦ Nil ])
    side_has OfInstance class l = l
    side_has OfClass class l = l
    side_has OfMeta class l = tt

    body_held : (class : ℕ) → class < C → (side : Side) (kind : Kind) (parameters : List Text) (b : NamedBody) (d : Defined) (methods : List MethodRow) (initializers : List Initializer) → length (with_body X class side kind parameters b d methods initializers).objects ≤ K → Held d → SelvesHave C K initializers → Held (with_body X class side kind parameters b d methods initializers)
    body_held class l side kind parameters b d methods initializers f h s =
        let made = body_in X class side kind parameters b d in
        let e = length-append d.objects made.objects in
        let g = statements_have C low K V X known assigns class l side (length d.bodies) ((parameters ++ b.temporaries) ∷ []) (record { bodies = suc (length d.bodies); objects = length d.objects }) b.statements (omega (arith, f, e)) in
        record {
          bodies = bodies_append C low K V d.bodies _ h.bodies ((g.item, side_has side class l), g.bodies);
          objects = objects_append C low K d.objects made.objects h.objects g.objects;
          selves = selves_append d.initializers initializers h.selves s;
        }

    initialized_held : (o : Option ℕ) → BelowOr C o → (target : Text) (b : NamedBody) (d : Defined) → length (initialized X o target b d).objects ≤ K → Held d → Held (initialized X o target b d)
    initialized_held (Some class) l target b d f h = body_held class l OfClass InInitializer [] b d [] _ f h (l, tt)
    initialized_held None l target b d f h = body_held undefined_object_class (omega (arith, low)) OfInstance InInitializer [] b d [] _ f h (tt, tt)

    unit_held : (u : NamedUnit) (d : Defined) → length (defined_unit X u d).objects ≤ K → Held d → Held (defined_unit X u d)
    unit_held (InitializerUnit target b) d f h = initialized_held (class_in 0 X.classes target) (class_below X.classes target inside) target b d f h
    unit_held (PoolInitializerUnit pool name b) d f h = body_held undefined_object_class (omega (arith, low)) OfInstance InInitializer [] b d [] _ f h (tt, tt)
    unit_held (ProgramUnit b) d f h = body_held undefined_object_class (omega (arith, low)) OfInstance InInitializer [] b d [] _ f h (tt, tt)
    unit_held (MethodUnit class m) d f h = body_held (or_zero (class_in 0 X.classes class)) (or_zero_below (class_in 0 X.classes class) (class_below X.classes class inside)) OfInstance InMethod m.parameters m.body d _ [] f h tt
    unit_held (ClassMethodUnit class m) d f h = body_held (or_zero (class_in 0 X.classes class)) (or_zero_below (class_in 0 X.classes class) (class_below X.classes class inside)) OfClass InMethod m.parameters m.body d _ [] f h tt
    unit_held (ClassUnit c) d f h = h
    unit_held (GlobalUnit name) d f h = h
    unit_held (PoolVariableUnit pool name) d f h = h

    longer : (xs ys : List HeapObject) → length xs ≤ length (xs ++ ys)
    longer xs ys = let e = length-append xs ys in omega (arith, e)

    initialized_grows : (o : Option ℕ) (target : Text) (b : NamedBody) (d : Defined) → length d.objects ≤ length (initialized X o target b d).objects
    initialized_grows (Some class) target b d = longer d.objects _
    initialized_grows None target b d = longer d.objects _

    unit_grows : (u : NamedUnit) (d : Defined) → length d.objects ≤ length (defined_unit X u d).objects
    unit_grows (InitializerUnit target b) d = initialized_grows (class_in 0 X.classes target) target b d
    unit_grows (PoolInitializerUnit pool name b) d = longer d.objects _
    unit_grows (ProgramUnit b) d = longer d.objects _
    unit_grows (MethodUnit class m) d = longer d.objects _
    unit_grows (ClassMethodUnit class m) d = longer d.objects _
    unit_grows (ClassUnit c) d = omega arith
    unit_grows (GlobalUnit name) d = omega arith
    unit_grows (PoolVariableUnit pool name) d = omega arith

    units_grow : (units : List NamedUnit) (d : Defined) → length d.objects ≤ length (defined_units X units d).objects
    units_grow [] d = omega arith
    units_grow (u ∷ units) d = let a = unit_grows u d in let b = units_grow units (defined_unit X u d) in omega (arith, a, b)

    pub units_held : (units : List NamedUnit) (d : Defined) → length (defined_units X units d).objects ≤ K → Held d → Held (defined_units X units d)
    units_held [] d f h = h
    units_held (u ∷ units) d f h =
        let g = units_grow units (defined_unit X u d) in
        units_held units (defined_unit X u d) f (unit_held u d (omega (arith, f, g)) h)

  -- ---- the program

  texts_have : (K : ℕ) (texts : List Text) → ObjectsHave C K (map literal_string texts)
  texts_have K [] = tt
  texts_have K (t ∷ texts) = (tt, texts_have K texts)

  troubles_have : (K : ℕ) → ObjectsHave C K trouble_literals
  unfolding trouble_literals
  troubles_have K = texts_have K trouble_texts

  trouble_there : (t : Trouble) → trouble_place_of t < length trouble_literals
  unfolding trouble_literals
  trouble_there t = grind arith

  module _ (names : List Text) (units : List NamedUnit) (limits : RunLimits) where
    abbrev X : Names
    X = names_of names units

    abbrev D : Defined
    D = defined_units X units nothing_defined

    abbrev K : ℕ
    K = length (D.objects ++ trouble_literals)

    size : K ≡ length D.objects + length trouble_literals
    size = length-append D.objects trouble_literals

    abbrev none_class : ClassRow
    none_class = record { name = []; superclass = None; in_file = false; indexed = NoIndexes; slots = 0; class_slots = 0 }

    row_there : (rows : List ClassRow) (c a : ℕ) → (get_or rows c none_class).superclass ≡ Some a → c < length rows
    row_there [] c a e = let none : ⊥ = grind (arith, e) in absurd none
    row_there (r ∷ rows) zero a e = omega arith
    row_there (r ∷ rows) (suc c) a e = let l = row_there rows c a e in omega (arith, l)

    class_there : (c a : ℕ) → (class_at (program_of names units limits) c).superclass ≡ Some a → c < length (program_of names units limits).classes
    unfolding class_at
    class_there c a e = row_there (program_of names units limits).classes c a e

    above_there : length (program_of names units limits).classes ≤ C → (c a : ℕ) → (class_at (program_of names units limits) c).superclass ≡ Some a → a < C
    above_there l c a e = let f = (tree_known names units limits).falls c a e in let g = class_there c a e in omega (arith, l, f, g)

    as_many : length X.classes ≡ length (program_of names units limits).classes
    unfolding program_of
    as_many = sym (length-map _ _)

    pub literals_known : length (program_of names units limits).classes ≤ C → KnowsNumbers C (program_of names units limits)
    unfolding program_of
    literals_known l =
        let inside : length X.classes ≤ C = let e = as_many in omega (arith, e, l) in
        let known = meant_has K (λ place. Unit {0}) X (λ up n. tt) (λ n. tt) (λ n. tt) inside (λ n l. tt) in
        let h = units_held K (λ place. Unit {0}) X inside known (λ class side scopes t. tt) units nothing_defined (omega (arith, size)) (record { bodies = tt; objects = tt; selves = tt }) in
        let p = program_of names units limits in
        record {
          constants = codes_have C low K (λ place. Unit {0}) p _ (λ number i g. names_literal C low K (λ place. Unit {0}) p number i g) h.bodies;
          literals = objects_append C low K D.objects trouble_literals h.objects (troubles_have K);
          troubles = λ t. let l = trouble_there t in omega (arith, l, size);
          selves = h.selves;
          above = above_there l;
          classes = class_has C low K (λ place. Unit {0}) p h.bodies;
        }
