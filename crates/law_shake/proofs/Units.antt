-- The definitions of the units that are kept, against those of all units.
use Rattle.std.proofs.Common.{◌≡◌, ℕ, suc, ◌+◌, List, [], ◌∷◌, ◌++◌, map, length, Option, Some, None, Bool, true, false, ◌&&◌, nat_eq, refl, sym, ap, ◌∙◌, arith, append_assoc, append-nil}
use Rattle.std.specs.Option.{option_map}
use Rattle.std.proofs.lemmas.List.{map-append, length-map, length-append}
use Rattle.object_heap.specs.Store.{Object as HeapObject}
use Rattle.st_code.specs.Texts.{Text}
use Rattle.st_code.specs.Program.{same_side, Body, Statement, MethodRow, Initializer}
use Rattle.st_code.specs.Named.{NamedBody, NamedUnit, MethodUnit, ClassMethodUnit, InitializerUnit, PoolInitializerUnit, ProgramUnit, ClassUnit, GlobalUnit, PoolVariableUnit}
use Rattle.st_code.specs.Resolved.{Names, Made, Context, Counts, inside, body_made, captured_of, class_in, number_or_last, statements_made}
use Rattle.st_code.specs.Definitions.{Defined, defined_unit, defined_units, initialized, context}
use Rattle.st_code.specs.Lookup.{Level, method_at}
use Rattle.law_shake.specs.Renaming.{Renaming, object, ren, ren_object, ren_code, ren_statement, ren_initializer, spread, placed, taken}
use Rattle.program_image.specs.Spelled.{statements_texts}
use Rattle.law_shake.specs.Making.{ren_made, ren_context, Agrees, Named}
use Rattle.st_shake.specs.Shaken.{is_kept}
use Rattle.law_shake.specs.Kept.{kept_before, kept_units}
use Rattle.law_shake.specs.Items.{Shape, initialized_shape, shape_of, methods_by, initializers_by, made_in, bodies_in, with_shape, with_shape_or, Item, item_of, with_items, item_before, kept_items, bodies_pattern, objects_pattern}
use Rattle.law_shake.proofs.Spreading.{spread_kept, spread_dropped, placed_kept, placed_first, placed_dropped, taken_kept, taken_dropped}
use Rattle.law_shake.proofs.Meanings.{context_class}
use Rattle.law_shake.proofs.Trees.{first_code, next_codes, statements_made_ren}

-- ---- units by their shapes

initialized_shaped : (x : Names) (o : Option ℕ) (target : Text) (b : NamedBody) (d : Defined) → initialized x o target b d ≡ with_shape x (initialized_shape x o target b) d
initialized_shaped x (Some class) target b d = refl
initialized_shaped x None target b d = refl

unit_shaped : (x : Names) (u : NamedUnit) (d : Defined) → defined_unit x u d ≡ with_shape_or x (shape_of x u) d
unit_shaped x (InitializerUnit target b) d = initialized_shaped x (class_in 0 x.classes target) target b d
unit_shaped x (PoolInitializerUnit pool name b) d = refl
unit_shaped x (ProgramUnit b) d = refl
unit_shaped x (MethodUnit class m) d = refl
unit_shaped x (ClassMethodUnit class m) d = refl
unit_shaped x (ClassUnit c) d = refl
unit_shaped x (GlobalUnit name) d = refl
unit_shaped x (PoolVariableUnit pool name) d = refl

initialized_same : (x : Names) (names : List Text) (o : Option ℕ) (target : Text) (b : NamedBody) → initialized_shape (record x { names = names }) o target b ≡ initialized_shape x o target b
initialized_same x names None target b = refl
initialized_same x names (Some class) target b = refl

shape_same : (x : Names) (names : List Text) (u : NamedUnit) → shape_of (record x { names = names }) u ≡ shape_of x u
shape_same x names (InitializerUnit target b) = ap Some (initialized_same x names (class_in 0 x.classes target) target b)
shape_same x names (PoolInitializerUnit pool name b) = refl
shape_same x names (ProgramUnit b) = refl
shape_same x names (MethodUnit class m) = refl
shape_same x names (ClassMethodUnit class m) = refl
shape_same x names (ClassUnit c) = refl
shape_same x names (GlobalUnit name) = refl
shape_same x names (PoolVariableUnit pool name) = refl

abbrev pub items_of : List Text → Names → List NamedUnit → List Item
items_of needed x units = map (item_of needed x) units

-- all units, under other names
pub units_itemed : (needed : List Text) (x : Names) (names : List Text) (units : List NamedUnit) (d : Defined) → defined_units (record x { names = names }) units d ≡ with_items (record x { names = names }) (items_of needed x units) d
units_itemed needed x names [] d = refl
units_itemed needed x names (u ∷ units) d =
    let x' : Names = record x { names = names } in
    ap (defined_units x' units) (unit_shaped x' u d)
    ∙ ap (λ o. defined_units x' units (with_shape_or x' o d)) (shape_same x names u)
    ∙ units_itemed needed x names units (with_shape_or x' (shape_of x u) d)

-- those that are kept
pub kept_itemed : (needed : List Text) (x : Names) (units : List NamedUnit) (d : Defined) → defined_units x (kept_units needed units) d ≡ with_items x (kept_items (items_of needed x units)) d
kept_itemed needed x [] d = refl
kept_itemed needed x (u ∷ units) d = by (is_kept needed u) (λ e. kept_itemed needed x units e)
  where
    by : (b : Bool) → ((e : Defined) → defined_units x (kept_units needed units) e ≡ with_items x (kept_items (items_of needed x units)) e) → defined_units x (kept_before b u (kept_units needed units)) d ≡ with_items x (item_before b (shape_of x u) (kept_items (items_of needed x units))) d
    by true later = ap (defined_units x (kept_units needed units)) (unit_shaped x u d) ∙ later (with_shape_or x (shape_of x u) d)
    by false later = later d

-- ---- one body

abbrev pub counts : Defined → Counts
counts d = record { bodies = length d.bodies; objects = length d.objects }

module _ (x : Renaming) (y : Names) (names' : List Text) (zero_same : x.symbol 0 ≡ 0) where
  abbrev pub y' : Names
  y' = record y { names = names' }

  module _ (s : Shape) (d d' : Defined) (agrees : Agrees x (counts d) (counts d') (length (bodies_in y s d)) (length (made_in y s d).objects)) (named : Named x y.names names' (statements_texts s.body.statements)) where
    here : x.code (length d.bodies) ≡ length d'.bodies
    here = first_code x y.names names' zero_same (counts d) (counts d') _ _ agrees

    made_ren : made_in y' s d' ≡ ren_made x (λ ss. map (ren_statement x) ss) (made_in y s d)
    made_ren =
        let variables = s.parameters ++ s.body.temporaries in
        let c : Context = inside (context y s.class s.side (length d.bodies)) (length d.bodies) variables in
        ap (λ k. statements_made (record (ren_context x names' c) { code = k }) (record { bodies = suc (length d'.bodies); objects = length d'.objects }) s.body.statements) (sym here)
        ∙ statements_made_ren x y.names names' zero_same c (record { bodies = suc (length d.bodies); objects = length d.objects }) (record { bodies = suc (length d'.bodies); objects = length d'.objects }) s.body.statements (next_codes x y.names names' zero_same (counts d) (counts d') _ _ agrees) named refl

    pub bodies_ren : bodies_in y' s d' ≡ map (ren_code x) (bodies_in y s d)
    bodies_ren =
        let variables = s.parameters ++ s.body.temporaries in
        let c : Context = context y s.class s.side (length d.bodies) in
        let a = made_in y s d in
        ap (λ a'. body_made s.kind (context y' s.class s.side (length d'.bodies)) None s.parameters variables s.body.statements a') made_ren
        ∙ ap (λ v. record { kind = s.kind; class = v; parameters = length s.parameters; captured = captured_of variables s.body.statements; outer = None; statements = map (ren_statement x) a.item } ∷ map (ren_code x) a.bodies) (sym (context_class x names' c))

    pub objects_ren : (made_in y' s d').objects ≡ map (ren_object x) (made_in y s d).objects
    objects_ren = ap (λ (a : Made (List Statement)). a.objects) made_ren

    pub code_here : x.code (length d.bodies) ≡ length d'.bodies
    code_here = here

  -- ---- all units

  -- what is asked of a unit: the texts of one that is kept have their numbers; nl number leads to the selector of one that isn't
  abbrev MethodNamed : Option Text → Type 0
  MethodNamed None = Unit {0}
  MethodNamed (Some t) = x.symbol (number_or_last y.names t) ≡ number_or_last names' t

  pub record ShapeFits (s : Shape) : Type 0 where
    pub named : Named x y.names names' (statements_texts s.body.statements)
    pub method : MethodNamed s.method
    pub self : ren x s.self ≡ s.self

  pub record ShapeGone (s : Shape) : Type 0 where
    pub selector : Text
    pub is : s.method ≡ Some selector
    pub gone : (n : ℕ) → nat_eq (number_or_last names' selector) (x.symbol n) ≡ false

  abbrev pub ItemFits : Bool → Option Shape → Type 0
  ItemFits b None = Unit {0}
  ItemFits true (Some s) = ShapeFits s
  ItemFits false (Some s) = ShapeGone s

  abbrev pub ItemsFit : List Item → Type 0
  ItemsFit [] = Unit {0}
  ItemsFit (i ∷ items) = ItemFits i.kept i.shape × ItemsFit items

  -- what all units add, kept and whole
  abbrev B : List Item → Defined → Defined → List (Option Body)
  B items d d' = bodies_pattern y y' items d d'

  abbrev L : List Item → Defined → Defined → List (Option HeapObject)
  L items d d' = objects_pattern y y' items d d'

  pub record Adds (items : List Item) (d d' : Defined) : Type 0 where
    pub methods : List MethodRow
    pub methods' : List MethodRow
    pub initializers : List Initializer
    pub bodies : List Body
    pub objects : List HeapObject
    pub kept : with_items y (kept_items items) d ≡ record { methods = d.methods ++ methods; initializers = d.initializers ++ initializers; bodies = d.bodies ++ bodies; objects = d.objects ++ objects }
    pub whole : with_items y' items d' ≡ record { methods = d'.methods ++ methods'; initializers = d'.initializers ++ map (ren_initializer x) initializers; bodies = d'.bodies ++ spread (ren_code x) (B items d d') bodies; objects = d'.objects ++ spread (ren_object x) (L items d d') objects }
    pub found : (l : Level) (n : ℕ) → method_at methods' l (x.symbol n) ≡ option_map x.code (method_at methods l n)
    pub bodies_taken : taken (B items d d') ≡ length bodies
    pub objects_taken : taken (L items d d') ≡ length objects

  abbrev defined_by : List MethodRow → List Initializer → List Body → List HeapObject → Defined
  defined_by ms is bs os = record { methods = ms; initializers = is; bodies = bs; objects = os }

  same_defined : (ms ms' : List MethodRow) (is is' : List Initializer) (bs bs' : List Body) (os os' : List HeapObject) → ms ≡ ms' → is ≡ is' → bs ≡ bs' → os ≡ os' → defined_by ms is bs os ≡ defined_by ms' is' bs' os'
  same_defined ms ms' is is' bs bs' os os' e f g h =
      ap (λ q. defined_by q is bs os) e ∙ ap (λ q. defined_by ms' q bs os) f ∙ ap (λ q. defined_by ms' is' q os) g ∙ ap (λ q. defined_by ms' is' bs' q) h

  -- methods of the file, where one stands before others
  abbrev row : Shape → List Text → Text → ℕ → MethodRow
  row s names t code = record { class = s.class; side = s.side; selector = number_or_last names t; code = code }

  found_kept : (apart : (m n : ℕ) → nat_eq (x.symbol m) (x.symbol n) ≡ nat_eq m n) (s : Shape) (o : Option Text) (code code' : ℕ) (ms ms' : List MethodRow) (l : Level) (n : ℕ) → MethodNamed o → x.code code ≡ code' → method_at ms' l (x.symbol n) ≡ option_map x.code (method_at ms l n) → method_at (methods_by names' s o code' ++ ms') l (x.symbol n) ≡ option_map x.code (method_at (methods_by y.names s o code ++ ms) l n)
  unfolding method_at
  found_kept apart s None code code' ms ms' l n h c e = e
  found_kept apart s (Some t) code code' ms ms' l n h c e =
      let same : nat_eq (number_or_last names' t) (x.symbol n) ≡ nat_eq (number_or_last y.names t) n = ap (λ k. nat_eq k (x.symbol n)) (sym h) ∙ apart (number_or_last y.names t) n in
      ap (λ b. elim (b && nat_eq s.class l.class && same_side s.side l.side) [ true ↦ Some code' | false ↦ method_at ms' l (x.symbol n) ]) same
      ∙ by (nat_eq (number_or_last y.names t) n && nat_eq s.class l.class && same_side s.side l.side)
    where
      by : (b : Bool) → elim b [ true ↦ Some code' | false ↦ method_at ms' l (x.symbol n) ] ≡ option_map x.code (elim b [ true ↦ Some code | false ↦ method_at ms l n ])
      by true = ap Some (sym c)
      by false = e

  found_gone : (s : Shape) (g : ShapeGone s) (code : ℕ) (ms : List MethodRow) (l : Level) (n : ℕ) → method_at (methods_by names' s s.method code ++ ms) l (x.symbol n) ≡ method_at ms l (x.symbol n)
  unfolding method_at
  found_gone s g code ms l n =
      ap (λ o. method_at (methods_by names' s o code ++ ms) l (x.symbol n)) g.is
      ∙ ap (λ b. elim (b && nat_eq s.class l.class && same_side s.side l.side) [ true ↦ Some code | false ↦ method_at ms l (x.symbol n) ]) (g.gone n)

  inits_kept : (s : Shape) (o : Option Text) (code code' : ℕ) → x.code code ≡ code' → ren x s.self ≡ s.self → initializers_by s o code' ≡ map (ren_initializer x) (initializers_by s o code)
  inits_kept s None code code' c e =
      ap (λ k. record { code = k; self = s.self; target = s.target } ∷ []) (sym c) ∙ ap (λ v. record { code = x.code code; self = v; target = s.target } ∷ []) (sym e)
  inits_kept s (Some t) code code' c e = refl

  inits_gone : (s : Shape) (g : ShapeGone s) (code : ℕ) → initializers_by s s.method code ≡ []
  inits_gone s g code = ap (λ o. initializers_by s o code) g.is

  module _ (apart : (m n : ℕ) → nat_eq (x.symbol m) (x.symbol n) ≡ nat_eq m n) where
    abbrev Codes : List Item → Defined → Defined → Type 0
    Codes items d d' = (k : ℕ) → x.code (length d.bodies + k) ≡ length d'.bodies + placed (B items d d') k

    abbrev Literals : List Item → Defined → Defined → Type 0
    Literals items d d' = (k : ℕ) → object x (length d.objects + k) ≡ length d'.objects + placed (L items d d') k

    adds_none : (b : Bool) (items : List Item) (d d' : Defined) → Adds items d d' → Adds (record { kept = b; shape = None } ∷ items) d d'
    adds_none true items d d' a = record { methods = a.methods; methods' = a.methods'; initializers = a.initializers; bodies = a.bodies; objects = a.objects; kept = a.kept; whole = a.whole; found = a.found; bodies_taken = a.bodies_taken; objects_taken = a.objects_taken }
    adds_none false items d d' a = record { methods = a.methods; methods' = a.methods'; initializers = a.initializers; bodies = a.bodies; objects = a.objects; kept = a.kept; whole = a.whole; found = a.found; bodies_taken = a.bodies_taken; objects_taken = a.objects_taken }

    agrees_kept : (s : Shape) (items : List Item) (d d' : Defined) → Codes (record { kept = true; shape = Some s } ∷ items) d d' → Literals (record { kept = true; shape = Some s } ∷ items) d d' → Agrees x (counts d) (counts d') (length (bodies_in y s d)) (length (made_in y s d).objects)
    agrees_kept s items d d' codes literals =
        record {
          code = λ k l. codes k ∙ ap (λ j. length d'.bodies + j) (placed_first (bodies_in y s d) _ k l);
          literal = λ k l. literals k ∙ ap (λ j. length d'.objects + j) (placed_first (made_in y s d).objects _ k l);
        }

    adds_kept : (s : Shape) (items : List Item) (d d' : Defined) → ShapeFits s → Codes (record { kept = true; shape = Some s } ∷ items) d d' → Literals (record { kept = true; shape = Some s } ∷ items) d d' → Adds items (with_shape y s d) (with_shape y' s d') → Adds (record { kept = true; shape = Some s } ∷ items) d d'
    adds_kept s items d d' fit codes literals a =
        let agrees = agrees_kept s items d d' codes literals in
        let here = code_here s d d' agrees fit.named in
        let nb = bodies_in y s d in
        let nl = (made_in y s d).objects in
        let eb : bodies_in y' s d' ≡ map (ren_code x) nb = bodies_ren s d d' agrees fit.named in
        let eo : (made_in y' s d').objects ≡ map (ren_object x) nl = objects_ren s d d' agrees fit.named in
        let pb = B items (with_shape y s d) (with_shape y' s d') in
        let po = L items (with_shape y s d) (with_shape y' s d') in
        record {
          methods = methods_by y.names s s.method (length d.bodies) ++ a.methods;
          methods' = methods_by names' s s.method (length d'.bodies) ++ a.methods';
          initializers = initializers_by s s.method (length d.bodies) ++ a.initializers;
          bodies = nb ++ a.bodies;
          objects = nl ++ a.objects;
          kept = a.kept ∙ same_defined _ _ _ _ _ _ _ _ (append_assoc d.methods _ a.methods) (append_assoc d.initializers _ a.initializers) (append_assoc d.bodies nb a.bodies) (append_assoc d.objects nl a.objects);
          whole = a.whole ∙ same_defined _ _ _ _ _ _ _ _
              (append_assoc d'.methods _ a.methods')
              (append_assoc d'.initializers _ (map (ren_initializer x) a.initializers) ∙ ap (λ is. d'.initializers ++ (is ++ map (ren_initializer x) a.initializers)) (inits_kept s s.method (length d.bodies) (length d'.bodies) here fit.self) ∙ ap (λ is. d'.initializers ++ is) (sym (map-append (ren_initializer x) (initializers_by s s.method (length d.bodies)) a.initializers)))
              (append_assoc d'.bodies _ (spread (ren_code x) pb a.bodies) ∙ ap (λ bs. d'.bodies ++ (bs ++ spread (ren_code x) pb a.bodies)) eb ∙ ap (λ bs. d'.bodies ++ bs) (sym (spread_kept (ren_code x) nb pb nb a.bodies refl)))
              (append_assoc d'.objects _ (spread (ren_object x) po a.objects) ∙ ap (λ os. d'.objects ++ (os ++ spread (ren_object x) po a.objects)) eo ∙ ap (λ os. d'.objects ++ os) (sym (spread_kept' nl po a.objects)));
          found = λ l n. found_kept apart s s.method (length d.bodies) (length d'.bodies) a.methods a.methods' l n fit.method here (a.found l n);
          bodies_taken = taken_kept nb pb ∙ ap (λ k. length nb + k) a.bodies_taken ∙ sym (length-append nb a.bodies);
          objects_taken = taken_kept nl po ∙ ap (λ k. length nl + k) a.objects_taken ∙ sym (length-append nl a.objects);
        }
      where
        spread_kept' : (nl : List HeapObject) (po : List (Option HeapObject)) (os : List HeapObject) → spread (ren_object x) (map (λ b. None) nl ++ po) (nl ++ os) ≡ map (ren_object x) nl ++ spread (ren_object x) po os
        spread_kept' nl po os = spread_kept (ren_object x) nl po nl os refl

    adds_gone : (s : Shape) (items : List Item) (d d' : Defined) → ShapeGone s → Adds items d (with_shape y' s d') → Adds (record { kept = false; shape = Some s } ∷ items) d d'
    adds_gone s items d d' gone a =
        let nb = bodies_in y' s d' in
        let nl = (made_in y' s d').objects in
        let pb = B items d (with_shape y' s d') in
        let po = L items d (with_shape y' s d') in
        record {
          methods = a.methods;
          methods' = methods_by names' s s.method (length d'.bodies) ++ a.methods';
          initializers = a.initializers;
          bodies = a.bodies;
          objects = a.objects;
          kept = a.kept;
          whole = a.whole ∙ same_defined _ _ _ _ _ _ _ _
              (append_assoc d'.methods _ a.methods')
              (append_assoc d'.initializers _ (map (ren_initializer x) a.initializers) ∙ ap (λ is. d'.initializers ++ (is ++ map (ren_initializer x) a.initializers)) (inits_gone s gone (length d'.bodies)))
              (append_assoc d'.bodies nb (spread (ren_code x) pb a.bodies) ∙ ap (λ bs. d'.bodies ++ bs) (sym (spread_dropped (ren_code x) nb pb a.bodies)))
              (append_assoc d'.objects nl (spread (ren_object x) po a.objects) ∙ ap (λ os. d'.objects ++ os) (sym (spread_dropped (ren_object x) nl po a.objects)));
          found = λ l n. found_gone s gone (length d'.bodies) a.methods' l n ∙ a.found l n;
          bodies_taken = taken_dropped nb pb ∙ a.bodies_taken;
          objects_taken = taken_dropped nl po ∙ a.objects_taken;
        }

    adds_nothing : (d d' : Defined) → Adds [] d d'
    unfolding spread taken method_at
    adds_nothing d d' =
        record {
          methods = [];
          methods' = [];
          initializers = [];
          bodies = [];
          objects = [];
          kept = same_defined _ _ _ _ _ _ _ _ (sym (append-nil d.methods)) (sym (append-nil d.initializers)) (sym (append-nil d.bodies)) (sym (append-nil d.objects));
          whole = same_defined _ _ _ _ _ _ _ _ (sym (append-nil d'.methods)) (sym (append-nil d'.initializers)) (sym (append-nil d'.bodies)) (sym (append-nil d'.objects));
          found = λ l n. refl;
          bodies_taken = refl;
          objects_taken = refl;
        }

    -- behind a unit that is kept, and behind one that isn't
    codes_kept : (s : Shape) (items : List Item) (d d' : Defined) → Codes (record { kept = true; shape = Some s } ∷ items) d d' → length (bodies_in y' s d') ≡ length (bodies_in y s d) → Codes items (with_shape y s d) (with_shape y' s d')
    codes_kept s items d d' codes e = λ k.
        let nb = bodies_in y s d in
        let pb = B items (with_shape y s d) (with_shape y' s d') in
        let e1 = length-append d.bodies nb in
        let e2 = length-append d'.bodies (bodies_in y' s d') in
        let i : length (d.bodies ++ nb) + k ≡ length d.bodies + (length nb + k) = omega (arith, e1) in
        let j : length d'.bodies + (length nb + placed pb k) ≡ length (d'.bodies ++ bodies_in y' s d') + placed pb k = omega (arith, e2, e) in
        ap x.code i ∙ codes (length nb + k) ∙ ap (λ q. length d'.bodies + q) (placed_kept nb pb k) ∙ j

    literals_kept : (s : Shape) (items : List Item) (d d' : Defined) → Literals (record { kept = true; shape = Some s } ∷ items) d d' → length (made_in y' s d').objects ≡ length (made_in y s d).objects → Literals items (with_shape y s d) (with_shape y' s d')
    literals_kept s items d d' literals e = λ k.
        let nl = (made_in y s d).objects in
        let po = L items (with_shape y s d) (with_shape y' s d') in
        let e1 = length-append d.objects nl in
        let e2 = length-append d'.objects (made_in y' s d').objects in
        let i : length (d.objects ++ nl) + k ≡ length d.objects + (length nl + k) = omega (arith, e1) in
        let j : length d'.objects + (length nl + placed po k) ≡ length (d'.objects ++ (made_in y' s d').objects) + placed po k = omega (arith, e2, e) in
        ap (object x) i ∙ literals (length nl + k) ∙ ap (λ q. length d'.objects + q) (placed_kept nl po k) ∙ j

    codes_gone : (s : Shape) (items : List Item) (d d' : Defined) → Codes (record { kept = false; shape = Some s } ∷ items) d d' → Codes items d (with_shape y' s d')
    codes_gone s items d d' codes = λ k.
        let nb = bodies_in y' s d' in
        let pb = B items d (with_shape y' s d') in
        let e2 = length-append d'.bodies nb in
        let j : length d'.bodies + (length nb + placed pb k) ≡ length (d'.bodies ++ nb) + placed pb k = omega (arith, e2) in
        codes k ∙ ap (λ q. length d'.bodies + q) (placed_dropped nb pb k) ∙ j

    literals_gone : (s : Shape) (items : List Item) (d d' : Defined) → Literals (record { kept = false; shape = Some s } ∷ items) d d' → Literals items d (with_shape y' s d')
    literals_gone s items d d' literals = λ k.
        let nl = (made_in y' s d').objects in
        let po = L items d (with_shape y' s d') in
        let e2 = length-append d'.objects nl in
        let j : length d'.objects + (length nl + placed po k) ≡ length (d'.objects ++ nl) + placed po k = omega (arith, e2) in
        literals k ∙ ap (λ q. length d'.objects + q) (placed_dropped nl po k) ∙ j

    adds_item : (b : Bool) (o : Option Shape) (items : List Item) (d d' : Defined) → ItemFits b o → Codes (record { kept = b; shape = o } ∷ items) d d' → Literals (record { kept = b; shape = o } ∷ items) d d' → ((e e' : Defined) → Codes items e e' → Literals items e e' → Adds items e e') → Adds (record { kept = b; shape = o } ∷ items) d d'
    adds_item true None items d d' fit codes literals later = adds_none true items d d' (later d d' codes literals)
    adds_item false None items d d' fit codes literals later = adds_none false items d d' (later d d' codes literals)
    adds_item true (Some s) items d d' fit codes literals later =
        let agrees = agrees_kept s items d d' codes literals in
        let eb = ap length (bodies_ren s d d' agrees fit.named) ∙ length-map (bodies_in y s d) (ren_code x) in
        let eo = ap length (objects_ren s d d' agrees fit.named) ∙ length-map (made_in y s d).objects (ren_object x) in
        adds_kept s items d d' fit codes literals (later _ _ (codes_kept s items d d' codes eb) (literals_kept s items d d' literals eo))
    adds_item false (Some s) items d d' fit codes literals later = adds_gone s items d d' fit (later _ _ (codes_gone s items d d' codes) (literals_gone s items d d' literals))

    pub adds : (items : List Item) (d d' : Defined) → ItemsFit items → Codes items d d' → Literals items d d' → Adds items d d'
    adds [] d d' fit codes literals = adds_nothing d d'
    adds (i ∷ items) d d' fit codes literals = adds_item i.kept i.shape items d d' fit.0 codes literals (λ e e' c l. adds items e e' fit.1 c l)
