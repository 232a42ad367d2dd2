-- The program that the units of a file are is compilable: unit by unit.
use Rattle.std.proofs.Common.{◌≡◌, ℕ, suc, ◌+◌, List, [], ◌∷◌, ◌++◌, map, length, get_or, append_assoc, append-nil, Option, Some, None, true, false, refl, sym, ap, ◌∙◌, subst, arith}
use Rattle.std.proofs.lemmas.List.{length-map}
use Rattle.object_heap.specs.declared.value.Value.{Value}
use Rattle.object_heap.specs.declared.value.Value.TheVariants.{Nil, Class}
use Rattle.st_code.specs.Texts.{Text}
use Rattle.st_code.specs.Program.{Kind, InMethod, InInitializer, Body as BodyRow, Statement, Side, OfInstance, OfClass, MethodRow, Initializer, Program, body_at}
use Rattle.st_code.specs.Named.{NamedBody, NamedMethod, NamedUnit, ClassUnit, GlobalUnit, PoolVariableUnit, InitializerUnit, PoolInitializerUnit, ProgramUnit, MethodUnit, ClassMethodUnit, NamedStatements}
use Rattle.st_code.specs.Resolved.{GlobalName, PoolName, Names, class_in, place_in, number_or_last, Made, Context, has_text, named_statements, captured_of, inside, body_made, statements_made}
use Rattle.st_code.specs.Definitions.{Defined, names_of, program_of}
use Rattle.st_code.specs.BuiltIns.{undefined_object_class}
use Rattle.st_rules.specs.Compilable.{Body, AllMethods, AllInitializers, ProgramsAreCompilable}
use Rattle.st_rules.proofs.SoundTrees.{body_sound, AllBodies, Sits, bodies_append, sits_left, sits_from, every_body}
use Rattle.st_rules.proofs.SoundNames.{Has, found, Chain, Caught, Beyond}
use Rattle.st_rules.proofs.SoundMade.{statements_ok}

-- ---- what units define, as the program's definition has it

abbrev start : Names → ℕ → Side → ℕ → Context
start x class side code = record { names = x; class = class; side = side; code = code; scopes = [] }

abbrev statements_in : Names → ℕ → Side → List Text → NamedBody → Defined → Made (List Statement)
statements_in x class side parameters b d =
    let code = length d.bodies in
    statements_made (inside (start x class side code) code (parameters ++ b.temporaries)) (record { bodies = suc code; objects = length d.objects }) b.statements

abbrev new_bodies : Names → ℕ → Side → Kind → List Text → NamedBody → Defined → List BodyRow
new_bodies x class side kind parameters b d =
    body_made kind (start x class side (length d.bodies)) None parameters (parameters ++ b.temporaries) b.statements (statements_in x class side parameters b d)

abbrev with_body : Names → ℕ → Side → Kind → List Text → NamedBody → Defined → List MethodRow → List Initializer → Defined
with_body x class side kind parameters b d methods initializers =
    record {
      methods = d.methods ++ methods;
      initializers = d.initializers ++ initializers;
      bodies = d.bodies ++ new_bodies x class side kind parameters b d;
      objects = d.objects ++ (statements_in x class side parameters b d).objects;
    }

abbrev with_method : Names → ℕ → Side → NamedMethod → Defined → Defined
with_method x class side m d =
    with_body x class side InMethod m.parameters m.body d (record { class = class; side = side; selector = number_or_last x.names m.selector; code = length d.bodies } ∷ []) []

abbrev with_initializer : Names → ℕ → Side → Value → Option ℕ → NamedBody → Defined → Defined
with_initializer x class side self target b d =
    with_body x class side InInitializer [] b d [] (record { code = length d.bodies; self = self; target = target } ∷ [])

abbrev initialized : Names → Option ℕ → Text → NamedBody → Defined → Defined
initialized x (Some class) target b d = with_initializer x class OfClass (Class class) None b d
initialized x None target b d = with_initializer x undefined_object_class OfInstance Nil (place_in 0 x.shared (GlobalName target)) b d

abbrev or_zero : Option ℕ → ℕ
or_zero (Some n) = n
or_zero None = 0

abbrev defined_unit : Names → NamedUnit → Defined → Defined
defined_unit x (InitializerUnit target b) d = initialized x (class_in 0 x.classes target) target b d
defined_unit x (PoolInitializerUnit pool name b) d = with_initializer x undefined_object_class OfInstance Nil (place_in 0 x.shared (PoolName pool name)) b d
defined_unit x (ProgramUnit b) d = with_initializer x undefined_object_class OfInstance Nil None b d
defined_unit x (MethodUnit class m) d = with_method x (or_zero (class_in 0 x.classes class)) OfInstance m d
defined_unit x (ClassMethodUnit class m) d = with_method x (or_zero (class_in 0 x.classes class)) OfClass m d
defined_unit x u d = d

abbrev defined_units : Names → List NamedUnit → Defined → Defined
defined_units x [] d = d
defined_units x (u ∷ units) d = defined_units x units (defined_unit x u d)

abbrev nothing_defined : Defined
nothing_defined = record { methods = []; initializers = []; bodies = []; objects = [] }

-- ---- units add bodies

pub record Grows (before after : List BodyRow) : Type 0 where
  pub extra : List BodyRow
  pub is : after ≡ before ++ extra

grows_none : (ys : List BodyRow) → Grows ys ys
grows_none ys = record { extra = []; is = sym (append-nil ys) }

pub grows_on : (xs ys zs : List BodyRow) → Grows xs ys → Grows ys zs → Grows xs zs
grows_on xs ys zs a b = record { extra = a.extra ++ b.extra; is = b.is ∙ ap (λ us. us ++ b.extra) a.is ∙ append_assoc xs a.extra b.extra }

initialized_grows : (x : Names) (o : Option ℕ) (target : Text) (b : NamedBody) (d : Defined) → Grows d.bodies (initialized x o target b d).bodies
initialized_grows x (Some class) target b d = record { extra = _; is = refl }
initialized_grows x None target b d = record { extra = _; is = refl }

pub unit_grows : (x : Names) (u : NamedUnit) (d : Defined) → Grows d.bodies (defined_unit x u d).bodies
unit_grows x (InitializerUnit target b) d = initialized_grows x (class_in 0 x.classes target) target b d
unit_grows x (PoolInitializerUnit pool name b) d = record { extra = _; is = refl }
unit_grows x (ProgramUnit b) d = record { extra = _; is = refl }
unit_grows x (MethodUnit class m) d = record { extra = _; is = refl }
unit_grows x (ClassMethodUnit class m) d = record { extra = _; is = refl }
unit_grows x (ClassUnit c) d = grows_none d.bodies
unit_grows x (GlobalUnit name) d = grows_none d.bodies
unit_grows x (PoolVariableUnit pool name) d = grows_none d.bodies

pub units_grow : (x : Names) (units : List NamedUnit) (d : Defined) → Grows d.bodies (defined_units x units d).bodies
units_grow x [] d = grows_none d.bodies
units_grow x (u ∷ units) d = grows_on d.bodies (defined_unit x u d).bodies _ (unit_grows x u d) (units_grow x units (defined_unit x u d))

module _ (p : Program) where
  -- what is defined so far is as it should be
  pub record Good (d : Defined) : Type 0 where
    pub bodies : AllBodies p 0 d.bodies
    pub methods : AllMethods p d.methods
    pub initializers : AllInitializers p d.initializers

  methods_more : (xs ys : List MethodRow) → AllMethods p xs → AllMethods p ys → AllMethods p (xs ++ ys)
  methods_more [] ys h i = i
  methods_more (m ∷ xs) ys h i = (h.0, methods_more xs ys h.1 i)

  initializers_more : (xs ys : List Initializer) → AllInitializers p xs → AllInitializers p ys → AllInitializers p (xs ++ ys)
  initializers_more [] ys h i = i
  initializers_more (m ∷ xs) ys h i = (h.0, initializers_more xs ys h.1 i)

  -- a body that stands in no other
  abbrev OuterChain : Option ℕ → Type 0
  OuterChain o = elim o [ None ↦ ◌≡◌ {A = List (List Text)} [] [] | Some m ↦ Chain p m [] ]

  abbrev OuterCaught : Text → Option ℕ → Type 0
  OuterCaught t o = elim o [ None ↦ Unit {0} | Some m ↦ Caught p m [] t ]

  alone_chain : (k : ℕ) (b : BodyRow) (variables : List Text) (row : NamedStatements) → body_at p k ≡ b → b.captured ≡ captured_of variables row → b.outer ≡ None → Chain p k (variables ∷ [])
  unfolding captured_of
  alone_chain k b variables row e captured outer =
      (ap (λ (y : BodyRow). length y.captured) e ∙ ap length captured ∙ length-map variables (has_text (named_statements false row)), subst (λ o. OuterChain o) (sym (ap (λ (y : BodyRow). y.outer) e ∙ outer)) refl)

  alone_heard : (x : Context) (k : ℕ) (b : BodyRow) (variables : List Text) (row : NamedStatements) → x.code ≡ k → body_at p k ≡ b → b.captured ≡ captured_of variables row → b.outer ≡ None → ((t : Text) → Has (named_statements false row) t → Caught p k (variables ∷ []) t) × ((t : Text) → Has (named_statements true row) t → Beyond p k (variables ∷ []) t)
  unfolding captured_of
  alone_heard x k b variables row same e captured outer =
      let none : (t : Text) → OuterCaught t (body_at p k).outer = λ t. subst (λ o. OuterCaught t o) (sym (ap (λ (y : BodyRow). y.outer) e ∙ outer)) tt in
      (λ t i. (λ m s. let f = found 0 variables t m s in ap (λ (y : BodyRow). get_or y.captured m false) e ∙ ap (λ cs. get_or cs m false) captured ∙ ap (λ j. get_or (map (has_text (named_statements false row)) variables) j false) (omega arith) ∙ f.caught (named_statements false row) i, λ s. none t), λ t i s. none t)

  body_good : (x : Names) (class : ℕ) (side : Side) (kind : Kind) (parameters : List Text) (b : NamedBody) (d : Defined) (methods : List MethodRow) (initializers : List Initializer) (more : List BodyRow) → p.bodies ≡ (d.bodies ++ new_bodies x class side kind parameters b d) ++ more → Good d → (Body p (length d.bodies) kind None → AllMethods p methods) → (Body p (length d.bodies) kind None → AllInitializers p initializers) → Good (with_body x class side kind parameters b d methods initializers)
  body_good x class side kind parameters b d methods initializers more e good ms is =
      let k = length d.bodies in
      let variables = parameters ++ b.temporaries in
      let new = new_bodies x class side kind parameters b d in
      let s : Sits p k new = sits_left p k new more (sits_from p d.bodies (new ++ more) (e ∙ append_assoc d.bodies new more)) in
      let ctx = inside (start x class side k) k variables in
      let made = statements_ok p ctx (record { bodies = suc k; objects = length d.objects }) b.statements (alone_chain k _ variables b.statements s.0.1 refl refl) (alone_heard ctx k _ variables b.statements refl s.0.1 refl refl) s.1 in
      let there : Body p k kind None = record { known = s.0.0; is_kind = ap (λ (y : BodyRow). y.kind) s.0.1; stands = ap (λ (y : BodyRow). y.outer) s.0.1 } in
      let here : k ≡ 0 + k = omega arith in
      record {
        bodies = bodies_append p 0 d.bodies new good.bodies (subst (λ n. AllBodies p n new) here (body_sound p k kind (statements_in x class side parameters b d).item made.0, made.1));
        methods = methods_more d.methods methods good.methods (ms there);
        initializers = initializers_more d.initializers initializers good.initializers (is there);
      }

  initialized_good : (x : Names) (o : Option ℕ) (target : Text) (b : NamedBody) (d : Defined) (more : List BodyRow) → p.bodies ≡ (initialized x o target b d).bodies ++ more → Good d → Good (initialized x o target b d)
  initialized_good x (Some class) target b d more e good = body_good x class OfClass InInitializer [] b d [] _ more e good (λ i. tt) (λ i. (i, tt))
  initialized_good x None target b d more e good = body_good x undefined_object_class OfInstance InInitializer [] b d [] _ more e good (λ i. tt) (λ i. (i, tt))

  unit_good : (x : Names) (u : NamedUnit) (d : Defined) (more : List BodyRow) → p.bodies ≡ (defined_unit x u d).bodies ++ more → Good d → Good (defined_unit x u d)
  unit_good x (InitializerUnit target b) d more e good = initialized_good x (class_in 0 x.classes target) target b d more e good
  unit_good x (PoolInitializerUnit pool name b) d more e good = body_good x undefined_object_class OfInstance InInitializer [] b d [] _ more e good (λ i. tt) (λ i. (i, tt))
  unit_good x (ProgramUnit b) d more e good = body_good x undefined_object_class OfInstance InInitializer [] b d [] _ more e good (λ i. tt) (λ i. (i, tt))
  unit_good x (MethodUnit class m) d more e good = body_good x (or_zero (class_in 0 x.classes class)) OfInstance InMethod m.parameters m.body d _ [] more e good (λ i. (i, tt)) (λ i. tt)
  unit_good x (ClassMethodUnit class m) d more e good = body_good x (or_zero (class_in 0 x.classes class)) OfClass InMethod m.parameters m.body d _ [] more e good (λ i. (i, tt)) (λ i. tt)
  unit_good x (ClassUnit c) d more e good = good
  unit_good x (GlobalUnit name) d more e good = good
  unit_good x (PoolVariableUnit pool name) d more e good = good

  units_good : (x : Names) (units : List NamedUnit) (d : Defined) → p.bodies ≡ (defined_units x units d).bodies → Good d → Good (defined_units x units d)
  units_good x [] d e good = good
  units_good x (u ∷ units) d e good =
      let g = units_grow x units (defined_unit x u d) in
      units_good x units (defined_unit x u d) e (unit_good x u d g.extra (e ∙ g.is) good)

pub programs_are_compilable : ProgramsAreCompilable
unfolding program_of
programs_are_compilable names units limits =
    let p = program_of names units limits in
    let good = units_good p (names_of names units) units nothing_defined refl (record { bodies = tt; methods = tt; initializers = tt }) in
    record { bodies = every_body p good.bodies; methods = good.methods; initializers = good.initializers }
