-- Units by what they add to a program: which of them are kept, and where the bodies and literals of the others stand.
use Rattle.std.specs.Prelude.{ℕ, Bool, true, false, List, [], ◌∷◌, ◌++◌, map, length, Option, Some, None}
use Rattle.object_heap.specs.declared.value.Value.{Value}
use Rattle.object_heap.specs.declared.value.Value.TheVariants.{Nil, Class}
use Rattle.object_heap.specs.Store.{Object as HeapObject}
use Rattle.st_code.specs.Texts.{Text}
use Rattle.st_code.specs.Program.{Kind, InMethod, InInitializer, Side, OfInstance, OfClass, Body, Statement, MethodRow, Initializer}
use Rattle.st_code.specs.Named.{NamedBody, NamedMethod, NamedUnit, MethodUnit, ClassMethodUnit, InitializerUnit, PoolInitializerUnit, ProgramUnit}
use Rattle.st_code.specs.Resolved.{Names, GlobalName, PoolName, Made, number_or_last, class_in, place_in, body_made}
use Rattle.st_code.specs.Definitions.{Defined, or_zero, context, body_in}
use Rattle.st_code.specs.BuiltIns.{undefined_object_class}
use Rattle.st_shake.specs.Shaken.{is_kept}

-- ---- a unit that adds a body: a method by its selector, or an initializer

pub record Shape : Type 0 where
  pub class : ℕ
  pub side : Side
  pub kind : Kind
  pub parameters : List Text
  pub body : NamedBody
  pub method : Option Text
  pub self : Value
  pub target : Option ℕ

abbrev pub method_shape : ℕ → Side → NamedMethod → Shape
method_shape class side m = record { class = class; side = side; kind = InMethod; parameters = m.parameters; body = m.body; method = Some m.selector; self = Nil; target = None }

abbrev pub initializer_shape : ℕ → Side → Value → Option ℕ → NamedBody → Shape
initializer_shape class side self target b = record { class = class; side = side; kind = InInitializer; parameters = []; body = b; method = None; self = self; target = target }

abbrev pub initialized_shape : Names → Option ℕ → Text → NamedBody → Shape
initialized_shape x (Some class) target b = initializer_shape class OfClass (Class class) None b
initialized_shape x None target b = initializer_shape undefined_object_class OfInstance Nil (place_in 0 x.shared (GlobalName target)) b

abbrev pub shape_of : Names → NamedUnit → Option Shape
shape_of x (InitializerUnit target b) = Some (initialized_shape x (class_in 0 x.classes target) target b)
shape_of x (PoolInitializerUnit pool name b) = Some (initializer_shape undefined_object_class OfInstance Nil (place_in 0 x.shared (PoolName pool name)) b)
shape_of x (ProgramUnit b) = Some (initializer_shape undefined_object_class OfInstance Nil None b)
shape_of x (MethodUnit class m) = Some (method_shape (or_zero (class_in 0 x.classes class)) OfInstance m)
shape_of x (ClassMethodUnit class m) = Some (method_shape (or_zero (class_in 0 x.classes class)) OfClass m)
shape_of x u = None

abbrev pub methods_by : List Text → Shape → Option Text → ℕ → List MethodRow
methods_by names s None code = []
methods_by names s (Some t) code = record { class = s.class; side = s.side; selector = number_or_last names t; code = code } ∷ []

abbrev pub initializers_by : Shape → Option Text → ℕ → List Initializer
initializers_by s None code = record { code = code; self = s.self; target = s.target } ∷ []
initializers_by s (Some t) code = []

-- its statements, with the bodies and objects that are made of them
abbrev pub made_in : Names → Shape → Defined → Made (List Statement)
made_in x s d = body_in x s.class s.side s.kind s.parameters s.body d

abbrev pub bodies_in : Names → Shape → Defined → List Body
bodies_in x s d = body_made s.kind (context x s.class s.side (length d.bodies)) None s.parameters (s.parameters ++ s.body.temporaries) s.body.statements (made_in x s d)

abbrev pub with_shape : Names → Shape → Defined → Defined
with_shape x s d =
    record {
      methods = d.methods ++ methods_by x.names s s.method (length d.bodies);
      initializers = d.initializers ++ initializers_by s s.method (length d.bodies);
      bodies = d.bodies ++ bodies_in x s d;
      objects = d.objects ++ (made_in x s d).objects;
    }

abbrev pub with_shape_or : Names → Option Shape → Defined → Defined
with_shape_or x None d = d
with_shape_or x (Some s) d = with_shape x s d

-- what a unit adds
abbrev pub new_bodies : Names → Option Shape → Defined → List Body
new_bodies x None d = []
new_bodies x (Some s) d = bodies_in x s d

abbrev pub new_objects : Names → Option Shape → Defined → List HeapObject
new_objects x None d = []
new_objects x (Some s) d = (made_in x s d).objects

-- ---- units one behind the other, each by its shape and whether it is kept

pub record Item : Type 0 where
  pub kept : Bool
  pub shape : Option Shape

abbrev pub item_of : List Text → Names → NamedUnit → Item
item_of needed x u = record { kept = is_kept needed u; shape = shape_of x u }

abbrev pub with_items : Names → List Item → Defined → Defined
with_items x [] d = d
with_items x (i ∷ items) d = with_items x items (with_shape_or x i.shape d)

abbrev pub item_before : Bool → Option Shape → List Item → List Item
item_before true s items = record { kept = true; shape = s } ∷ items
item_before false s items = items

abbrev pub kept_items : List Item → List Item
kept_items [] = []
kept_items (i ∷ items) = item_before i.kept i.shape (kept_items items)

abbrev pub kept_on : Bool → Names → Option Shape → Defined → Defined
kept_on true x o d = with_shape_or x o d
kept_on false x o d = d

abbrev pub item_bodies : Bool → Names → Names → Option Shape → Defined → Defined → List (Option Body)
item_bodies true x x' o d d' = map (λ b. None) (new_bodies x o d)
item_bodies false x x' o d d' = map Some (new_bodies x' o d')

abbrev pub item_objects : Bool → Names → Names → Option Shape → Defined → Defined → List (Option HeapObject)
item_objects true x x' o d d' = map (λ b. None) (new_objects x o d)
item_objects false x x' o d d' = map Some (new_objects x' o d')

-- of the whole program, which bodies and which literals are kept
abbrev pub bodies_pattern : Names → Names → List Item → Defined → Defined → List (Option Body)
bodies_pattern x x' [] d d' = []
bodies_pattern x x' (i ∷ items) d d' = item_bodies i.kept x x' i.shape d d' ++ bodies_pattern x x' items (kept_on i.kept x i.shape d) (with_shape_or x' i.shape d')

abbrev pub objects_pattern : Names → Names → List Item → Defined → Defined → List (Option HeapObject)
objects_pattern x x' [] d d' = []
objects_pattern x x' (i ∷ items) d d' = item_objects i.kept x x' i.shape d d' ++ objects_pattern x x' items (kept_on i.kept x i.shape d) (with_shape_or x' i.shape d')
