-- The program that the units of a file are: classes, variables, methods, initializers and bodies, each by its number in file order. Source: ANSI 3 (names and scopes) and 4 (units).
use Rattle.std.specs.Prelude.{ℕ, suc, ◌+◌, true, List, [], ◌∷◌, ◌++◌, map, length, Option, Some, None}
use Rattle.object_heap.specs.declared.value.Value.{Value}
use Rattle.object_heap.specs.declared.value.Value.TheVariants.{Nil, Class}
use Rattle.object_heap.specs.Store.{Object}
use Rattle.st_code.specs.Texts.{Text}
use Rattle.st_code.specs.Program.{Kind, InMethod, InInitializer, Body, Statement, Side, OfInstance, OfClass, Indexed, NoIndexes, ClassRow, MethodRow, Initializer, Program}
use Rattle.st_code.specs.Named.{NamedBody, NamedMethod, NamedClass, NamedUnit, ClassUnit, GlobalUnit, PoolVariableUnit, InitializerUnit, PoolInitializerUnit, ProgramUnit, MethodUnit, ClassMethodUnit}
use Rattle.st_code.specs.Resolved.{SharedName, GlobalName, PoolName, ClassName, ClassInstanceName, ClassNames, Names, class_names_at, class_in, place_in, number_or_last, Made, Context, Counts, inside, body_made, statements_made}
use Rattle.st_code.specs.BuiltIns.{undefined_object_class, built_in_class_rows}
use Rattle.st_code.specs.Literals.{trouble_literals}

-- ---- what the units declare

abbrev pub built_in_names : ClassRow → ClassNames
built_in_names row = record { row = row; base = row.slots; instance_names = []; class_instance_names = []; class_names = []; pools = [] }

abbrev pub or_zero : Option ℕ → ℕ
or_zero (Some n) = n
or_zero None = 0

-- a class without a way to be indexed takes its superclass's
abbrev pub indexed_as : Indexed → Indexed → Indexed
indexed_as NoIndexes above = above
indexed_as own above = own

-- a class of the file over its superclass, where so many variables were declared before
abbrev pub class_over : NamedClass → ℕ → ClassNames → ℕ → ClassNames
class_over c superclass above variables =
    record {
      row = record {
        name = c.name;
        superclass = Some superclass;
        in_file = true;
        indexed = indexed_as c.indexed above.row.indexed;
        slots = above.base + length (above.instance_names ++ c.instance_names);
        class_slots = variables + length c.class_names;
      };
      base = above.base;
      instance_names = above.instance_names ++ c.instance_names;
      class_instance_names = above.class_instance_names ++ c.class_instance_names;
      class_names = c.class_names;
      pools = c.pools;
    }

abbrev pub class_variables : ℕ → ClassNames → List SharedName
class_variables class c = map (ClassName class) c.class_names ++ map (ClassInstanceName class) c.class_instance_names

abbrev pub with_class : Names → ClassNames → Names
with_class x c = record x { classes = x.classes ++ c ∷ []; shared = x.shared ++ class_variables (length x.classes) c }

abbrev pub with_shared : Names → SharedName → Names
with_shared x v = record x { shared = x.shared ++ v ∷ [] }

abbrev pub declared_class : Names → NamedClass → Names
declared_class x c = let superclass = or_zero (class_in 0 x.classes c.superclass) in with_class x (class_over c superclass (class_names_at x.classes superclass) (length x.shared))

abbrev pub declared_unit : Names → NamedUnit → Names
declared_unit x (ClassUnit c) = declared_class x c
declared_unit x (GlobalUnit name) = with_shared x (GlobalName name)
declared_unit x (PoolVariableUnit pool name) = with_shared x (PoolName pool name)
declared_unit x u = x

abbrev pub declared_units : Names → List NamedUnit → Names
declared_units x [] = x
declared_units x (u ∷ units) = declared_units (declared_unit x u) units

-- all that names stand for, with the numbers of selectors and symbols
unfoldable pub names_of : (names : List Text) → List NamedUnit → Names
names_of names units = declared_units (record { names = names; classes = map built_in_names built_in_class_rows; shared = [] }) units

-- ---- what they define

-- methods, initializers, bodies and literals
pub record Defined : Type 0 where
  pub methods : List MethodRow
  pub initializers : List Initializer
  pub bodies : List Body
  pub objects : List Object

abbrev pub nothing_defined : Defined
nothing_defined = record { methods = []; initializers = []; bodies = []; objects = [] }

abbrev pub counts_of : Defined → Counts
counts_of d = record { bodies = length d.bodies; objects = length d.objects }

abbrev pub context : Names → ℕ → Side → ℕ → Context
context x class side code = record { names = x; class = class; side = side; code = code; scopes = [] }

abbrev pub body_in : Names → ℕ → Side → Kind → List Text → NamedBody → Defined → Made (List Statement)
body_in x class side kind parameters b d =
    let code = length d.bodies in
    statements_made (inside (context x class side code) code (parameters ++ b.temporaries)) (record { bodies = suc code; objects = length d.objects }) b.statements

-- the definitions with one more body, a method or an initializer
abbrev pub with_body : Names → ℕ → Side → Kind → List Text → NamedBody → Defined → List MethodRow → List Initializer → Defined
with_body x class side kind parameters b d methods initializers =
    let statements = body_in x class side kind parameters b d in
    record {
      methods = d.methods ++ methods;
      initializers = d.initializers ++ initializers;
      bodies = d.bodies ++ body_made kind (context x class side (length d.bodies)) None parameters (parameters ++ b.temporaries) b.statements statements;
      objects = d.objects ++ statements.objects;
    }

abbrev pub with_method : Names → ℕ → Side → NamedMethod → Defined → Defined
with_method x class side m d =
    with_body x class side InMethod m.parameters m.body d (record { class = class; side = side; selector = number_or_last x.names m.selector; code = length d.bodies } ∷ []) []

abbrev pub with_initializer : Names → ℕ → Side → Value → Option ℕ → NamedBody → Defined → Defined
with_initializer x class side self target b d =
    with_body x class side InInitializer [] b d [] (record { code = length d.bodies; self = self; target = target } ∷ [])

-- the initializer of a class runs as the class; any other has self nil, and its value is a variable's
abbrev pub initialized : Names → Option ℕ → Text → NamedBody → Defined → Defined
initialized x (Some class) target b d = with_initializer x class OfClass (Class class) None b d
initialized x None target b d = with_initializer x undefined_object_class OfInstance Nil (place_in 0 x.shared (GlobalName target)) b d

abbrev pub defined_unit : Names → NamedUnit → Defined → Defined
defined_unit x (InitializerUnit target b) d = initialized x (class_in 0 x.classes target) target b d
defined_unit x (PoolInitializerUnit pool name b) d = with_initializer x undefined_object_class OfInstance Nil (place_in 0 x.shared (PoolName pool name)) b d
defined_unit x (ProgramUnit b) d = with_initializer x undefined_object_class OfInstance Nil None b d
defined_unit x (MethodUnit class m) d = with_method x (or_zero (class_in 0 x.classes class)) OfInstance m d
defined_unit x (ClassMethodUnit class m) d = with_method x (or_zero (class_in 0 x.classes class)) OfClass m d
defined_unit x u d = d

abbrev pub defined_units : Names → List NamedUnit → Defined → Defined
defined_units x [] d = d
defined_units x (u ∷ units) d = defined_units x units (defined_unit x u d)

-- the limits of a run
pub record RunLimits : Type 0 where
  pub steps : ℕ
  pub depth : ℕ
  pub cells : ℕ

abbrev pub class_row : ClassNames → ClassRow
class_row c = c.row

abbrev pub program_with : Names → Defined → RunLimits → Program
program_with x d limits =
    record {
      names = x.names;
      classes = map class_row x.classes;
      methods = d.methods;
      bodies = d.bodies;
      initializers = d.initializers;
      literals = d.objects ++ trouble_literals;
      trouble_place = length d.objects;
      variables = length x.shared;
      step_limit = limits.steps;
      depth_limit = limits.depth;
      cell_limit = limits.cells;
    }

-- the program that the units of a file are, where selectors and symbols have these numbers
unfoldable pub program_of : (names : List Text) → List NamedUnit → RunLimits → Program
program_of names units limits = program_with (names_of names units) (defined_units (names_of names units) units nothing_defined) limits
