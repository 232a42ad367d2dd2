-- What a name stands for where it is read or assigned, as far as a program may assign it (ANSI NCITS 319, 3.3, 3.4).
use Rattle.std.specs.Prelude.{Bool, true, false, List, [], ◌∷◌, Option, None, Some, codes, if◌then◌else◌}
use Rattle.std.specs.Str.{bytes_eq}
use Rattle.std.specs.List.{list_any, find}
use Rattle.st_base.specs.declared.builtins.MethodSide.{MethodSide}
use Rattle.st_base.specs.declared.builtins.MethodSide.TheVariants as sides
use Rattle.st_tree.specs.declared.tree.Name.{Name}
use Rattle.st_tree.specs.declared.tree.Body.{Body}
use Rattle.st_tree.specs.declared.units.ClassUnit.{ClassUnit}
use Rattle.st_tree.specs.declared.units.UnitKind.{UnitKind}
use Rattle.st_tree.specs.declared.units.UnitKind.TheVariants as kinds
use Rattle.st_tree.specs.declared.units.Unit.{Unit}
use Rattle.st_checks.specs.Declarations.{Text, is_class, declares_global, declares_pool, declares_in_pool, ancestors}
use Rattle.st_checks.specs.Bodies.{Scope, Mention}

-- nothing; what no program may assign, as a parameter, a constant, a class or `Transcript`; or a variable
pub data Meaning : Type 0 where
  Undeclared Fixed Assignable : Meaning

-- the first that is something
abbrev pub or_else : Meaning → Meaning → Meaning
or_else Undeclared m = m
or_else Fixed m = Fixed
or_else Assignable m = Assignable

abbrev pub assignable_if : Bool → Meaning
assignable_if true = Assignable
assignable_if false = Undeclared

abbrev pub fixed_if : Bool → Meaning
fixed_if true = Fixed
fixed_if false = Undeclared

-- ---- in scopes, from the innermost

abbrev pub declares : Text → List Name → Bool
declares name names = list_any (λ n. bytes_eq name n.text) names

abbrev pub in_scope : Scope → Text → Meaning
in_scope s name = or_else (fixed_if (declares name s.parameters)) (assignable_if (declares name s.temporaries))

abbrev pub in_scopes : List Scope → Text → Meaning
in_scopes [] name = Undeclared
in_scopes (s ∷ scopes) name = or_else (in_scope s name) (in_scopes scopes name)

-- ---- from a class

-- a variable that this unit declares, or a constant
abbrev pub of_unit : Option Unit → Meaning
of_unit None = Undeclared
of_unit (Some u) = elim u.kind [
  | kinds.GlobalVariable t ↦ Assignable
  | kinds.PoolVariable p t ↦ Assignable
  | kinds.GlobalConstant t ↦ Fixed
  | kinds.PoolConstant p t ↦ Fixed
  | _ ↦ Undeclared
]

-- the first variable or constant of this name of a pool of the file
abbrev pub in_pool : List Unit → (pool name : Text) → Meaning
in_pool units pool name = if list_any (declares_pool pool) units then of_unit (find (declares_in_pool pool name) units) else Undeclared

abbrev pub in_pools : List Unit → List Text → Text → Meaning
in_pools units [] name = Undeclared
in_pools units (pool ∷ pools) name = or_else (in_pool units pool name) (in_pools units pools name)

-- an instance variable, or on the class side a class instance variable
abbrev pub own_names : MethodSide → ClassUnit → List Text
own_names sides.Instance c = c.instance_names
own_names sides.Class c = c.class_instance_names

abbrev pub in_instances : MethodSide → List ClassUnit → Text → Meaning
in_instances side line name = assignable_if (list_any (λ c. list_any (bytes_eq name) (own_names side c)) line)

-- class by class upwards, its class variables and then its pools in order
abbrev pub in_classes : List Unit → List ClassUnit → Text → Meaning
in_classes units [] name = Undeclared
in_classes units (c ∷ line) name =
    or_else (assignable_if (list_any (bytes_eq name) c.class_names)) (or_else (in_pools units c.pools name) (in_classes units line name))

-- a class, a global or `Transcript`
abbrev pub in_program : List Unit → Text → Meaning
in_program units name =
    or_else (fixed_if (is_class units name)) (or_else (of_unit (find (declares_global name) units)) (fixed_if (bytes_eq name (codes "Transcript"))))

-- a name behind the scopes, seen from a class on one of its sides
unfoldable pub meaning_outside : List Unit → (class : Text) → MethodSide → Text → Meaning
meaning_outside units class side name =
    or_else (in_instances side (ancestors units class) name) (or_else (in_classes units (ancestors units class) name) (in_program units name))

-- ---- in the body of a unit

-- a method or initializer, with the class and the side from which it sees names
pub record Written : Type 0 where
  pub class : Text
  pub side : MethodSide
  pub parameters : List Name
  pub body : Body

-- an initializer that belongs to no class
abbrev pub outside_classes : Body → Written
outside_classes body = record { class = codes "UndefinedObject"; side = sides.Instance; parameters = []; body = body }

abbrev pub initializer : Bool → (target : Text) → Body → Written
initializer true target body = record { class = target; side = sides.Class; parameters = []; body = body }
initializer false target body = outside_classes body

abbrev pub written : List Unit → UnitKind → Option Written
written units (kinds.Initializer target body) = Some (initializer (is_class units target) target body)
written units (kinds.PoolInitializer pool name body) = Some (outside_classes body)
written units (kinds.ProgramInitializer body) = Some (outside_classes body)
written units (kinds.Method class m) = Some (record { class = class; side = sides.Instance; parameters = m.parameters; body = m.body })
written units (kinds.ClassMethod class m) = Some (record { class = class; side = sides.Class; parameters = m.parameters; body = m.body })
written units _ = None

-- The innermost scope that declares the name, then the variables of the class, then what the class and its
-- superclasses share, then the program's names.
abbrev pub meaning : List Unit → Written → Mention → Meaning
meaning units w m = or_else (in_scopes m.scopes m.name.text) (meaning_outside units w.class w.side m.name.text)
