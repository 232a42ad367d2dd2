-- The first fault of a unit, kind by kind, as the code finds it.
use Rattle.std.specs.Prelude.{◌≡◌, List, Option, not, ◌||◌}
use Rattle.std.specs.List.{list_any}
use Rattle.std.specs.Option.{option_map, option_or}
use Rattle.std.specs.Str.{bytes_eq}
use Rattle.st_base.specs.declared.builtins.MethodSide.{MethodSide}
use Rattle.st_base.specs.declared.faults.Reason.TheVariants as reasons
use Rattle.st_tree.specs.declared.tree.Body.{Body}
use Rattle.st_tree.specs.declared.tree.Method.{Method}
use Rattle.st_tree.specs.declared.units.ClassUnit.{ClassUnit}
use Rattle.st_tree.specs.declared.units.Unit.{Unit}
use Rattle.st_checks.specs.Declarations.{Text, superclasses, declares_class, declares_global, declares_pool, declares_in_pool, defines_method, initializes, initializes_in_pool, is_class, is_name, is_built_in_method, ancestors, way, clash}
use Rattle.st_checks.specs.Meanings.{Written, initializer, outside_classes}
use Rattle.st_checks.specs.StaticRules.{Fault, as_whole, in_body, repeats_variable, repeated_name, undeclared_name, fixed_name}
use Rattle.st_checks.specs.declared.bodies.BodyFaults.{BodyFaults}
use Rattle.st_checks.specs.declared.bodies.Seen.{Seen}
use Rattle.st_checks.specs.declared.broken.Broken.{Broken}

-- what the code passes as references
abbrev pub written_of : Seen → Written
written_of s = record { class = s.class.now; side = s.side; parameters = s.parameters.now; body = s.body.now }

-- the least place, if any, at which the body breaks each of its rules
pub record IsBodyFaults (units : List Unit) (w : Written) (f : BodyFaults) : Type 0 where
  pub repeated : f.repeated ≡ repeated_name w
  pub undeclared : f.undeclared ≡ undeclared_name units w
  pub fixed : f.fixed ≡ fixed_name units w

abbrev pub fault_of : Broken → Fault
fault_of b = record { reason = b.reason; body_byte = b.body_byte }

abbrev pub fault_in : Option Broken → Option Fault
fault_in b = option_map fault_of b

-- ---- a class

abbrev pub list_fault : List Unit → ClassUnit → Option Fault
list_fault units c =
    option_or (as_whole reasons.IndexedClash (clash c.indexed (way (ancestors units c.superclass))))
    (option_or (as_whole reasons.DuplicateVariable (repeats_variable (ancestors units c.superclass) c))
    (as_whole reasons.UnknownPool (list_any (λ pool. not (list_any (declares_pool pool) units)) c.pools)))

abbrev pub class_fault : (before units : List Unit) → ClassUnit → Option Fault
class_fault before units c =
    option_or (as_whole reasons.DuplicateClass (is_class before c.name))
    (option_or (as_whole reasons.DuplicateName (is_name before c.name))
    (option_or (as_whole reasons.UnknownSuperclass (not (list_any (bytes_eq c.superclass) superclasses || list_any (declares_class c.superclass) before)))
    (list_fault units c)))

-- ---- a global or a pool, and a variable or constant of a pool

abbrev pub name_fault : (before : List Unit) → Text → Option Fault
name_fault before name = as_whole reasons.DuplicateName (is_name before name)

abbrev pub pool_name_fault : (before units : List Unit) → (pool name : Text) → Option Fault
pool_name_fault before units pool name =
    option_or (as_whole reasons.DuplicateName (list_any (declares_in_pool pool name) before))
    (as_whole reasons.UnknownPool (not (list_any (declares_pool pool) units)))

-- ---- a method or initializer: the names that its body repeats, what the unit is for, and the names that its body mentions

abbrev pub mention_fault : List Unit → Written → Option Fault
mention_fault units w = option_or (in_body reasons.UndeclaredName (undeclared_name units w)) (in_body reasons.NotAssignable (fixed_name units w))

abbrev pub body_fault : List Unit → Written → Option Fault → Option Fault
body_fault units w place = option_or (in_body reasons.DuplicateVariable (repeated_name w)) (option_or place (mention_fault units w))

-- the same of what the code knows of the body
abbrev pub known_fault : BodyFaults → Option Fault → Option Fault
known_fault f place =
    option_or (in_body reasons.DuplicateVariable f.repeated)
    (option_or place (option_or (in_body reasons.UndeclaredName f.undeclared) (in_body reasons.NotAssignable f.fixed)))

abbrev pub place_fault : (before units : List Unit) → (class : Text) → MethodSide → (selector : Text) → Option Fault
place_fault before units class side selector =
    option_or (as_whole reasons.UnknownClass (not (is_class units class)))
    (option_or (as_whole reasons.ReplacesBuiltin (is_built_in_method class side selector))
    (as_whole reasons.DuplicateMethod (list_any (defines_method class side selector) before)))

abbrev pub target_fault : (before units : List Unit) → (target : Text) → Option Fault
target_fault before units target =
    option_or (as_whole reasons.UnknownTarget (not (is_class units target || list_any (declares_global target) units)))
    (as_whole reasons.SecondInitializer (list_any (initializes target) before))

abbrev pub pool_target_fault : (before units : List Unit) → (pool name : Text) → Option Fault
pool_target_fault before units pool name =
    option_or (as_whole reasons.UnknownPool (not (list_any (declares_pool pool) units)))
    (option_or (as_whole reasons.UnknownTarget (not (list_any (declares_in_pool pool name) units)))
    (as_whole reasons.SecondInitializer (list_any (initializes_in_pool pool name) before)))

abbrev pub method_written : (class : Text) → MethodSide → Method → Written
method_written class side m = record { class = class; side = side; parameters = m.parameters; body = m.body }

abbrev pub method_fault : (before units : List Unit) → (class : Text) → MethodSide → Method → Option Fault
method_fault before units class side m = body_fault units (method_written class side m) (place_fault before units class side m.selector)

abbrev pub initializer_fault : (before units : List Unit) → (target : Text) → Body → Option Fault
initializer_fault before units target body = body_fault units (initializer (is_class units target) target body) (target_fault before units target)

abbrev pub pool_initializer_fault : (before units : List Unit) → (pool name : Text) → Body → Option Fault
pool_initializer_fault before units pool name body = body_fault units (outside_classes body) (pool_target_fault before units pool name)
