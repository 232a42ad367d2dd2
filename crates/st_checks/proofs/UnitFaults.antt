-- The first fault of a unit, kind by kind.
use Rattle.std.proofs.Common.{◌≡◌, ℕ, List, Option, None, Some, take, refl}
use Rattle.std.specs.Option.{option_or}
use Rattle.st_base.specs.declared.builtins.MethodSide.TheVariants as sides
use Rattle.st_tree.specs.declared.tree.Body.{Body}
use Rattle.st_tree.specs.declared.tree.Method.{Method}
use Rattle.st_tree.specs.declared.units.ClassUnit.{ClassUnit}
use Rattle.st_tree.specs.declared.units.Unit.{Unit}
use Rattle.st_tree.specs.declared.units.UnitKind.TheVariants as kinds
use Rattle.st_checks.specs.Declarations.{Text}
use Rattle.st_checks.specs.Meanings.{outside_classes}
use Rattle.st_checks.specs.Faults.{class_fault, name_fault, pool_name_fault, method_fault, initializer_fault, pool_initializer_fault, body_fault}
use Rattle.st_checks.specs.StaticRules.{unit_fault}

or-none : {A : Type 0} (a : Option A) → option_or a None ≡ a
or-none None = refl
or-none (Some x) = refl

or-assoc : {A : Type 0} (a b c : Option A) → option_or (option_or a b) c ≡ option_or a (option_or b c)
or-assoc None b c = refl
or-assoc (Some x) b c = refl

pub unit_fault-version : (units : List Unit) (n : ℕ) (text : Text) → unit_fault units n (kinds.Version text) ≡ None
unfolding unit_fault
unit_fault-version units n text = refl

pub unit_fault-comment : (units : List Unit) (n : ℕ) (texts : List Text) → unit_fault units n (kinds.Comment texts) ≡ None
unfolding unit_fault
unit_fault-comment units n texts = refl

pub unit_fault-class : (units : List Unit) (n : ℕ) (c : ClassUnit) → unit_fault units n (kinds.Class c) ≡ class_fault (take n units) units c
unfolding unit_fault
unit_fault-class units n c = simp or-none refl

pub unit_fault-global_variable : (units : List Unit) (n : ℕ) (name : Text) → unit_fault units n (kinds.GlobalVariable name) ≡ name_fault (take n units) name
unfolding unit_fault
unit_fault-global_variable units n name = simp or-none refl

pub unit_fault-global_constant : (units : List Unit) (n : ℕ) (name : Text) → unit_fault units n (kinds.GlobalConstant name) ≡ name_fault (take n units) name
unfolding unit_fault
unit_fault-global_constant units n name = simp or-none refl

pub unit_fault-pool : (units : List Unit) (n : ℕ) (name : Text) → unit_fault units n (kinds.Pool name) ≡ name_fault (take n units) name
unfolding unit_fault
unit_fault-pool units n name = simp or-none refl

pub unit_fault-pool_variable : (units : List Unit) (n : ℕ) (pool name : Text) → unit_fault units n (kinds.PoolVariable pool name) ≡ pool_name_fault (take n units) units pool name
unfolding unit_fault
unit_fault-pool_variable units n pool name = simp or-none refl

pub unit_fault-pool_constant : (units : List Unit) (n : ℕ) (pool name : Text) → unit_fault units n (kinds.PoolConstant pool name) ≡ pool_name_fault (take n units) units pool name
unfolding unit_fault
unit_fault-pool_constant units n pool name = simp or-none refl

pub unit_fault-method : (units : List Unit) (n : ℕ) (class : Text) (m : Method) → unit_fault units n (kinds.Method class m) ≡ method_fault (take n units) units class sides.Instance m
unfolding unit_fault
unit_fault-method units n class m = simp (or-none, or-assoc) refl

pub unit_fault-class_method : (units : List Unit) (n : ℕ) (class : Text) (m : Method) → unit_fault units n (kinds.ClassMethod class m) ≡ method_fault (take n units) units class sides.Class m
unfolding unit_fault
unit_fault-class_method units n class m = simp (or-none, or-assoc) refl

pub unit_fault-initializer : (units : List Unit) (n : ℕ) (target : Text) (body : Body) → unit_fault units n (kinds.Initializer target body) ≡ initializer_fault (take n units) units target body
unfolding unit_fault
unit_fault-initializer units n target body = simp (or-none, or-assoc) refl

pub unit_fault-pool_initializer : (units : List Unit) (n : ℕ) (pool name : Text) (body : Body) → unit_fault units n (kinds.PoolInitializer pool name body) ≡ pool_initializer_fault (take n units) units pool name body
unfolding unit_fault
unit_fault-pool_initializer units n pool name body = simp (or-none, or-assoc) refl

pub unit_fault-program : (units : List Unit) (n : ℕ) (body : Body) → unit_fault units n (kinds.ProgramInitializer body) ≡ body_fault units (outside_classes body) None
unfolding unit_fault
unit_fault-program units n body = simp or-none refl
