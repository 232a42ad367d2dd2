-- Where a tree stands, as it is seen: its class and side, the body around it, and its scopes from the innermost on.
use Rattle.std.specs.Prelude.{ℕ, List, ◌++◌, map, Option, Some, None}
use Rattle.st_tree.specs.declared.tree.Name.{Name}
use Rattle.st_base.specs.declared.builtins.MethodSide.{MethodSide}
use Rattle.st_base.specs.declared.builtins.MethodSide.TheVariants as method_side
use Rattle.st_code.specs.Texts.{Text}
use Rattle.st_code.specs.Program.{Side, OfInstance, OfClass}
use Rattle.st_code.specs.Written.{name_text}
use Rattle.st_code.specs.Resolved.{ClassNames, Names, no_names, SharedName, GlobalName, PoolName, ClassName, Meant, or_meant, meant_shared, meant_class, place_in, class_in, in_pools, class_names_at}
use Rattle.program_image.specs.declared.class.Class.{Class}
use Rattle.program_image.specs.Classes.{seen_class}
use Rattle.std.specs.Borrow.{Bor}
use Rattle.st_compiler.specs.declared.lookup.Key.{Key}
use Rattle.st_compiler.specs.declared.lookup.Key.TheVariants as key

abbrev pub side_of : MethodSide → Side
side_of method_side.Instance = OfInstance
side_of method_side.Class = OfClass

-- the names of a body's variables, parameters first
abbrev pub variables_of : List Name → List Name → List Text
variables_of parameters temporaries = map name_text parameters ++ map name_text temporaries

-- what a class's names are, and none of a class that isn't there
abbrev pub names_of_class : Option (Bor Class) → ClassNames
names_of_class None = no_names
names_of_class (Some c) = seen_class c.now

abbrev pub seen_key : Key → SharedName
seen_key (key.Global name) = GlobalName name.now
seen_key (key.Pool pool name) = PoolName pool.now name.now
seen_key (key.OfClass class name) = ClassName class name.now

-- the class variables and then the pools of one class
abbrev pub in_one_class : Names → ℕ → Text → Option Meant
in_one_class x class t = or_meant (meant_shared (place_in 0 x.shared (ClassName class t))) (in_pools x.shared (class_names_at x.classes class).pools t)

-- classes, and then globals
abbrev pub named_globally : Names → Text → Option Meant
named_globally x t = or_meant (meant_class (class_in 0 x.classes t)) (meant_shared (place_in 0 x.shared (GlobalName t)))
