-- What the units of a file declare, and which names are built in (ANSI NCITS 319, 4.1, 5).
use Rattle.std.specs.Prelude.{ℕ, zero, suc, Bool, true, false, ◌&&◌, ◌||◌, List, [], ◌∷◌, length, Option, None, Some, codes, nat_eq, if◌then◌else◌}
use Rattle.std.specs.Str.{bytes_eq}
use Rattle.std.specs.List.{list_any, find}
use Rattle.std.specs.Option.{option_map}
use Rattle.st_base.specs.BuiltIns.{classes, messages, MessageRow}
use Rattle.st_base.specs.declared.builtins.MethodSide.{MethodSide}
use Rattle.st_base.specs.declared.builtins.MethodSide.TheVariants as sides
use Rattle.st_tree.specs.declared.units.Indexed.{Indexed}
use Rattle.st_tree.specs.declared.units.Indexed.TheVariants as indexes
use Rattle.st_tree.specs.declared.units.ClassUnit.{ClassUnit}
use Rattle.st_tree.specs.declared.units.UnitKind.TheVariants as kinds
use Rattle.st_tree.specs.declared.units.Unit.{Unit}

abbrev pub Text : Type 0
Text = List ℕ

-- ---- what is built in

-- the first place, from 0, of an element that passes
abbrev pub first_place : {A : Type 0} → (A → Bool) → List A → Option ℕ
first_place p [] = None
first_place p (x ∷ xs) = if p x then Some 0 else option_map suc (first_place p xs)

-- the number of the built-in class of this name
unfoldable pub built_in_number : Text → Option ℕ
built_in_number name = first_place (λ c. bytes_eq name c.name) classes

unfoldable pub is_built_in : Text → Bool
is_built_in name = list_any (λ c. bytes_eq name c.name) classes

-- the built-in classes that a class of the file may have as its superclass
unfoldable pub superclasses : List Text
superclasses = codes "Object" ∷ codes "Exception" ∷ codes "Error" ∷ codes "ZeroDivide" ∷ codes "MessageNotUnderstood" ∷ codes "Notification" ∷ codes "Warning" ∷ []

abbrev pub same_side : MethodSide → MethodSide → Bool
same_side sides.Instance sides.Instance = true
same_side sides.Class sides.Class = true
same_side _ _ = false

-- this row of the table has the selector for this very class on this side
abbrev pub is_message : ℕ → MethodSide → Text → MessageRow → Bool
is_message class side selector m = nat_eq m.class class && same_side m.side side && bytes_eq selector m.selector

abbrev pub has_message : Option ℕ → MethodSide → Text → Bool
has_message None side selector = false
has_message (Some class) side selector = list_any (is_message class side selector) messages

-- the class of this name is built in and has the selector itself
unfoldable pub is_built_in_method : (class : Text) → MethodSide → (selector : Text) → Bool
is_built_in_method class side selector = has_message (built_in_number class) side selector

-- ---- what one unit declares

abbrev pub declares_class : Text → Unit → Bool
declares_class name u = elim u.kind [ kinds.Class c ↦ bytes_eq name c.name | _ ↦ false ]

abbrev pub declares_global : Text → Unit → Bool
declares_global name u = elim u.kind [ kinds.GlobalVariable t ↦ bytes_eq name t | kinds.GlobalConstant t ↦ bytes_eq name t | _ ↦ false ]

abbrev pub declares_pool : Text → Unit → Bool
declares_pool name u = elim u.kind [ kinds.Pool t ↦ bytes_eq name t | _ ↦ false ]

-- a variable or constant of the pool
abbrev pub declares_in_pool : (pool name : Text) → Unit → Bool
declares_in_pool pool name u = elim u.kind [
  | kinds.PoolVariable p t ↦ bytes_eq pool p && bytes_eq name t
  | kinds.PoolConstant p t ↦ bytes_eq pool p && bytes_eq name t
  | _ ↦ false
]

abbrev pub defines_method : (class : Text) → MethodSide → (selector : Text) → Unit → Bool
defines_method class side selector u = elim u.kind [
  | kinds.Method c m ↦ same_side side sides.Instance && bytes_eq class c && bytes_eq selector m.selector
  | kinds.ClassMethod c m ↦ same_side side sides.Class && bytes_eq class c && bytes_eq selector m.selector
  | _ ↦ false
]

-- a class, or a global variable or constant
abbrev pub initializes : Text → Unit → Bool
initializes name u = elim u.kind [ kinds.Initializer t body ↦ bytes_eq name t | _ ↦ false ]

abbrev pub initializes_in_pool : (pool name : Text) → Unit → Bool
initializes_in_pool pool name u = elim u.kind [ kinds.PoolInitializer p t body ↦ bytes_eq pool p && bytes_eq name t | _ ↦ false ]

-- ---- what several units declare

abbrev pub is_class : List Unit → Text → Bool
is_class units name = is_built_in name || list_any (declares_class name) units

-- a name of a class, a global or a pool, or of the one built-in object that has a name
abbrev pub is_name : List Unit → Text → Bool
is_name units name = is_class units name || bytes_eq name (codes "Transcript") || list_any (declares_global name) units || list_any (declares_pool name) units

abbrev pub class_of_unit : Option Unit → Option ClassUnit
class_of_unit None = None
class_of_unit (Some u) = elim u.kind [ kinds.Class c ↦ Some c | _ ↦ None ]

-- the first class unit of this name, where the name isn't built in
abbrev pub class_named : List Unit → Text → Option ClassUnit
class_named units name = if is_built_in name then None else class_of_unit (find (declares_class name) units)

-- at most so many classes of the file, from this one upwards
abbrev pub from_class : ℕ → List Unit → Option ClassUnit → List ClassUnit
from_class zero units c = []
from_class (suc n) units None = []
from_class (suc n) units (Some c) = c ∷ from_class n units (class_named units c.superclass)

-- The class of this name and its superclasses, upwards, as far as the file declares them: built-in classes have no
-- variables. Where they form a circle, which some unit is refused for, each stands here at least once.
unfoldable pub ancestors : List Unit → Text → List ClassUnit
ancestors units name = from_class (length units) units (class_named units name)

-- how the instances are indexed: in the way of the first of these classes that says so
abbrev pub way : List ClassUnit → Indexed
way [] = indexes.None
way (c ∷ cs) = elim c.indexed [ indexes.None ↦ way cs | indexes.Object ↦ indexes.Object | indexes.Byte ↦ indexes.Byte ]

-- the two ways are different ways to be indexed
abbrev pub clash : Indexed → Indexed → Bool
clash indexes.Object indexes.Byte = true
clash indexes.Byte indexes.Object = true
clash _ _ = false

-- a name stands twice in the list
abbrev pub repeats : List Text → Bool
repeats [] = false
repeats (t ∷ ts) = list_any (bytes_eq t) ts || repeats ts

-- a name stands in both lists
abbrev pub share : List Text → List Text → Bool
share ts us = list_any (λ t. list_any (bytes_eq t) us) ts
