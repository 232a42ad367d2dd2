-- The static rules: which units of a file break one, and the first that does (ANSI NCITS 319, 3.3, 3.4, 4.1).
use Rattle.std.specs.Prelude.{◌≡◌, ℕ, suc, ◌+◌, Bool, true, false, not, ◌||◌, ◌&&◌, List, [], ◌∷◌, ◌++◌, Option, None, Some, take, min, if◌then◌else◌}
use Rattle.std.specs.Str.{bytes_eq}
use Rattle.std.specs.List.{list_any}
use Rattle.std.specs.Option.{option_map, option_or, option_and_then}
use Rattle.st_base.specs.declared.builtins.MethodSide.TheVariants as sides
use Rattle.st_base.specs.declared.faults.Place.{Place}
use Rattle.st_base.specs.declared.faults.Reason.{Reason}
use Rattle.st_base.specs.declared.faults.Reason.TheVariants as reasons
use Rattle.st_tree.specs.Numbers.{element_of}
use Rattle.st_tree.specs.declared.tree.Name.{Name}
use Rattle.st_tree.specs.declared.units.ClassUnit.{ClassUnit}
use Rattle.st_tree.specs.declared.units.UnitKind.{UnitKind}
use Rattle.st_tree.specs.declared.units.UnitKind.TheVariants as kinds
use Rattle.st_tree.specs.declared.units.Unit.{Unit}
use Rattle.st_checks.specs.Declarations.{Text, superclasses, declares_class, declares_global, declares_pool, declares_in_pool, defines_method, initializes, initializes_in_pool, is_class, is_name, is_built_in_method, ancestors, way, clash, repeats, share}
use Rattle.st_checks.specs.Bodies.{Scope, Mention, Naming, names_in_body}
use Rattle.st_checks.specs.Meanings.{Meaning, Undeclared, Fixed, Written, written, meaning}

-- ---- rules on units as a whole; `before` are the earlier units, `units` all of the file

abbrev pub duplicates_class : (before : List Unit) → UnitKind → Bool
duplicates_class before (kinds.Class c) = is_class before c.name
duplicates_class before _ = false

abbrev pub duplicates_name : (before : List Unit) → UnitKind → Bool
duplicates_name before (kinds.Class c) = is_name before c.name
duplicates_name before (kinds.GlobalVariable name) = is_name before name
duplicates_name before (kinds.GlobalConstant name) = is_name before name
duplicates_name before (kinds.Pool name) = is_name before name
duplicates_name before (kinds.PoolVariable pool name) = list_any (declares_in_pool pool name) before
duplicates_name before (kinds.PoolConstant pool name) = list_any (declares_in_pool pool name) before
duplicates_name before _ = false

abbrev pub lacks_superclass : (before : List Unit) → UnitKind → Bool
lacks_superclass before (kinds.Class c) = not (list_any (bytes_eq c.superclass) superclasses || list_any (declares_class c.superclass) before)
lacks_superclass before _ = false

abbrev pub clashes : (units : List Unit) → UnitKind → Bool
clashes units (kinds.Class c) = clash c.indexed (way (ancestors units c.superclass))
clashes units _ = false

-- a list of the class has a name twice, or one of the classes above it has the variable
abbrev pub repeats_variable : (above : List ClassUnit) → ClassUnit → Bool
repeats_variable above c =
    repeats c.instance_names || (repeats c.class_names || (repeats c.pools || (repeats c.class_instance_names
    || list_any (λ a. share a.instance_names c.instance_names || share a.class_instance_names c.class_instance_names) above)))

abbrev pub duplicates_variable : (units : List Unit) → UnitKind → Bool
duplicates_variable units (kinds.Class c) = repeats_variable (ancestors units c.superclass) c
duplicates_variable units _ = false

abbrev pub lacks_pool : (units : List Unit) → UnitKind → Bool
lacks_pool units (kinds.Class c) = list_any (λ pool. not (list_any (declares_pool pool) units)) c.pools
lacks_pool units (kinds.PoolVariable pool name) = not (list_any (declares_pool pool) units)
lacks_pool units (kinds.PoolConstant pool name) = not (list_any (declares_pool pool) units)
lacks_pool units (kinds.PoolInitializer pool name body) = not (list_any (declares_pool pool) units)
lacks_pool units _ = false

abbrev pub lacks_class : (units : List Unit) → UnitKind → Bool
lacks_class units (kinds.Method class m) = not (is_class units class)
lacks_class units (kinds.ClassMethod class m) = not (is_class units class)
lacks_class units _ = false

abbrev pub replaces_built_in : UnitKind → Bool
replaces_built_in (kinds.Method class m) = is_built_in_method class sides.Instance m.selector
replaces_built_in (kinds.ClassMethod class m) = is_built_in_method class sides.Class m.selector
replaces_built_in _ = false

abbrev pub duplicates_method : (before : List Unit) → UnitKind → Bool
duplicates_method before (kinds.Method class m) = list_any (defines_method class sides.Instance m.selector) before
duplicates_method before (kinds.ClassMethod class m) = list_any (defines_method class sides.Class m.selector) before
duplicates_method before _ = false

abbrev pub lacks_target : (units : List Unit) → UnitKind → Bool
lacks_target units (kinds.Initializer target body) = not (is_class units target || list_any (declares_global target) units)
lacks_target units (kinds.PoolInitializer pool name body) = not (list_any (declares_in_pool pool name) units)
lacks_target units _ = false

abbrev pub initializes_again : (before : List Unit) → UnitKind → Bool
initializes_again before (kinds.Initializer target body) = list_any (initializes target) before
initializes_again before (kinds.PoolInitializer pool name body) = list_any (initializes_in_pool pool name) before
initializes_again before _ = false

-- ---- rules on bodies

-- what a unit's body says of names
abbrev pub naming : Written → Naming
naming w = names_in_body w.body w.parameters []

-- the places of names whose text stands before them in the list
abbrev pub repeated_from : (seen : List Text) → List Name → List ℕ
repeated_from seen [] = []
repeated_from seen (n ∷ names) =
    if list_any (bytes_eq n.text) seen then n.at ∷ repeated_from (n.text ∷ seen) names else repeated_from (n.text ∷ seen) names

abbrev pub repeated_in : List Scope → List ℕ
repeated_in [] = []
repeated_in (s ∷ scopes) = repeated_from [] (s.parameters ++ s.temporaries) ++ repeated_in scopes

abbrev pub is_undeclared : Meaning → Bool
is_undeclared Undeclared = true
is_undeclared _ = false

abbrev pub is_fixed : Meaning → Bool
is_fixed Fixed = true
is_fixed _ = false

-- the places of mentions that the test holds of
abbrev pub places : (Mention → Bool) → List Mention → List ℕ
places test [] = []
places test (m ∷ mentions) = if test m then m.name.at ∷ places test mentions else places test mentions

abbrev pub undeclared_in : List Unit → Written → List Mention → List ℕ
undeclared_in units w mentions = places (λ m. is_undeclared (meaning units w m)) mentions

abbrev pub fixed_in : List Unit → Written → List Mention → List ℕ
fixed_in units w mentions = places (λ m. m.assigned && is_fixed (meaning units w m)) mentions

abbrev pub lesser : ℕ → Option ℕ → ℕ
lesser n None = n
lesser n (Some m) = min n m

abbrev pub least : List ℕ → Option ℕ
least [] = None
least (n ∷ ns) = Some (lesser n (least ns))

unfoldable pub repeated_name : Written → Option ℕ
repeated_name w = least (repeated_in (naming w).scopes)

unfoldable pub undeclared_name : List Unit → Written → Option ℕ
undeclared_name units w = least (undeclared_in units w (naming w).mentions)

unfoldable pub fixed_name : List Unit → Written → Option ℕ
fixed_name units w = least (fixed_in units w (naming w).mentions)

-- ---- the first break

-- a rule that a unit breaks: at a byte of its body, or as a whole
pub record Fault : Type 0 where
  pub reason : Reason
  pub body_byte : Option ℕ

abbrev pub as_whole : Reason → Bool → Option Fault
as_whole reason true = Some (record { reason = reason; body_byte = None })
as_whole reason false = None

abbrev pub in_body : Reason → Option ℕ → Option Fault
in_body reason None = None
in_body reason (Some byte) = Some (record { reason = reason; body_byte = Some byte })

-- a variable that is declared twice: by a class, or in a body
abbrev pub variable_fault : (units : List Unit) → UnitKind → Option Fault
variable_fault units kind =
    option_or (as_whole reasons.DuplicateVariable (duplicates_variable units kind)) (in_body reasons.DuplicateVariable (option_and_then repeated_name (written units kind)))

-- each rule in turn
abbrev pub faults : (before units : List Unit) → UnitKind → List (Option Fault)
faults before units kind =
    as_whole reasons.DuplicateClass (duplicates_class before kind)
    ∷ as_whole reasons.DuplicateName (duplicates_name before kind)
    ∷ as_whole reasons.UnknownSuperclass (lacks_superclass before kind)
    ∷ as_whole reasons.IndexedClash (clashes units kind)
    ∷ variable_fault units kind
    ∷ as_whole reasons.UnknownPool (lacks_pool units kind)
    ∷ as_whole reasons.UnknownClass (lacks_class units kind)
    ∷ as_whole reasons.ReplacesBuiltin (replaces_built_in kind)
    ∷ as_whole reasons.DuplicateMethod (duplicates_method before kind)
    ∷ as_whole reasons.UnknownTarget (lacks_target units kind)
    ∷ as_whole reasons.SecondInitializer (initializes_again before kind)
    ∷ in_body reasons.UndeclaredName (option_and_then (undeclared_name units) (written units kind))
    ∷ in_body reasons.NotAssignable (option_and_then (fixed_name units) (written units kind))
    ∷ []

abbrev pub first_some : {A : Type 0} → List (Option A) → Option A
first_some [] = None
first_some (o ∷ more) = option_or o (first_some more)

-- the first rule that the n-th unit, counted from 0, breaks
unfoldable pub unit_fault : List Unit → ℕ → UnitKind → Option Fault
unit_fault units n kind = first_some (faults (take n units) units kind)

-- a rule that is broken, and where
pub record Break : Type 0 where
  pub place : Place
  pub reason : Reason

abbrev pub broken : Place → Reason → Break
broken place reason = record { place = place; reason = reason }

abbrev pub place_at : ℕ → ℕ → Place
place_at element byte = record { element = element; byte = byte }

-- a fault of a unit whose first element has this number: at that element as a whole, or in the next, which is its body
abbrev pub break_of : ℕ → Fault → Break
break_of element f = elim f.body_byte [ None ↦ broken (place_at element 0) f.reason | Some byte ↦ broken (place_at (element + 1) byte) f.reason ]

-- the first break among the n-th unit and those behind it
abbrev pub first_break_from : List Unit → ℕ → List Unit → Option Break
first_break_from units n [] = None
first_break_from units n (u ∷ more) = option_or (option_map (break_of (element_of units n)) (unit_fault units n u.kind)) (first_break_from units (suc n) more)

-- The first unit that breaks a rule, the first rule that it breaks, and the least place of a name that breaks it.
unfoldable pub first_break : List Unit → Option Break
first_break units = first_break_from units 0 units

-- no unit breaks a rule
abbrev pub MeetsRules : List Unit → Type 0
MeetsRules units = first_break units ≡ None
