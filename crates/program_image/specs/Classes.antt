-- Classes and variables of a program as they are seen.
use Rattle.std.specs.Prelude.{ℕ, suc, ◌<◌, ◌≡◌, ◌^◌, List, [], ◌∷◌, length, map, Option, Some, None, Bool, true, false, ◌&&◌, ◌||◌, nat_lt, if◌then◌else◌, codes}
use Rattle.std.specs.HashMap.{HashMap, get_by}
use Rattle.std.specs.Option.{option_or}
use Rattle.std.specs.Str.{bytes_eq}
use Rattle.std.specs.declared.vec.Vec.{Vec}
use Rattle.st_code.specs.Texts.{Text}
use Rattle.st_code.specs.Program.{NoIndexes}
use Rattle.st_code.specs.Named.{NamedUnit}
use Rattle.st_code.specs.Written.{indexed_by}
use Rattle.st_code.specs.Definitions.{declared_unit}
use Rattle.st_code.specs.Resolved.{ClassNames, SharedName, GlobalName, PoolName, ClassName, ClassInstanceName, Names, class_in}
use Rattle.st_base.specs.BuiltIns as base
use Rattle.program_image.specs.declared.class.Class.{Class}
use Rattle.program_image.specs.declared.class.SharedVariable.{SharedVariable}
use Rattle.program_image.specs.declared.class.SharedVariable.TheVariants as shared

abbrev pub seen_class : Class → ClassNames
seen_class c =
    record {
      row = record {
        name = c.name;
        superclass = c.superclass;
        in_file = c.in_file;
        indexed = indexed_by c.indexed;
        slots = c.slots;
        class_slots = c.class_slots;
      };
      base = c.base;
      instance_names = c.instance_names;
      class_instance_names = c.class_instance_names;
      class_names = c.class_names;
      pools = c.pools;
    }

abbrev pub seen_variable : SharedVariable → SharedName
seen_variable (shared.Global name) = GlobalName name
seen_variable (shared.Pool pool name) = PoolName pool name
seen_variable (shared.OfClass class name) = ClassName class name
seen_variable (shared.OfClassInstance class name) = ClassInstanceName class name

-- what the classes and variables stand for, beside the numbered names
abbrev pub seen_names : List Text → List Class → List SharedVariable → Names
seen_names names classes variables = record { names = names; classes = map seen_class classes; shared = map seen_variable variables }

abbrev pub is_below : Option ℕ → ℕ → Bool
is_below None n = true
is_below (Some s) n = nat_lt s n

-- each class, numbered from here on, stands behind its superclass
abbrev pub falls : ℕ → List ClassNames → Bool
falls n [] = true
falls n (c ∷ classes) = is_below c.row.superclass n && falls (suc n) classes

-- whether a key is this name
abbrev pub is_name : {Z : Type 0} → Text → Vec ℕ Z → Bool
is_name name k = bytes_eq name k.items

-- there is a class, the numbers of classes and variables fit 32 bits, and each class stands behind its superclass
pub record IsNumbered (x : Names) : Type 0 where
  pub some : 0 < length x.classes
  pub classes : length x.classes < 2 ^ 32
  pub shared : length x.shared < 2 ^ 32
  pub fall : falls 0 x.classes ≡ true

-- the map has, for each name, the number of the first class of that name
pub record HasNumbers {Z S : Type 0} (classes : List Class) (m : HashMap (Vec ℕ Z) ℕ S) : Type 0 where
  pub each : (name : Text) → get_by (is_name name) m ≡ class_in 0 (map seen_class classes) name

-- the map gains the number of a name, unless it has one
pub record GainsName {Z S : Type 0} (old : HashMap (Vec ℕ Z) ℕ S) (name : Text) (number : ℕ) (new : HashMap (Vec ℕ Z) ℕ S) : Type 0 where
  pub each : (t : Text) → get_by (is_name t) new ≡ option_or (get_by (is_name t) old) (if bytes_eq t name then Some number else None)

-- ---- units

-- what a unit adds
abbrev pub declared_kind : Names → Option NamedUnit → Names
declared_kind x None = x
declared_kind x (Some u) = declared_unit x u

-- ---- built-in classes

abbrev pub is_one_of : Text → List Text → Bool
is_one_of name [] = false
is_one_of name (t ∷ texts) = bytes_eq name t || is_one_of name texts

-- how many named slots the instances of a built-in class have
unfoldable pub slots_named : Text → ℕ
slots_named name =
    if is_one_of name (codes "Exception" ∷ codes "Error" ∷ codes "Notification" ∷ codes "Warning" ∷ []) then 1
    else (if is_one_of name (codes "Fraction" ∷ codes "Association" ∷ codes "Message" ∷ codes "ZeroDivide" ∷ []) then 2
    else (if is_one_of name (codes "Interval" ∷ codes "MessageNotUnderstood" ∷ []) then 3 else 0))

abbrev pub built_in_class : base.ClassRow → ClassNames
built_in_class c =
    record {
      row = record { name = c.name; superclass = c.superclass; in_file = false; indexed = NoIndexes; slots = slots_named c.name; class_slots = 0 };
      base = slots_named c.name;
      instance_names = [];
      class_instance_names = [];
      class_names = [];
      pools = [];
    }
