-- Which method or built-in message a receiver finds for a selector (ANSI 3.3), and which exceptions a selector of `on:do:` fits.
use Rattle.std.specs.Prelude.{ℕ, zero, suc, Bool, true, false, ◌&&◌, List, [], ◌∷◌, ◌++◌, map, drop, Option, Some, None, nat_eq, codes}
use Rattle.std.specs.Option.{option_map}
use Rattle.object_heap.specs.declared.value.Value.{Value}
use Rattle.object_heap.specs.declared.value.Value.TheVariants.{Nil, True, False, Integer, Character, Symbol, Class, Meta, Transcript, Object}
use Rattle.object_heap.specs.Store.{Store, object_at}
use Rattle.st_code.specs.Texts.{Text}
use Rattle.st_code.specs.Program.{Program, MethodRow, Side, OfInstance, OfClass, OfMeta, same_side, class_at, name_at, number_of}
use Rattle.st_code.specs.Messages.{Row}
use Rattle.st_code.specs.BuiltIns.{row_at, object_class, undefined_object_class, true_class, false_class, integer_class, character_class, symbol_class, class_class, metaclass_class, transcript_writer_class, exception_class}

-- a side of a class, where methods are looked up
pub record Level : Type 0 where
  pub side : Side
  pub class : ℕ

abbrev pub level : Side → ℕ → Level
level side class = record { side = side; class = class }

-- where a receiver's lookup begins
unfoldable pub level_of : Store → Value → Level
level_of s Nil = level OfInstance undefined_object_class
level_of s True = level OfInstance true_class
level_of s False = level OfInstance false_class
level_of s (Integer n) = level OfInstance integer_class
level_of s (Character byte) = level OfInstance character_class
level_of s (Symbol name) = level OfInstance symbol_class
level_of s (Class class) = level OfClass class
level_of s (Meta class) = level OfMeta class
level_of s Transcript = level OfInstance transcript_writer_class
level_of s (Object number) = level OfInstance (object_at number s).class

-- at most so many classes, from this one up
abbrev pub some_superclasses : Program → ℕ → ℕ → List ℕ
some_superclasses p zero class = []
some_superclasses p (suc n) class = class ∷ elim (class_at p class).superclass [ None ↦ [] | Some above ↦ some_superclasses p n above ]

-- a class and its superclasses, from the class up; a superclass has a smaller number
unfoldable pub superclasses : Program → ℕ → List ℕ
superclasses p class = some_superclasses p (suc class) class

abbrev pub holds : List ℕ → ℕ → Bool
holds [] n = false
holds (m ∷ ms) n = elim (nat_eq m n) [ true ↦ true | false ↦ holds ms n ]

-- the class is the other one or under it
unfoldable pub inherits : Program → ℕ → ℕ → Bool
unfolding superclasses
inherits p class ancestor = holds (superclasses p class) ancestor

-- the levels that lookup visits, from this one on
unfoldable pub walk : Program → Level → List Level
walk p l = elim l.side [
  | OfInstance ↦ map (level OfInstance) (superclasses p l.class)
  | OfClass ↦ map (level OfClass) (superclasses p l.class) ++ level OfInstance class_class ∷ level OfInstance object_class ∷ []
  | OfMeta ↦ level OfInstance metaclass_class ∷ level OfInstance object_class ∷ []
]

-- a method of the file, by the number of its body, or a built-in message
pub data Found : Type 0 where
  UserMethod : (code : ℕ) → Found
  BuiltIn : Row → Found

abbrev pub is_method : Level → ℕ → MethodRow → Bool
is_method l selector m = nat_eq m.selector selector && nat_eq m.class l.class && same_side m.side l.side

-- the method of this selector at this level
unfoldable pub method_at : List MethodRow → Level → ℕ → Option ℕ
method_at [] l selector = None
method_at (m ∷ methods) l selector = elim (is_method l selector m) [ true ↦ Some m.code | false ↦ method_at methods l selector ]

-- what this level has for a selector
unfoldable pub found_at : Program → Level → ℕ → Option Found
found_at p l selector = elim (method_at p.methods l selector) [
  | Some code ↦ Some (UserMethod code)
  | None ↦ option_map BuiltIn (row_at l.class l.side (name_at p selector))
]

-- what the first of these levels that has the selector has for it
unfoldable pub found_in : Program → List Level → ℕ → Option Found
found_in p [] selector = None
found_in p (l ∷ levels) selector = elim (found_at p l selector) [ Some found ↦ Some found | None ↦ found_in p levels selector ]

unfoldable pub lookup : Program → Level → ℕ → Option Found
lookup p l selector = found_in p (walk p l) selector

-- the level of a body's class
abbrev pub class_level : Value → Level
class_level (Class class) = level OfInstance class
class_level (Meta class) = level OfClass class
class_level _ = level OfInstance undefined_object_class

-- `super` in a body of this class: behind its own level
unfoldable pub super_lookup : Program → Value → ℕ → Option Found
super_lookup p class selector = found_in p (drop 1 (walk p (class_level class))) selector

abbrev pub class_value : Level → Value
class_value l = elim l.side [ OfInstance ↦ Class l.class | OfClass ↦ Meta l.class | OfMeta ↦ Class metaclass_class ]

-- the answer of `class`
unfoldable pub class_of : Store → Value → Value
unfolding level_of
class_of s v = class_value (level_of s v)

-- the name of a class, or of a metaclass with ` class` behind it
unfoldable pub class_text : Program → Value → Text
class_text p (Class class) = (class_at p class).name
class_text p (Meta class) = (class_at p class).name ++ codes " class"
class_text p _ = []

abbrev pub class_number : Store → Value → Option ℕ
class_number s (Object number) = Some (object_at number s).class
class_number s _ = None

-- the value is an exception
unfoldable pub is_exception : Program → Store → Value → Bool
is_exception p s (Object number) = inherits p (object_at number s).class exception_class
is_exception p s _ = false

-- ---- selectors of `on:do:`

abbrev pub is_built_in : Option Found → Bool
is_built_in (Some (BuiltIn row)) = true
is_built_in _ = false

-- the selector answers `handles:` by a built-in message
unfoldable pub is_plain : Program → Store → Value → Bool
is_plain p s selector = is_built_in (lookup p (level_of s selector) (number_of p (codes "handles:")))

abbrev pub fits_class : Program → ℕ → Value → Bool
fits_class p class (Class ancestor) = inherits p class ancestor
fits_class p class _ = false

abbrev pub fits_some : Program → ℕ → List Value → Bool
fits_some p class [] = false
fits_some p class (v ∷ vs) = elim (fits_class p class v) [ true ↦ true | false ↦ fits_some p class vs ]

-- a plain selector is the exception's class or one above it, or is a set that has one
unfoldable pub fits : Program → Store → Value → (class : ℕ) → Bool
fits p s (Object number) class = fits_some p class (object_at number s).slots
fits p s v class = fits_class p class v
