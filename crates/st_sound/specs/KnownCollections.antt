-- What is asked of a program so that its collections stay sound. Source: the classes of a file stand under Object, an exception class or each other, and only they have named slots.
use Rattle.std.specs.Prelude.{◌≡◌, ℕ, ◌<◌, Bool, true, not, List, [], ◌∷◌, map, get_or, Option, Some, None}
use Rattle.object_heap.specs.declared.value.Value.{Value}
use Rattle.object_heap.specs.declared.value.Value.TheVariants.{Class}
use Rattle.object_heap.specs.Store.{no_object}
use Rattle.st_code.specs.declared.instruction.Instruction.{Instruction}
use Rattle.st_code.specs.declared.instruction.Instruction.TheVariants.{MakeBlock, Store}
use Rattle.st_code.specs.declared.instruction.Variable.TheVariants.{Instance}
use Rattle.st_code.specs.Definitions.{RunLimits, built_in_names, program_of}
use Rattle.st_code.specs.Named.{NamedUnit, ClassUnit}
use Rattle.st_code.specs.Resolved.{class_in}
use Rattle.st_code.specs.Texts.{Text}
use Rattle.st_code.specs.BuiltIns.{built_in_class_rows, object_class, collection_class, dictionary_class, interval_class, exception_set_class}
use Rattle.st_code.specs.Compiled.{compile_of}
use Rattle.st_code.specs.Lookup.{superclasses, holds}
use Rattle.st_code.specs.Program.{Program, body_at, class_at}
use Rattle.st_rules.specs.Flat.{code_at}
use Rattle.st_rules.specs.Objects.{AllIn}
use Rattle.st_sound.specs.SoundStore.{SoundObject, grows}

-- instances of a class of the file
abbrev pub IsDeclared : Program → Value → Type 0
IsDeclared p (Class class) = (class_at p class).in_file ≡ true
IsDeclared p class = ⊥

-- a block is written in the class of the body that makes it, and a named slot of self is named only in a class of the file
abbrev pub Written : Program → (code : ℕ) → Instruction → Type 0
Written p code (MakeBlock n) = (body_at p n).class ≡ (body_at p code).class
Written p code (Store (Instance index)) = IsDeclared p (body_at p code).class
Written p code i = Unit {0}

-- the classes of the file stand behind the built-in ones, nothing is under OrderedCollection, Set and Dictionary, and no literal is unsound
pub record KnowsCollections (p : Program) : Type 0 where
  pub declared : (class : ℕ) → (class_at p class).in_file ≡ true → exception_set_class < class
  pub under : (class above : ℕ) → grows above ≡ true → holds (superclasses p class) above ≡ true → class ≡ above
  pub dictionary : superclasses p dictionary_class ≡ dictionary_class ∷ collection_class ∷ object_class ∷ []
  pub interval : superclasses p interval_class ≡ interval_class ∷ collection_class ∷ object_class ∷ []
  pub literals : (n : ℕ) → SoundObject (get_or p.literals n no_object)
  pub code : (code : ℕ) → AllIn (Written p code) (code_at (compile_of p) code).instructions

-- ---- the programs that the units of a file are

-- a built-in class of the file's superclass's name, if there is one, takes no elements
abbrev pub may_extend : Option ℕ → Bool
may_extend None = true
may_extend (Some class) = not (grows class)

-- no class stands under OrderedCollection, Set or Dictionary
abbrev pub Extends : List NamedUnit → Type 0
Extends [] = Unit {0}
Extends (ClassUnit c ∷ units) = (may_extend (class_in 0 (map built_in_names built_in_class_rows) c.superclass) ≡ true) × Extends units
Extends (u ∷ units) = Extends units

-- then the program's collections stay sound, whatever its units are
abbrev pub ProgramsKnowCollections : Type 0
ProgramsKnowCollections = (names : List Text) (units : List NamedUnit) (limits : RunLimits) → Extends units → KnowsCollections (program_of names units limits)
