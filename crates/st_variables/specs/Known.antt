-- What a program has of the variables that its code names, and of the objects of its classes: a named slot of self for each object of the class, a class instance variable for each class, and no class of the file over a built-in one whose slots are elements.
use Rattle.std.specs.Prelude.{◌≡◌, ℕ, ◌+◌, ◌<◌, ◌≤◌, ◌⊎◌, Bool, true, false, ◌||◌, nat_eq, nat_le, List, [], ◌∷◌, length, None}
use Rattle.object_heap.specs.declared.value.Value.{Value}
use Rattle.object_heap.specs.declared.value.Value.TheVariants.{Class, Meta}
use Rattle.object_heap.specs.Store.{Object as HeapObject}
use Rattle.st_code.specs.declared.instruction.Variable.{Variable}
use Rattle.st_code.specs.declared.instruction.Variable.TheVariants.{Instance, ClassInstance}
use Rattle.st_code.specs.declared.instruction.Instruction.{Instruction}
use Rattle.st_code.specs.declared.instruction.Instruction.TheVariants.{PushVariable, Store, MakeBlock}
use Rattle.st_code.specs.Program.{Program, body_at, class_at}
use Rattle.st_code.specs.BuiltIns.{object_class, class_class, exception_set_class}
use Rattle.st_code.specs.Compiled.{compile_of}
use Rattle.st_code.specs.Lookup.{superclasses}
use Rattle.st_rules.specs.Flat.{code_at}
use Rattle.st_rules.specs.Objects.{AllIn, KnowsShared}

abbrev pub Among : List ℕ → ℕ → Type 0
Among [] n = ⊥
Among (m ∷ ms) n = (m ≡ n) ⊎ Among ms n

-- the class is the other one or under it
abbrev pub Under : Program → (class above : ℕ) → Type 0
Under p class above = Among (superclasses p class) above

-- the file declares the class
abbrev pub InFile : Program → ℕ → Type 0
InFile p class = (class_at p class).in_file ≡ true

-- an object of a class of the file is no block, and has at least the slots that its class names
abbrev pub Full : Program → HeapObject → Type 0
Full p o = InFile p o.class → (o.closure ≡ None) × ((class_at p o.class).slots ≤ length o.slots)

abbrev pub AllFull : Program → List HeapObject → Type 0
AllFull p [] = Unit {0}
AllFull p (o ∷ objects) = Full p o × AllFull p objects

-- a slot of self by name: each class that is this one or under it is one of the file's, and has it
abbrev pub SlotKnown : Program → (class : Value) → ℕ → Type 0
SlotKnown p class index = (c : ℕ) × (class ≡ Class c) × ((k : ℕ) → Under p k c → InFile p k × (index < (class_at p k).slots))

-- a class instance variable by name: the program has it for each class that is this one or under it
abbrev pub ClassSlotKnown : Program → (class : Value) → ℕ → Type 0
ClassSlotKnown p class index = (c : ℕ) × (class ≡ Meta c) × ((k : ℕ) → Under p k c → (class_at p k).class_slots + index < p.variables)

abbrev pub OwnKnown : Program → (class : Value) → Variable → Type 0
OwnKnown p class (Instance index) = SlotKnown p class index
OwnKnown p class (ClassInstance index) = ClassSlotKnown p class index
OwnKnown p class v = Unit {0}

-- in a body of this class: self's variables are known, and a block is of the same class
abbrev pub Knows : Program → (class : Value) → Instruction → Type 0
Knows p class (PushVariable v) = OwnKnown p class v
Knows p class (Store v) = OwnKnown p class v
Knows p class (MakeBlock n) = (body_at p n).class ≡ class
Knows p class i = Unit {0}

-- neither a collection nor another built-in kind of object, but Object, or from Class on
abbrev pub is_open : ℕ → Bool
is_open class = nat_eq class object_class || nat_le class_class class

pub record KnowsVariables (p : Program) : Type 0 where
  pub shared : KnowsShared p
  pub own : (code : ℕ) → AllIn (Knows p (body_at p code).class) (code_at (compile_of p) code).instructions
  pub literals : AllFull p p.literals
  pub built_in : (class : ℕ) → class ≤ exception_set_class → (class_at p class).in_file ≡ false
  pub over : (class above : ℕ) → InFile p class → Under p class above → is_open above ≡ true
