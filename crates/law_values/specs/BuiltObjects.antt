-- Objects as the messages of built-in classes make them. Source: ANSI 5.3, 5.5, 5.6, 5.7; what an Interval, an Association and a Message keep is the profile's own.
use Rattle.std.specs.Prelude.{◌≡◌, ◌⊎◌, ℕ, ◌<◌, Bool, true, false, ◌||◌, List, [], ◌∷◌, length, Option, Some, None, nat_eq, nat_abs}
use Rattle.object_heap.specs.declared.value.Value.{Value}
use Rattle.object_heap.specs.declared.value.Value.TheVariants.{Integer, Symbol, Object}
use Rattle.object_heap.specs.Store.{Store, Object as HeapObject, object_at}
use Rattle.st_numbers.specs.declared.message.Number.{Number}
use Rattle.st_numbers.specs.Numbers.{IsProper}
use Rattle.st_code.specs.BuiltIns.{fraction_class, array_class, interval_class, association_class, block_class, message_class, exception_class, error_class, zero_divide_class, message_not_understood_class, notification_class, warning_class}
use Rattle.st_code.specs.Program.{Program, class_at}

abbrev pub is_one_of : List ℕ → ℕ → Bool
is_one_of [] class = false
is_one_of (c ∷ classes) class = nat_eq class c || is_one_of classes class

-- the classes whose slots no message of another class's writes
abbrev pub bound_classes : List ℕ
bound_classes = fraction_class ∷ interval_class ∷ block_class ∷ message_class ∷ []

-- the built-in classes whose instances have named slots alone, or none
abbrev pub fixed_classes : List ℕ
fixed_classes =
    fraction_class ∷ interval_class ∷ block_class ∷ message_class ∷ association_class ∷ exception_class ∷ error_class ∷ zero_divide_class ∷ message_not_understood_class ∷ notification_class ∷ warning_class ∷ []

-- numerator and denominator, in lowest terms, the latter at least 2
abbrev pub IsFraction : List Value → Type 0
IsFraction (Integer n ∷ Integer d ∷ []) = IsProper (Number.Fraction n d)
IsFraction slots = ⊥

-- two ends, and a step other than 0
abbrev pub IsInterval : List Value → Type 0
IsInterval (Integer start ∷ Integer stop ∷ Integer by ∷ []) = nat_eq (nat_abs by) 0 ≡ false
IsInterval slots = ⊥

-- a selector, and an Array of arguments
abbrev pub IsMessage : Store → List Value → Type 0
IsMessage s (Symbol selector ∷ Object arguments ∷ []) = (object_at arguments s).class ≡ array_class
IsMessage s slots = ⊥

-- the number of a closure that stands
abbrev pub HasClosure : Store → Option ℕ → Type 0
HasClosure s (Some closure) = closure < length s.closures
HasClosure s None = ⊥

pub record BuiltObject (p : Program) (s : Store) (o : HeapObject) : Type 0 where
  pub classed : o.class < length p.classes
  pub counted : is_one_of fixed_classes o.class ≡ true → length o.slots ≡ (class_at p o.class).slots
  pub fraction : o.class ≡ fraction_class → IsFraction o.slots
  pub interval : o.class ≡ interval_class → IsInterval o.slots
  pub message : o.class ≡ message_class → IsMessage s o.slots
  pub block : o.class ≡ block_class → HasClosure s o.closure
  pub only_blocks : (o.closure ≡ None) ⊎ (o.class ≡ block_class)

-- each object is so; and so is what a number stands for that names nothing
pub record BuiltStore (p : Program) (s : Store) : Type 0 where
  pub each : (n : ℕ) → BuiltObject p s (object_at n s)
