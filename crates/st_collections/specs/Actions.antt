-- What a message does at once: a value, a trouble, a limit, or what the rules and the machine have to begin. Source: ANSI 5.
use Rattle.std.specs.Prelude.{ℕ, ◌+◌, ℤ, Bool, true, false, List, [], ◌∷◌, None, length, replicate}
use Rattle.object_heap.specs.declared.value.Value.{Value}
use Rattle.object_heap.specs.declared.value.Value.TheVariants.{Nil, True, False, Object}
use Rattle.object_heap.specs.declared.value.Closure.{Closure}
use Rattle.object_heap.specs.declared.trouble.Trouble.{Trouble}
use Rattle.object_heap.specs.Store.{Store, Object as HeapObject, object_added}
use Rattle.object_heap.specs.Charges.{object_charge}
use Rattle.st_code.specs.Texts.{Text}
use Rattle.st_code.specs.BuiltIns.{string_class}
use Rattle.st_code.specs.Messages.{Control, LoopMessage}

-- a loop: its message, receiver and arguments, where it is, the value or collection made so far, the element being visited, and whether it waits for something else than a visit (a separator, the argument of a while loop, a block applied where none matched)
pub record LoopState : Type 0 where
  pub message : LoopMessage
  pub receiver : Value
  pub arguments : List Value
  pub index : ℤ
  pub made : Value
  pub visited : Value
  pub aside : Bool

-- a loop's next visit: an application, a send of `=`, the answer, nothing found, or first a charge of cells and a changed store
pub data Visit : Type 0 where
  Applies : LoopState → Value → List Value → Visit
  Compares : LoopState → (receiver argument : Value) → Visit
  Finishes : Value → Visit
  Lacks : LoopState → Visit
  Charges : (cells : ℕ) → Store → Visit → Visit

pub data Action : Type 0 where
  -- a value at once; with a changed store; with a charge of cells; with bytes for the Transcript
  Gives : Value → Action
  Changes : Store → Value → Action
  Makes : (cells : ℕ) → Store → Value → Action
  Writes : Text → Value → Action
  -- an Error, a ZeroDivide, the integer limit
  Fails : Trouble → Action
  DividesByZero : (dividend : Value) → Action
  PassesIntegers : Action
  -- an application, the activation of a closure, a send, all in tail place; a send that nothing answers
  Begins : Value → List Value → Action
  Activates : Closure → List Value → Action
  Sends : (selector : ℕ) → Value → List Value → Action
  Misses : (selector : ℕ) → Value → List Value → Action
  Enters : (code : ℕ) → Value → List Value → Action
  -- `on:do:`, `ensure:`, `ifCurtailed:`, a loop
  Guards : (receiver selector handler : Value) → Action
  Ensures Curtails : (receiver block : Value) → Action
  Iterates : LoopState → Action
  -- the signal of an exception in a changed store, or of one that is made at its signal point; what a handler tells its exception; the end of the program
  Raises : Store → (exception : ℕ) → Action
  RaisesNew : (class : ℕ) → List Value → Action
  Controls : Control → (exception : ℕ) → Value → Action
  Terminates : Value → Action

abbrev pub boolean : Bool → Value
boolean true = True
boolean false = False

-- the first, second and third argument
abbrev pub first : List Value → Value
first [] = Nil
first (v ∷ vs) = v

abbrev pub second : List Value → Value
second [] = Nil
second (v ∷ vs) = first vs

abbrev pub third : List Value → Value
third [] = Nil
third (v ∷ vs) = second vs

-- ---- new objects

-- an object of these slots and bytes, with no room for more
abbrev pub new_object : ℕ → List Value → List ℕ → HeapObject
new_object class slots bytes = record { class = class; slots = slots; bytes = bytes; capacity = length slots; read_only = false; closure = None }

-- what the next object that is made is
abbrev pub next_object : Store → Value
next_object s = Object (length s.objects)

unfoldable pub with_new : ℕ → List Value → List ℕ → Store → Store
with_new class slots bytes s = object_added (new_object class slots bytes) s

-- a new object of these slots, or of these bytes
unfoldable pub makes_slots : ℕ → List Value → Store → Action
makes_slots class slots s = Makes (1 + length slots) (with_new class slots [] s) (next_object s)

unfoldable pub makes_bytes : ℕ → Text → Store → Action
makes_bytes class bytes s = Makes (object_charge 0 (length bytes)) (with_new class [] bytes s) (next_object s)

unfoldable pub makes_string : Text → Store → Action
unfolding makes_bytes
makes_string text s = makes_bytes string_class text s

-- a new object of a class of the program: named slots and indexed ones, all nil, and bytes, all zero
unfoldable pub makes_blank : (class slots bytes : ℕ) → Store → Action
makes_blank class slots bytes s = Makes (object_charge slots bytes) (with_new class (replicate slots Nil) (replicate bytes 0) s) (next_object s)
