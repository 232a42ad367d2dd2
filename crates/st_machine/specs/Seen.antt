-- What the machine is seen as: its program, what stands, the heap, and its counts.
use Rattle.std.specs.Prelude.{ℕ, List}
use Rattle.object_heap.specs.declared.value.Value.{Value}
use Rattle.object_heap.specs.Charges.{Memory}
use Rattle.st_base.specs.declared.faults.Limits.{Limits}
use Rattle.st_tree.specs.declared.units.Unit.{Unit}
use Rattle.st_code.specs.Compiled.{Compiled}
use Rattle.st_compiler.specs.declared.units.Initializer.{Initializer}
use Rattle.st_contexts.specs.Stack.{Stack}
use Rattle.st_machine.specs.declared.work.Mode.{Mode}

-- the units of a program, the code of its bodies, its initializers in file order, the number of the object with the first text of a trouble, and the limits of its run
pub record Plan : Type 0 where
  pub units : List Unit
  pub codes : List Compiled
  pub initializers : List Initializer
  pub troubles : ℕ
  pub limits : Limits

-- values that a work passes on, and for how many there is room
pub record Passed : Type 0 where
  pub values : List Value
  pub room : ℕ

-- the program; what stands; the heap; the program's variables; the values that are passed on; what comes next; the steps made, the greatest depth, the initializers begun and the instructions begun
pub record Seen : Type 0 where
  pub plan : Plan
  pub stack : Stack
  pub memory : Memory
  pub variables : List Value
  pub passed : Passed
  pub mode : Mode
  pub steps : ℕ
  pub deepest : ℕ
  pub initializers : ℕ
  pub instructions : ℕ

abbrev pub with_stack : Seen → Stack → Seen
with_stack s stack = record s { stack = stack }

abbrev pub with_memory : Seen → Memory → Seen
with_memory s memory = record s { memory = memory }

abbrev pub with_variables : Seen → List Value → Seen
with_variables s variables = record s { variables = variables }

abbrev pub with_passed : Seen → Passed → Seen
with_passed s passed = record s { passed = passed }

abbrev pub with_mode : Seen → Mode → Seen
with_mode s mode = record s { mode = mode }

abbrev pub passing : List Value → Passed → Passed
passing values p = record { values = values; room = p.room }
