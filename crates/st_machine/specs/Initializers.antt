-- How a run goes through its initializers: each one's value is kept, and then the next one is opened.
use Rattle.std.specs.Prelude.{ℕ, ◌+◌, ◌-◌, [], slice_get, slice_set, Option, Some, None}
use Rattle.object_heap.specs.declared.value.Value.{Value}
use Rattle.st_code.specs.Program as program
use Rattle.st_compiler.specs.declared.units.Initializer.{Initializer}
use Rattle.st_machine.specs.declared.work.Mode.TheVariants.{Next, Ended}
use Rattle.st_machine.specs.declared.work.Ending.TheVariants.{Done}
use Rattle.st_machine.specs.Seen.{Seen, with_variables, with_mode, passing}
use Rattle.st_machine.specs.Opening.{entered}

-- an initializer of the program
abbrev pub seen_initializer : Initializer → program.Initializer
seen_initializer x = record { code = x.code; self = x.receiver; target = x.target }

-- one more initializer is begun, and nothing is passed on
abbrev pub counted : Seen → Seen
counted s = record s { passed = passing [] s.passed; initializers = s.initializers + 1 }

-- an initializer runs as a method without arguments, in no environment; behind the last one the run is done
abbrev pub opened_by : Option Initializer → Seen → Seen
opened_by (Some x) s = entered x.code x.receiver (record { 0 = 0 }) (counted s)
opened_by None s = with_mode s (Ended Done)

abbrev pub next_opened : Seen → Seen
next_opened s = opened_by (slice_get s.plan.initializers s.initializers) s

-- the variable that takes the value of the initializer that is on
abbrev pub target_by : Option Initializer → Option ℕ
target_by (Some x) = x.target
target_by None = None

abbrev pub target_on : Seen → Option ℕ
target_on s = target_by (slice_get s.plan.initializers (s.initializers - 1))

abbrev pub kept_at : Option ℕ → Value → Seen → Seen
kept_at (Some place) v s = with_variables s (slice_set s.variables place v)
kept_at None v s = s

-- the value of an initializer is kept where it initializes a variable, and the next one is opened
abbrev pub value_kept : Value → Seen → Seen
value_kept v s = with_mode (kept_at (target_on s) v s) Next
