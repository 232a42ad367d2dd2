-- How exceptions come to be signaled, and the events that this tells. Source: ANSI 5 (exceptions).
use Rattle.std.specs.Prelude.{ℕ, zero, suc, ◌+◌, Bool, true, false, List, [], ◌∷◌, length, Option, Some, None, if◌then◌else◌}
use Rattle.object_heap.specs.declared.value.Value.{Value}
use Rattle.object_heap.specs.declared.value.Value.TheVariants.{Object}
use Rattle.object_heap.specs.declared.trouble.Trouble.{Trouble}
use Rattle.object_heap.specs.declared.trouble.Trouble.TheVariants.{AlreadySignaled}
use Rattle.object_heap.specs.Troubles.{place_of}
use Rattle.object_heap.specs.Store.{Store, with_slot}
use Rattle.object_heap.specs.Charges.{Memory, object_charge, with_store, made}
use Rattle.st_code.specs.Program.{class_at}
use Rattle.st_code.specs.BuiltIns.{error_class}
use Rattle.st_contexts.specs.declared.activation.Activation.TheVariants as act
use Rattle.st_contexts.specs.declared.activation.Env.{Env}
use Rattle.st_contexts.specs.declared.activation.SearchState.{SearchState}
use Rattle.st_contexts.specs.declared.activation.Purpose.TheVariants as purpose
use Rattle.st_contexts.specs.declared.outcome.Limit.TheVariants as limit
use Rattle.st_contexts.specs.declared.watch.Event.TheVariants as event
use Rattle.st_contexts.specs.Stack.{popped, with_kept}
use Rattle.st_collections.specs.Actions.{first}
use Rattle.signal_env.specs.Turns.{live_in}
use Rattle.st_machine.specs.declared.work.Told.{Told}
use Rattle.st_machine.specs.declared.work.Told.TheVariants.{Nothing, One, Two}
use Rattle.st_machine.specs.declared.work.Work.TheVariants as work
use Rattle.st_machine.specs.Seen.{Plan, Seen, with_stack, with_memory}
use Rattle.st_machine.specs.Plans.{program_in}
use Rattle.st_machine.specs.Operands.{but_first}
use Rattle.st_machine.specs.Scopes.{if_room}
use Rattle.st_machine.specs.Opening.{has_place, stood, stopped, beginning}
use Rattle.st_machine.specs.Settling.{searching}

-- ---- new exceptions

-- each of so many slots is written, from this place on: the value in its place, or nil
unfoldable pub slots_put : ℕ → List Value → (object place : ℕ) → Store → Store
slots_put zero values object place s = s
slots_put (suc n) values object place s = slots_put n (but_first values) object (suc place) (with_slot object place (first values) s)

-- the value of the text of a trouble
abbrev pub text_in : Plan → Trouble → Value
text_in plan trouble = Object (plan.troubles + place_of trouble)

-- how many slots the exceptions of a class have
abbrev pub slots_in : Plan → ℕ → ℕ
slots_in plan class = (class_at (program_in plan) class).slots

-- ---- a signal

abbrev pub signal_search : ℕ → ℕ → Env → SearchState
signal_search n e env = record { exception = e; who = n; whole = env; purpose = purpose.Signal }

abbrev pub raised_by : Bool → ℕ → Env → Seen → Seen
raised_by true e env s = beginning (work.Fail AlreadySignaled env) s
raised_by false e env s = if has_place s then searching (signal_search s.stack.next e env) (stood (act.Signal e) env s) else stopped limit.Depth s

abbrev pub raise_told_by : Bool → Seen → Told
raise_told_by true s = Nothing
raise_told_by false s = if has_place s then Two (event.Signal s.stack.next) (event.Search s.stack.next) else Nothing

-- an exception that is there is signaled, unless a signal of it stands
abbrev pub raised : ℕ → Env → Seen → Seen
raised e env s = raised_by (live_in e s.stack.acts) e env s

abbrev pub raise_told : ℕ → Seen → Told
raise_told e s = raise_told_by (live_in e s.stack.acts) s

-- ---- a signal that makes its exception

-- the number of a new object with so many slots
abbrev pub if_object : ℕ → Memory → Option ℕ
if_object count m = if_room (object_charge count 0) (length m.store.objects) m

abbrev pub filled_by : Option ℕ → ℕ → List Value → Memory → Memory
filled_by (Some e) count slots m = with_store (slots_put count slots e 0 m.store) m
filled_by None count slots m = m

-- a new exception has these values in its first slots
abbrev pub exception_made : ℕ → ℕ → List Value → Memory → Memory
exception_made class count slots m = filled_by (if_object count m) count slots (made class count 0 m)

-- the signal that stands gets its exception, if that was made
abbrev pub signal_made : Option ℕ → ℕ → Env → Seen → Seen
signal_made (Some e) n env s = searching (signal_search n e env) (with_stack s (with_kept (act.Signal e) s.stack))
signal_made None n env s = stopped limit.Cells (with_stack s (popped s.stack))

abbrev pub made_told : Option ℕ → ℕ → Told
made_told (Some e) n = Two (event.Signal n) (event.Search n)
made_told None n = One (event.Signal n)

abbrev pub new_signal : ℕ → ℕ → List Value → Env → Seen → Seen
new_signal class count slots env s =
    if has_place s then signal_made (if_object count s.memory) s.stack.next env (with_memory (stood (act.Signal 0) env s) (exception_made class count slots s.memory)) else stopped limit.Depth s

abbrev pub new_signal_told : ℕ → Seen → Told
new_signal_told count s = if has_place s then made_told (if_object count s.memory) s.stack.next else Nothing

-- a new exception of this class, with the values that are passed on, is signaled
abbrev pub raised_new : ℕ → Env → Seen → Seen
raised_new class env s = new_signal class (slots_in s.plan class) s.passed.values env s

abbrev pub raise_new_told : ℕ → Seen → Told
raise_new_told class s = new_signal_told (slots_in s.plan class) s

-- an Error with the text of a trouble is signaled
abbrev pub failed : Trouble → Env → Seen → Seen
failed trouble env s = new_signal error_class (slots_in s.plan error_class) (text_in s.plan trouble ∷ []) env s

abbrev pub fail_told : Seen → Told
fail_told s = new_signal_told (slots_in s.plan error_class) s
