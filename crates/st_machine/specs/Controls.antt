-- What a handler tells its exception to do. Source: ANSI 5 (exceptions).
use Rattle.std.specs.Prelude.{ℕ, Bool, true, false, Option, Some, None}
use Rattle.object_heap.specs.declared.value.Value.{Value}
use Rattle.object_heap.specs.declared.value.Value.TheVariants.{Nil, Object}
use Rattle.object_heap.specs.declared.trouble.Trouble.TheVariants.{ExceptionExpected, AlreadySignaled, NotActive}
use Rattle.st_code.specs.Messages.{Control}
use Rattle.st_code.specs.Lookup.{is_exception}
use Rattle.st_contexts.specs.declared.activation.Env.{Env}
use Rattle.st_contexts.specs.declared.activation.Turn.{Turn}
use Rattle.st_contexts.specs.declared.activation.Purpose.TheVariants as purpose
use Rattle.st_contexts.specs.declared.activation.Wait.TheVariants as wait
use Rattle.st_contexts.specs.declared.outcome.Outcome.TheVariants.{Go}
use Rattle.st_contexts.specs.declared.outcome.Target.TheVariants as target
use Rattle.st_contexts.specs.declared.watch.Event.TheVariants as event
use Rattle.signal_env.specs.declared.turns.FoundTurn.{FoundTurn}
use Rattle.signal_env.specs.Turns.{turn_in, live_in}
use Rattle.st_machine.specs.declared.work.Told.{Told}
use Rattle.st_machine.specs.declared.work.Told.TheVariants.{Nothing, One}
use Rattle.st_machine.specs.declared.work.Work.TheVariants as work
use Rattle.st_machine.specs.Seen.{Seen}
use Rattle.st_machine.specs.Plans.{program_in}
use Rattle.st_machine.specs.Opening.{settling, beginning}
use Rattle.st_machine.specs.Settling.{search_of, searching}

-- ---- `resignalAs:`

abbrev pub resignaled : Bool → Bool → Turn → ℕ → Env → Seen → Seen
resignaled false live t f env s = beginning (work.Fail ExceptionExpected env) s
resignaled true true t f env s = beginning (work.Fail AlreadySignaled env) s
resignaled true false t f env s = settling (Go (target.Resignal t.signal f) (Object f)) s

abbrev pub resignaled_as : Turn → Value → Env → Seen → Seen
resignaled_as t (Object f) env s = resignaled (is_exception (program_in s.plan) s.memory.store (Object f)) (live_in f s.stack.acts) t f env s
resignaled_as t v env s = beginning (work.Fail ExceptionExpected env) s

-- ---- a turn with its number k; one with an entry takes each message, and a default action only `resume`

abbrev pub controlled_by : Control → Value → ℕ → Turn → (entry : ℕ) → Env → Seen → Seen
controlled_by Control.Return v k t entry env s = settling (Go (target.Protected entry) v) s
controlled_by Control.Retry v k t entry env s = settling (Go (target.Retry entry) Nil) s
controlled_by Control.RetryUsing v k t entry env s = settling (Go (target.RetryWith entry) v) s
controlled_by Control.Resume v k t entry env s = beginning (work.Ask (wait.Resume v) k t env) s
controlled_by Control.Pass v k t entry env s = searching (search_of k t (purpose.Pass t)) s
controlled_by Control.Outer v k t entry env s = beginning (work.Ask wait.Outer k t env) s
controlled_by Control.ResignalAs v k t entry env s = resignaled_as t v env s
controlled_by Control.IsNested v k t entry env s = searching (search_of k t purpose.IsNested) s

abbrev pub control_told_by : Control → ℕ → Told
control_told_by Control.Return k = Nothing
control_told_by Control.Retry k = Nothing
control_told_by Control.RetryUsing k = Nothing
control_told_by Control.Resume k = Nothing
control_told_by Control.Pass k = One (event.Search k)
control_told_by Control.Outer k = Nothing
control_told_by Control.ResignalAs k = Nothing
control_told_by Control.IsNested k = One (event.Search k)

abbrev pub controlled_without : Control → Value → ℕ → Turn → Env → Seen → Seen
controlled_without Control.Resume v k t env s = beginning (work.Ask (wait.Resume v) k t env) s
controlled_without _ v k t env s = beginning (work.Fail NotActive env) s

abbrev pub controlled_in : Option ℕ → Control → Value → ℕ → Turn → Env → Seen → Seen
controlled_in (Some entry) c v k t env s = controlled_by c v k t entry env s
controlled_in None c v k t env s = controlled_without c v k t env s

abbrev pub control_told_in : Option ℕ → Control → ℕ → Told
control_told_in (Some entry) c k = control_told_by c k
control_told_in None c k = Nothing

abbrev pub controlled_at : Option FoundTurn → Control → Value → Env → Seen → Seen
controlled_at (Some found) c v env s = controlled_in found.turn.entry c v found.number found.turn env s
controlled_at None c v env s = beginning (work.Fail NotActive env) s

abbrev pub control_told_at : Option FoundTurn → Control → Told
control_told_at (Some found) c = control_told_in found.turn.entry c found.number
control_told_at None c = Nothing

-- what the innermost turn of an exception is told, with a value
abbrev pub controlled : Control → ℕ → Value → Env → Seen → Seen
controlled c e v env s = controlled_at (turn_in e s.stack.acts) c v env s

abbrev pub control_told : Control → ℕ → Seen → Told
control_told c e s = control_told_at (turn_in e s.stack.acts) c
