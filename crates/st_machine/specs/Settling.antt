-- What the innermost activation makes of an outcome, and the events that it tells.
use Rattle.std.specs.Prelude.{ℕ, Bool, true, false, [], Option, Some, None, nat_eq, if◌then◌else◌}
use Rattle.object_heap.specs.declared.value.Value.{Value}
use Rattle.object_heap.specs.declared.trouble.Trouble.TheVariants.{NotResumable}
use Rattle.st_collections.specs.Kinds.{is_true}
use Rattle.st_contexts.specs.declared.activation.Activation.{Activation}
use Rattle.st_contexts.specs.declared.activation.Activation.TheVariants as act
use Rattle.st_contexts.specs.declared.activation.Env.{Env}
use Rattle.st_contexts.specs.declared.activation.Numbered.{Numbered}
use Rattle.st_contexts.specs.declared.activation.Turn.{Turn}
use Rattle.st_contexts.specs.declared.activation.SearchState.{SearchState}
use Rattle.st_contexts.specs.declared.activation.Purpose.{Purpose}
use Rattle.st_contexts.specs.declared.activation.Purpose.TheVariants as purpose
use Rattle.st_contexts.specs.declared.activation.Wait.{Wait}
use Rattle.st_contexts.specs.declared.activation.Wait.TheVariants as wait
use Rattle.st_contexts.specs.declared.outcome.Outcome.{Outcome}
use Rattle.st_contexts.specs.declared.outcome.Outcome.TheVariants.{Answer, Go, Stop}
use Rattle.st_contexts.specs.declared.outcome.Target.{Target}
use Rattle.st_contexts.specs.declared.outcome.Target.TheVariants as target
use Rattle.st_contexts.specs.declared.outcome.Limit.{Limit}
use Rattle.st_contexts.specs.declared.outcome.Limit.TheVariants as limit
use Rattle.st_contexts.specs.declared.watch.Event.TheVariants as event
use Rattle.st_contexts.specs.Stack.{Stack, popped, with_kept, numbered_at}
use Rattle.st_machine.specs.declared.work.Told.{Told}
use Rattle.st_machine.specs.declared.work.Told.TheVariants.{Nothing, One, Two}
use Rattle.st_machine.specs.declared.work.Mode.TheVariants.{Run, Ended}
use Rattle.st_machine.specs.declared.work.Ending.{Ending}
use Rattle.st_machine.specs.declared.work.Ending.TheVariants as ending
use Rattle.st_machine.specs.declared.work.Work.TheVariants as work
use Rattle.st_machine.specs.Seen.{Seen, with_stack, with_passed, with_mode, passing}
use Rattle.st_machine.specs.Opening.{has_place, stood, stopped, settling, left_with, beginning}
use Rattle.st_machine.specs.Instructions.{value_delivered}
use Rattle.st_machine.specs.Initializers.{value_kept}

-- ---- what an activation of this number makes of an unwinding

abbrev pub at_home : ℕ → Target → Value → Outcome
at_home n (target.Home m) v = if nat_eq m n then Answer v else Go (target.Home m) v
at_home n t v = Go t v

abbrev pub at_outer : ℕ → Target → Value → Outcome
at_outer n (target.Resume m) v = if nat_eq m n then Answer v else Go (target.Resume m) v
at_outer n t v = Go t v

-- an `on:do:` answers, or applies a receiver once more
abbrev pub at_protect : ℕ → Target → Value → Outcome
at_protect n (target.Protected m) v = if nat_eq m n then Answer v else Go (target.Protected m) v
at_protect n t v = Go t v

abbrev pub receiver_again : ℕ → Value → Target → Value → Option Value
receiver_again n receiver (target.Retry m) v = if nat_eq m n then Some receiver else None
receiver_again n receiver (target.RetryWith m) v = if nat_eq m n then Some v else None
receiver_again n receiver t v = None

-- the exception that is signaled in place of this signal's
abbrev pub signaled_instead : ℕ → Target → Option ℕ
signaled_instead n (target.Resignal m f) = if nat_eq m n then Some f else None
signaled_instead n t = None

-- ---- events

abbrev pub end_told : ℕ → Outcome → Told
end_told n (Answer v) = One (event.End n false)
end_told n (Go t v) = One (event.End n true)
end_told n (Stop l) = Nothing

-- ---- what is left standing

-- a termination block runs, with an outcome held
abbrev pub finished : Value → Outcome → Env → Seen → Seen
finished block held env s =
    beginning (work.Apply block env) (with_passed (with_stack s (with_kept (act.ActionOff held) s.stack)) (passing [] s.passed))

abbrev pub again : ℕ → Value → Value → Value → Seen → Seen
again n receiver selector handler s =
    beginning (work.Apply receiver (record { 0 = n })) (with_passed (with_stack s (with_kept (act.Protect receiver selector handler) s.stack)) (passing [] s.passed))

-- ---- a turn

abbrev is_signal_here : ℕ → Activation → ℕ → Bool
is_signal_here n (act.Signal e) signal = nat_eq n signal
is_signal_here n _ signal = false

abbrev is_signal_at : Option Numbered → ℕ → Bool
is_signal_at (Some a) signal = is_signal_here a.number a.kept signal
is_signal_at None signal = false

-- the innermost activation is the signal of this number
abbrev pub at_signal : ℕ → Stack → Bool
at_signal signal s = is_signal_at (numbered_at 0 s.acts) signal

abbrev pub default_outcome : Bool → ℕ → Value → Outcome
default_outcome true resume v = Answer v
default_outcome false resume v = Go (target.Resume resume) v

abbrev pub outcome_in : Option ℕ → Bool → ℕ → Value → Outcome
outcome_in (Some entry) here resume v = Go (target.Protected entry) v
outcome_in None here resume v = default_outcome here resume v

abbrev pub turn_outcome : Turn → Stack → Value → Outcome
turn_outcome t s v = outcome_in t.entry (at_signal t.signal s) t.resume_point v

-- ---- waits

abbrev pub search_of : ℕ → Turn → Purpose → SearchState
search_of who t p = record { exception = t.exception; who = who; whole = t.outside; purpose = p }

abbrev pub searching : SearchState → Seen → Seen
searching x s = beginning (work.Search x x.whole) s

-- `outer` has its point where there is a place for it
abbrev pub pointed : ℕ → Turn → Env → Seen → Seen
pointed who t env s =
    if has_place s then searching (search_of who t (purpose.Outer t s.stack.next)) (stood act.Outer env s) else stopped limit.Depth s

abbrev pub point_told : ℕ → Seen → Told
point_told who s = if has_place s then Two (event.Outer s.stack.next) (event.Search who) else Nothing

abbrev pub asked : Bool → Wait → ℕ → Turn → Env → Seen → Seen
asked true (wait.Resume v) who t env s = settling (Go (target.Resume t.resume_point) v) s
asked false (wait.Resume v) who t env s = beginning (work.Fail NotResumable env) s
asked true wait.Outer who t env s = pointed who t env s
asked false wait.Outer who t env s = searching (search_of who t (purpose.Pass t)) s

abbrev pub asked_told : Bool → Wait → ℕ → Seen → Told
asked_told yes' (wait.Resume v) who s = Nothing
asked_told true wait.Outer who s = point_told who s
asked_told false wait.Outer who s = One (event.Search who)

abbrev pub judged : Bool → SearchState → ℕ → Env → Seen → Seen
judged true x entry rest s = beginning (work.TurnBy x (Some entry) rest) s
judged false x entry rest s = beginning (work.Search x rest) s

abbrev pub without_top : Seen → Seen
without_top s = with_stack s (popped s.stack)

-- ---- a value

abbrev pub answered_by : Activation → ℕ → Env → Value → Seen → Seen
answered_by (act.Body f) n env v s = with_mode (value_delivered f v s) Run
answered_by (act.Leaving f) n env v s = left_with (Answer v) s
answered_by (act.Protect receiver selector handler) n env v s = left_with (Answer v) s
answered_by (act.EnsureOn block) n env v s = finished block (Answer v) env s
answered_by (act.CurtailOn block) n env v s = left_with (Answer v) s
answered_by (act.ActionOff held) n env v s = left_with held s
answered_by (act.Signal e) n env v s = left_with (Answer v) s
answered_by (act.HandlerRun t) n env v s = left_with (turn_outcome t (popped s.stack) v) s
answered_by act.Outer n env v s = left_with (Answer v) s
answered_by (act.ResumeWait w k t) n env v s = asked (is_true v) w k t env (without_top s)
answered_by (act.HandlesWait x entry) n env v s = judged (is_true v) x entry env (without_top s)
answered_by (act.Loop l) n env v s = beginning (work.Visit n l v env) s

abbrev pub answer_told : Activation → ℕ → Value → Seen → Told
answer_told (act.Body f) n v s = Nothing
answer_told (act.Leaving f) n v s = Nothing
answer_told (act.Protect receiver selector handler) n v s = end_told n (Answer v)
answer_told (act.EnsureOn block) n v s = One (event.Action n)
answer_told (act.CurtailOn block) n v s = end_told n (Answer v)
answer_told (act.ActionOff held) n v s = end_told n held
answer_told (act.Signal e) n v s = end_told n (Answer v)
answer_told (act.HandlerRun t) n v s = end_told n (turn_outcome t (popped s.stack) v)
answer_told act.Outer n v s = end_told n (Answer v)
answer_told (act.ResumeWait w k t) n v s = asked_told (is_true v) w k (without_top s)
answer_told (act.HandlesWait x entry) n v s = Two (event.End n false) (event.Tried entry (is_true v))
answer_told (act.Loop l) n v s = Nothing

-- ---- an unwinding

abbrev pub protected_by : Option Value → ℕ → Value → Value → Outcome → Seen → Seen
protected_by (Some receiver) n selector handler o s = again n receiver selector handler s
protected_by None n selector handler o s = left_with o s

abbrev pub protected_told : Option Value → ℕ → Outcome → Told
protected_told (Some receiver) n o = One (event.Again n)
protected_told None n o = end_told n o

abbrev pub signaled_by : Option ℕ → Outcome → Env → Seen → Seen
signaled_by (Some other) o env s = beginning (work.Raise other env) s
signaled_by None o env s = left_with o s

abbrev pub signaled_told : Option ℕ → ℕ → Outcome → Told
signaled_told (Some other) n o = Nothing
signaled_told None n o = end_told n o

abbrev pub unwound_by : Activation → ℕ → Env → Target → Value → Seen → Seen
unwound_by (act.Body f) n env t v s = left_with (at_home n t v) s
unwound_by (act.Leaving f) n env t v s = left_with (at_home n t v) s
unwound_by (act.Protect receiver selector handler) n env t v s = protected_by (receiver_again n receiver t v) n selector handler (at_protect n t v) s
unwound_by (act.EnsureOn block) n env t v s = finished block (Go t v) env s
unwound_by (act.CurtailOn block) n env t v s = finished block (Go t v) env s
unwound_by (act.ActionOff held) n env t v s = left_with (Go t v) s
unwound_by (act.Signal e) n env t v s = signaled_by (signaled_instead n t) (at_outer n t v) env s
unwound_by (act.HandlerRun turn) n env t v s = left_with (Go t v) s
unwound_by act.Outer n env t v s = left_with (at_outer n t v) s
unwound_by (act.ResumeWait w k turn) n env t v s = left_with (Go t v) s
unwound_by (act.HandlesWait x entry) n env t v s = left_with (Go t v) s
unwound_by (act.Loop l) n env t v s = left_with (Go t v) s

abbrev pub unwinding_told : Activation → ℕ → Target → Value → Told
unwinding_told (act.Body f) n t v = Nothing
unwinding_told (act.Leaving f) n t v = Nothing
unwinding_told (act.Protect receiver selector handler) n t v = protected_told (receiver_again n receiver t v) n (at_protect n t v)
unwinding_told (act.EnsureOn block) n t v = One (event.Action n)
unwinding_told (act.CurtailOn block) n t v = One (event.Action n)
unwinding_told (act.ActionOff held) n t v = end_told n (Go t v)
unwinding_told (act.Signal e) n t v = signaled_told (signaled_instead n t) n (at_outer n t v)
unwinding_told (act.HandlerRun turn) n t v = end_told n (Go t v)
unwinding_told act.Outer n t v = end_told n (at_outer n t v)
unwinding_told (act.ResumeWait w k turn) n t v = Nothing
unwinding_told (act.HandlesWait x entry) n t v = end_told n (Go t v)
unwinding_told (act.Loop l) n t v = Nothing

-- ---- the end of a run

abbrev pub ending_of : Target → Value → Ending
ending_of target.Terminate v = ending.Unhandled v
ending_of t v = ending.Stranded

abbrev pub limit_ending : Limit → Ending
limit_ending limit.Steps = ending.Steps
limit_ending limit.Depth = ending.Depth
limit_ending limit.Cells = ending.Cells
limit_ending limit.Integer = ending.Integer

abbrev pub ended : Ending → Seen → Seen
ended e s = with_mode s (Ended e)

-- ---- an outcome at the innermost activation; a value with nothing standing is that of the initializer that is on

abbrev pub answered_at : Option Numbered → Value → Seen → Seen
answered_at (Some a) v s = answered_by a.kept a.number a.env v s
answered_at None v s = value_kept v s

abbrev pub answer_told_at : Option Numbered → Value → Seen → Told
answer_told_at (Some a) v s = answer_told a.kept a.number v s
answer_told_at None v s = Nothing

abbrev pub unwound_at : Option Numbered → Target → Value → Seen → Seen
unwound_at (Some a) t v s = unwound_by a.kept a.number a.env t v s
unwound_at None t v s = ended (ending_of t v) s

abbrev pub unwinding_told_at : Option Numbered → Target → Value → Told
unwinding_told_at (Some a) t v = unwinding_told a.kept a.number t v
unwinding_told_at None t v = Nothing

abbrev pub settled : Outcome → Seen → Seen
settled (Answer v) s = answered_at (numbered_at 0 s.stack.acts) v s
settled (Go t v) s = unwound_at (numbered_at 0 s.stack.acts) t v s
settled (Stop l) s = ended (limit_ending l) s

abbrev pub settled_told : Outcome → Seen → Told
settled_told (Answer v) s = answer_told_at (numbered_at 0 s.stack.acts) v s
settled_told (Go t v) s = unwinding_told_at (numbered_at 0 s.stack.acts) t v
settled_told (Stop l) s = Nothing
