-- What a search makes of the next entry, the turn that it begins, and what a turn's exception is asked. Source: ANSI 5 (exceptions).
use Rattle.std.specs.Prelude.{ℕ, Bool, true, false, List, [], ◌∷◌, Option, Some, None, nat_lt, if◌then◌else◌}
use Rattle.object_heap.specs.declared.value.Value.{Value}
use Rattle.object_heap.specs.declared.value.Value.TheVariants.{Nil, True, False, Object}
use Rattle.object_heap.specs.declared.value.Closure.{Closure}
use Rattle.object_heap.specs.Store.{object_at}
use Rattle.st_code.specs.Lookup.{is_plain, fits}
use Rattle.st_contexts.specs.declared.activation.Activation.TheVariants as act
use Rattle.st_contexts.specs.declared.activation.Entry.{Entry}
use Rattle.st_contexts.specs.declared.activation.Env.{Env}
use Rattle.st_contexts.specs.declared.activation.Turn.{Turn}
use Rattle.st_contexts.specs.declared.activation.SearchState.{SearchState}
use Rattle.st_contexts.specs.declared.activation.Purpose.{Purpose}
use Rattle.st_contexts.specs.declared.activation.Purpose.TheVariants as purpose
use Rattle.st_contexts.specs.declared.activation.Wait.{Wait}
use Rattle.st_contexts.specs.declared.outcome.Outcome.TheVariants.{Answer}
use Rattle.st_contexts.specs.declared.outcome.Limit.TheVariants as limit
use Rattle.st_contexts.specs.declared.watch.Event.TheVariants as event
use Rattle.st_contexts.specs.Stack.{Standing, entry_in}
use Rattle.st_rules.specs.Rules.{sends_handles, sends_default_action, sends_is_resumable}
use Rattle.st_machine.specs.declared.work.Told.{Told}
use Rattle.st_machine.specs.declared.work.Told.TheVariants.{Nothing, One}
use Rattle.st_machine.specs.declared.work.Work.TheVariants as work
use Rattle.st_machine.specs.Seen.{Passed, Seen, with_passed, passing}
use Rattle.st_machine.specs.Plans.{program_in}
use Rattle.st_machine.specs.Opening.{has_place, stood, stopped, settling, beginning, closure_in, fitting}
use Rattle.st_machine.specs.Settling.{judged}

-- ---- values that are passed on

abbrev pub one_passed : Value → Passed → Passed
one_passed v p = passing (if nat_lt 0 p.room then v ∷ [] else []) p

-- this selector is sent, with no argument or with one
abbrev pub sending : ℕ → Value → Env → Seen → Seen
sending selector receiver env s = beginning (work.SendTo selector receiver env) (with_passed s (passing [] s.passed))

abbrev pub sending_one : ℕ → Value → Value → Env → Seen → Seen
sending_one selector receiver v env s = beginning (work.SendTo selector receiver env) (with_passed s (one_passed v s.passed))

-- ---- a search

-- an entry that isn't plain is sent `handles:`
abbrev pub inquired : SearchState → Entry → Seen → Seen
inquired x entry s =
    if has_place s then sending_one (sends_handles (program_in s.plan)) entry.selector (Object x.exception) entry.outside (stood (act.HandlesWait x entry.protect) entry.outside s)
    else stopped limit.Depth s

abbrev pub inquiry_told : ℕ → Seen → Told
inquiry_told entry s = if has_place s then One (event.Ask s.stack.next entry) else Nothing

abbrev pub fits_here : SearchState → Entry → Seen → Bool
fits_here x entry s = fits (program_in s.plan) s.memory.store entry.selector (object_at x.exception s.memory.store).class

abbrev pub plain_here : Entry → Seen → Bool
plain_here entry s = is_plain (program_in s.plan) s.memory.store entry.selector

abbrev pub examined_by : Bool → SearchState → Entry → Seen → Seen
examined_by true x entry s = judged (fits_here x entry s) x entry.protect entry.outside s
examined_by false x entry s = inquired x entry s

abbrev pub examined_told : Bool → SearchState → Entry → Seen → Told
examined_told true x entry s = One (event.Tried entry.protect (fits_here x entry s))
examined_told false x entry s = inquiry_told entry.protect s

abbrev pub searched_at : Option Entry → SearchState → Seen → Seen
searched_at None x s = beginning (work.TurnBy x None x.whole) s
searched_at (Some entry) x s = examined_by (plain_here entry s) x entry s

abbrev pub search_told_at : Option Entry → SearchState → Seen → Told
search_told_at None x s = Nothing
search_told_at (Some entry) x s = examined_told (plain_here entry s) x entry s

-- the innermost entry is judged, and without one the default action runs
abbrev pub searched : SearchState → Env → Seen → Seen
searched x rest s = searched_at (entry_in rest.0 s.stack.acts) x s

abbrev pub search_told : SearchState → Env → Seen → Told
search_told x rest s = search_told_at (entry_in rest.0 s.stack.acts) x s

-- ---- a turn

abbrev pub resume_of : ℕ → Purpose → ℕ
resume_of who purpose.Signal = who
resume_of who (purpose.Pass t) = t.resume_point
resume_of who (purpose.Outer t point) = point
resume_of who purpose.IsNested = who

abbrev pub signal_of : ℕ → Purpose → ℕ
signal_of who purpose.Signal = who
signal_of who (purpose.Pass t) = t.signal
signal_of who (purpose.Outer t point) = t.signal
signal_of who purpose.IsNested = who

abbrev pub turn_for : SearchState → Option ℕ → Env → Turn
turn_for x entry outside = record { exception = x.exception; entry = entry; outside = outside; resume_point = resume_of x.who x.purpose; signal = signal_of x.who x.purpose }

abbrev pub asks_nested : Purpose → Bool
asks_nested purpose.Signal = false
asks_nested (purpose.Pass t) = false
asks_nested (purpose.Outer t point) = false
asks_nested purpose.IsNested = true

abbrev pub is_there : Option ℕ → Value
is_there None = False
is_there (Some entry) = True

abbrev pub handler_at : Option Entry → Value
handler_at None = Nil
handler_at (Some entry) = entry.handler

abbrev pub handler_of : ℕ → List Standing → Value
handler_of entry acts = handler_at (entry_in entry acts)

-- a block without parameters is activated, and anything else is applied to the exception
abbrev pub handler_begun : Option Closure → Value → ℕ → Env → Seen → Seen
handler_begun (Some c) handler e env s = beginning (work.Activate c env) s
handler_begun None handler e env s = beginning (work.Apply handler env) (with_passed s (one_passed (Object e) s.passed))

abbrev pub nothing_passed : Seen → Seen
nothing_passed s = with_passed s (passing [] s.passed)

abbrev pub handler_applied : Value → ℕ → Env → Seen → Seen
handler_applied handler e env s = handler_begun (fitting (closure_in handler (nothing_passed s)) (nothing_passed s)) handler e env (nothing_passed s)

abbrev pub handled : SearchState → ℕ → Env → Seen → Seen
handled x entry outside s =
    if has_place s then handler_applied (handler_of entry s.stack.acts) x.exception outside (stood (act.HandlerRun (turn_for x (Some entry) outside)) outside s) else stopped limit.Depth s

abbrev pub handled_told : ℕ → Seen → Told
handled_told entry s = if has_place s then One (event.Handle s.stack.next entry) else Nothing

abbrev pub defaulted : SearchState → Env → Seen → Seen
defaulted x outside s =
    if has_place s then sending (sends_default_action (program_in s.plan)) (Object x.exception) outside (stood (act.HandlerRun (turn_for x None outside)) outside s) else stopped limit.Depth s

abbrev pub default_told : Seen → Told
default_told s = if has_place s then One (event.Default s.stack.next) else Nothing

abbrev pub turned_at : Option ℕ → SearchState → Env → Seen → Seen
turned_at None x outside s = defaulted x outside s
turned_at (Some entry) x outside s = handled x entry outside s

abbrev pub turn_told_at : Option ℕ → Seen → Told
turn_told_at None s = default_told s
turn_told_at (Some entry) s = handled_told entry s

-- `isNested` answers whether there is an entry; any other search has its turn
abbrev pub turned_by : Bool → SearchState → Option ℕ → Env → Seen → Seen
turned_by true x entry outside s = settling (Answer (is_there entry)) s
turned_by false x entry outside s = turned_at entry x outside s

abbrev pub turn_told_by : Bool → Option ℕ → Seen → Told
turn_told_by true entry s = One event.Known
turn_told_by false entry s = turn_told_at entry s

abbrev pub turned : SearchState → Option ℕ → Env → Seen → Seen
turned x entry outside s = turned_by (asks_nested x.purpose) x entry outside s

abbrev pub turn_told : SearchState → Option ℕ → Seen → Told
turn_told x entry s = turn_told_by (asks_nested x.purpose) entry s

-- ---- `isResumable`

abbrev pub resumability_asked : Wait → ℕ → Turn → Env → Seen → Seen
resumability_asked w k t env s =
    if has_place s then sending (sends_is_resumable (program_in s.plan)) (Object t.exception) env (stood (act.ResumeWait w k t) env s) else stopped limit.Depth s
