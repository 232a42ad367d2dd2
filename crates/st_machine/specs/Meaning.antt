-- Which state of the flat machine a machine's parts stand for. Links become the environments that they name, numbers of entries the entries.
use Rattle.std.specs.Prelude.{ℕ, ◌-◌, List, [], ◌∷◌, map, length, drop, Option, Some, None}
use Rattle.std.specs.Option.{option_map}
use Rattle.object_heap.specs.declared.value.Value.{Value}
use Rattle.object_heap.specs.declared.value.Value.TheVariants.{Nil}
use Rattle.st_code.specs.Texts.{Text}
use Rattle.st_code.specs.Program.{Program, Initializer}
use Rattle.st_collections.specs.Actions as actions
use Rattle.st_collections.specs.Loops.{next_visit}
use Rattle.st_contexts.specs.declared.activation.Activation.{Activation}
use Rattle.st_contexts.specs.declared.activation.Activation.TheVariants as act
use Rattle.st_contexts.specs.declared.activation.Frame.{Frame}
use Rattle.st_contexts.specs.declared.activation.Entry as standing
use Rattle.st_contexts.specs.declared.activation.Env as link
use Rattle.st_contexts.specs.declared.activation.Turn as linked
use Rattle.st_loops.specs.declared.state.LoopState as kept
use Rattle.st_loops.specs.States.{state_of as kept_state}
use Rattle.st_contexts.specs.declared.activation.SearchState.{SearchState}
use Rattle.st_contexts.specs.declared.activation.Purpose as searched
use Rattle.st_contexts.specs.declared.activation.Purpose.TheVariants as purpose
use Rattle.st_contexts.specs.declared.activation.Wait as waiting
use Rattle.st_contexts.specs.declared.activation.Wait.TheVariants as wait
use Rattle.st_contexts.specs.declared.outcome.Outcome as hand
use Rattle.st_contexts.specs.declared.outcome.Outcome.TheVariants as outcome
use Rattle.st_contexts.specs.declared.outcome.Target as aim
use Rattle.st_contexts.specs.declared.outcome.Target.TheVariants as target
use Rattle.st_contexts.specs.declared.outcome.Limit as stop
use Rattle.st_contexts.specs.declared.outcome.Limit.TheVariants as limit
use Rattle.st_contexts.specs.declared.watch.Event as seen
use Rattle.st_contexts.specs.declared.watch.Event.TheVariants as event
use Rattle.st_contexts.specs.Stack.{Standing, env_in, entry_in, outer_acts}
use Rattle.st_rules.specs.Events.{Event}
use Rattle.st_rules.specs.State.{State, Entry, Env, Target, Home, Protected, Retry, RetryWith, Resume, Resignal, Terminate, Limit, StepLimit, DepthLimit, CellLimit, IntegerLimit, Outcome, Answer, Go, Stop, Turn}
use Rattle.st_rules.specs.Ends.{Purpose, ForSignal, ForPass, ForOuter, ForNested, Search, Wait, ToResume, ToOuter}
use Rattle.st_rules.specs.Rules.{Use, Apply, Activate, Enter, SendTo, SuperTo, Raise, RaiseNew, SearchIn, TurnBy, Ask, VisitBy, value_selector, fail}
use Rattle.st_rules.specs.Machine.{Act, BodyAct, Leaving, ProtectAct, EnsureOn, CurtailOn, ActionOff, SignalAct, HandlerRun, OuterAct, ResumeWait, HandlesWait, LoopAct, Mach, Run, Settle, Begin, Stuck, Bodies}
use Rattle.st_rules.specs.Flat.{FlatBody, flat}
use Rattle.st_rules.specs.Turns.{Top, On, Ended, open_next}
use Rattle.st_rules.specs.Runs as runs
use Rattle.st_machine.specs.declared.work.Work as done
use Rattle.st_machine.specs.declared.work.Work.TheVariants as work
use Rattle.st_machine.specs.declared.work.Told.{Told}
use Rattle.st_machine.specs.declared.work.Told.TheVariants as told
use Rattle.st_machine.specs.declared.work.Ending.{Ending}
use Rattle.st_machine.specs.declared.work.Ending.TheVariants as ending
use Rattle.st_machine.specs.declared.work.Mode.{Mode}
use Rattle.st_machine.specs.declared.work.Mode.TheVariants as mode
use Rattle.st_machine.specs.Seen.{Seen}
use Rattle.st_machine.specs.Plans.{program_in}

-- ---- outcomes and events

abbrev pub limit_of : stop.Limit → Limit
limit_of limit.Steps = StepLimit
limit_of limit.Depth = DepthLimit
limit_of limit.Cells = CellLimit
limit_of limit.Integer = IntegerLimit

abbrev pub target_of : aim.Target → Target
target_of (target.Home n) = Home n
target_of (target.Protected n) = Protected n
target_of (target.Retry n) = Retry n
target_of (target.RetryWith n) = RetryWith n
target_of (target.Resume n) = Resume n
target_of (target.Resignal n e) = Resignal n e
target_of target.Terminate = Terminate

abbrev pub outcome_of : hand.Outcome → Outcome
outcome_of (outcome.Answer v) = Answer v
outcome_of (outcome.Go t v) = Go (target_of t) v
outcome_of (outcome.Stop l) = Stop (limit_of l)

abbrev pub event_of : seen.Event → Event
event_of (event.Protect n) = Event.Protect n
event_of (event.Ensure n) = Event.Ensure n
event_of (event.Curtail n) = Event.Curtail n
event_of (event.Signal n) = Event.Signal n
event_of (event.Outer n) = Event.Outer n
event_of (event.Search n) = Event.Search n
event_of (event.Tried n fits) = Event.Tried n fits
event_of (event.Handle turn entry) = Event.Handle turn entry
event_of (event.Default n) = Event.Default n
event_of event.Known = Event.Known
event_of (event.Action n) = Event.Action n
event_of (event.Again n) = Event.Again n
event_of (event.Ask wait entry) = Event.Ask wait entry
event_of (event.End n cut) = Event.End n cut

abbrev pub events_of : Told → List Event
events_of told.Nothing = []
events_of (told.One e) = event_of e ∷ []
events_of (told.Two d e) = event_of d ∷ event_of e ∷ []

-- ---- environments and turns, among these activations

abbrev pub entry_seen : standing.Entry → Entry
entry_seen e = record { number = e.protect; selector = e.selector; handler = e.handler }

unfoldable pub env_of : List Standing → link.Env → Env
env_of acts env = map entry_seen (env_in acts env.0)

abbrev selector_of : Option standing.Entry → Value
selector_of None = Nil
selector_of (Some e) = e.selector

abbrev handler_of : Option standing.Entry → Value
handler_of None = Nil
handler_of (Some e) = e.handler

-- the entry with this number
unfoldable pub entry_named : List Standing → ℕ → Entry
entry_named acts n = record { number = n; selector = selector_of (entry_in n acts); handler = handler_of (entry_in n acts) }

abbrev pub turn_of : List Standing → linked.Turn → Turn
turn_of acts t =
    record { exception = t.exception; entry = option_map (entry_named acts) t.entry; outside = env_of acts t.outside; resume_point = t.resume_point; signal = t.signal }

abbrev pub purpose_of : List Standing → searched.Purpose → Purpose
purpose_of acts purpose.Signal = ForSignal
purpose_of acts (purpose.Pass t) = ForPass (turn_of acts t)
purpose_of acts (purpose.Outer t point) = ForOuter (turn_of acts t) point
purpose_of acts purpose.IsNested = ForNested

abbrev pub search_of : List Standing → SearchState → Search
search_of acts x = record { exception = x.exception; who = x.who; whole = env_of acts x.whole; purpose = purpose_of acts x.purpose }

abbrev pub wait_of : waiting.Wait → Wait
wait_of (wait.Resume v) = ToResume v
wait_of wait.Outer = ToOuter

-- ---- loops

unfoldable pub loop_of : kept.LoopState → actions.LoopState
loop_of l = kept_state l

-- ---- what stands

abbrev pub body_of : List Standing → Frame → ℕ → link.Env → List Value → FlatBody
body_of acts f n env operands =
    record { code = f.code; position = f.position; operands = operands; self = f.receiver; class = f.class; own = n; home = f.home; scope = f.scope; env = env_of acts env }

-- an activation among those outside it
abbrev pub act_by : Activation → ℕ → link.Env → List Value → List Standing → Act FlatBody
act_by (act.Body f) n env operands acts = BodyAct (body_of acts f n env operands)
act_by (act.Leaving f) n env operands acts = Leaving (body_of acts f n env operands)
act_by (act.Protect receiver selector handler) n env operands acts = ProtectAct receiver (record { number = n; selector = selector; handler = handler }) (env_of acts env)
act_by (act.EnsureOn block) n env operands acts = EnsureOn n block (env_of acts env)
act_by (act.CurtailOn block) n env operands acts = CurtailOn n block (env_of acts env)
act_by (act.ActionOff held) n env operands acts = ActionOff n (outcome_of held)
act_by (act.Signal e) n env operands acts = SignalAct n e (env_of acts env)
act_by (act.HandlerRun t) n env operands acts = HandlerRun n (turn_of acts t)
act_by act.Outer n env operands acts = OuterAct n
act_by (act.ResumeWait w k t) n env operands acts = ResumeWait n (wait_of w) k (turn_of acts t) (env_of acts env)
act_by (act.HandlesWait x entry) n env operands acts = HandlesWait n (search_of acts x) (entry_named acts entry) (env_of acts env)
act_by (act.Loop l) n env operands acts = LoopAct n (loop_of l) (env_of acts env)

abbrev pub act_of : Standing → List Standing → Act FlatBody
act_of a acts = act_by a.kept a.number a.env a.operands acts

abbrev pub acts_of : List Standing → List (Act FlatBody)
acts_of [] = []
acts_of (a ∷ acts) = act_of a acts ∷ acts_of acts

-- ---- the state

-- what the Transcript and the watcher got before isn't kept by the machine
abbrev pub state_of : Text → List Event → Seen → State
state_of transcript events s =
    record { store = s.memory.store; variables = s.variables; transcript = transcript; events = events; steps = s.steps; depth = s.deepest; cells = s.memory.used; next = s.stack.next }

abbrev pub use_of : Program → done.Work → List Value → List Standing → State → Use
use_of p (work.Apply receiver env) vs acts st = Apply receiver vs (env_of acts env)
use_of p (work.SendValue receiver env) vs acts st = SendTo (value_selector p (length vs)) receiver vs (env_of acts env)
use_of p (work.Activate closure env) vs acts st = Activate closure vs (env_of acts env)
use_of p (work.Enter code receiver env) vs acts st = Enter code receiver vs (env_of acts env)
use_of p (work.SendTo selector receiver env) vs acts st = SendTo selector receiver vs (env_of acts env)
use_of p (work.SuperTo class selector receiver env) vs acts st = SuperTo class selector receiver vs (env_of acts env)
use_of p (work.Fail trouble env) vs acts st = fail p trouble (env_of acts env)
use_of p (work.Raise exception env) vs acts st = Raise exception (env_of acts env)
use_of p (work.RaiseNew class env) vs acts st = RaiseNew class vs (env_of acts env)
use_of p (work.Search x rest) vs acts st = SearchIn (search_of acts x) (env_of acts rest)
use_of p (work.TurnBy x entry outside) vs acts st = TurnBy (search_of acts x) (option_map (entry_named acts) entry) (env_of acts outside)
use_of p (work.Ask w k t env) vs acts st = Ask (wait_of w) k (turn_of acts t) (env_of acts env)
use_of p (work.Visit n l v env) vs acts st = VisitBy n (next_visit p st.store (loop_of l) v) (env_of (outer_acts acts) env)

-- a loop that is to be visited is no activation yet
abbrev pub under : done.Work → List Standing → List Standing
under (work.Visit n l v env) acts = outer_acts acts
under _ acts = acts

abbrev pub running_by : Activation → Standing → List Standing → State → Mach FlatBody
running_by (act.Body f) a acts st = Run (body_of acts f a.number a.env a.operands) (acts_of acts) st
running_by _ a acts st = Stuck st

abbrev pub running : List Standing → State → Mach FlatBody
running [] st = Stuck st
running (a ∷ acts) st = running_by a.kept a acts st

abbrev pub mach_by : Mode → Seen → State → Mach FlatBody
mach_by mode.Run s st = running s.stack.acts st
mach_by (mode.Settle o) s st = Settle (outcome_of o) (acts_of s.stack.acts) st
mach_by (mode.Begin w) s st = Begin (use_of (program_in s.plan) w s.passed.values s.stack.acts st) (acts_of (under w s.stack.acts)) st
mach_by mode.Next s st = Stuck st
mach_by (mode.Ended e) s st = Stuck st

-- ---- the run

abbrev pub ending_of : Ending → runs.Ending
ending_of ending.Done = runs.Done
ending_of (ending.Unhandled v) = runs.Unhandled v
ending_of ending.Steps = runs.AtLimit StepLimit
ending_of ending.Depth = runs.AtLimit DepthLimit
ending_of ending.Cells = runs.AtLimit CellLimit
ending_of ending.Integer = runs.AtLimit IntegerLimit
ending_of ending.Stranded = runs.Stuck

abbrev last_of : List Initializer → Option ℕ
last_of [] = None
last_of (x ∷ xs) = x.target

-- the variable of the initializer that is on, and the initializers behind it
unfoldable pub target_in : Program → ℕ → Option ℕ
target_in p begun = last_of (drop (begun - 1) p.initializers)

unfoldable pub behind : Program → ℕ → List Initializer
behind p begun = drop begun p.initializers

abbrev pub flat_of : Seen → Bodies FlatBody
flat_of s = flat (program_in s.plan) s.plan.codes s.stack.width

abbrev pub top_by : Mode → Seen → State → Top FlatBody
top_by mode.Next s st = open_next (flat_of s) (program_in s.plan) (behind (program_in s.plan) s.initializers) st
top_by (mode.Ended e) s st = Ended (ending_of e) st
top_by m s st = On (target_in (program_in s.plan) s.initializers) (behind (program_in s.plan) s.initializers) (mach_by m s st)

-- the state of the flat machine, where this was written and told
abbrev pub top_of : Text → List Event → Seen → Top FlatBody
top_of transcript events s = top_by s.mode s (state_of transcript events s)
