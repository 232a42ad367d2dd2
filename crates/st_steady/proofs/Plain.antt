-- A step passes on no more values than there is room for; and only a loop that stands innermost comes to be visited.
use Rattle.std.proofs.Common.{◌≡◌, ℕ, ◌+◌, ◌≤◌, max, List, [], ◌∷◌, length, Bool, true, false, Option, Some, None, nat_le, nat_lt, nat_eq, slice_get, if◌then◌else◌, refl, arith}
use Rattle.std.proofs.lemmas.Bool.{leb-true, ltb-true}
use Rattle.object_heap.specs.declared.value.Value.{Value}
use Rattle.object_heap.specs.declared.value.Value.TheVariants as value
use Rattle.object_heap.specs.declared.value.Closure.{Closure}
use Rattle.object_heap.specs.declared.trouble.Trouble.TheVariants as trouble
use Rattle.object_heap.specs.Charges.{scope_charge, scope_made}
use Rattle.st_code.specs.BuiltIns.{array_class, message_class, error_class, zero_divide_class}
use Rattle.st_code.specs.Lookup.{is_exception}
use Rattle.st_code.specs.Messages.{Control}
use Rattle.st_collections.specs.declared.answer.Built.{Built}
use Rattle.st_collections.specs.Actions.{Action, Gives, Changes, Makes, Fails, PassesIntegers, DividesByZero, Writes, Begins, Activates, Sends, Misses, Enters, Guards, Ensures, Curtails, Iterates, Raises, RaisesNew, Controls, Terminates, LoopState as State, Visit, Applies, Compares, Finishes, Lacks, Charges}
use Rattle.st_collections.specs.Loops.{first_visit, next_visit}
use Rattle.st_compiler.specs.declared.units.Initializer.{Initializer}
use Rattle.st_contexts.specs.declared.activation.Activation.{Activation}
use Rattle.st_contexts.specs.declared.activation.Activation.TheVariants as act
use Rattle.st_contexts.specs.declared.activation.Entry.{Entry}
use Rattle.st_contexts.specs.declared.activation.Env.{Env}
use Rattle.st_contexts.specs.declared.activation.Frame.{Frame}
use Rattle.st_contexts.specs.declared.activation.Turn.{Turn}
use Rattle.st_contexts.specs.declared.activation.SearchState.{SearchState}
use Rattle.st_contexts.specs.declared.activation.Wait.{Wait}
use Rattle.st_contexts.specs.declared.outcome.Limit.TheVariants as limit
use Rattle.st_contexts.specs.Stack.{entry_in, pushed}
use Rattle.st_loops.specs.States.{state_of}
use Rattle.st_loops.specs.Steps.{Seen as Step, Next, Full, Out, told_of, memory_after as memory_paid}
use Rattle.st_messages.specs.Replies.{Seen as Said, Answered, Raised, GoesOn, told_by, memory_after}
use Rattle.st_rules.specs.Flat.{code_at}
use Rattle.st_rules.specs.Rules.{sends_equal, sends_not_understood, sends_handles}
use Rattle.st_rules.specs.State.{count_true}
use Rattle.st_machine.specs.declared.opening.Opening.{Opening}
use Rattle.st_machine.specs.declared.work.Ending.TheVariants as ending
use Rattle.st_machine.specs.declared.work.Mode.{Mode}
use Rattle.st_machine.specs.declared.work.Mode.TheVariants as mode
use Rattle.st_machine.specs.declared.work.Work.{Work}
use Rattle.st_machine.specs.declared.work.Work.TheVariants as work
use Rattle.st_machine.specs.Controls.{resignaled, resignaled_as, controlled_by, controlled_without, controlled_in, controlled_at}
use Rattle.st_machine.specs.Initializers.{opened_by, next_opened, counted}
use Rattle.st_machine.specs.Loops.{visit_made, loop_stepped, visited_by, standing_so, no_loop, loop_begins, loop_goes_on, iterated_by, given_by}
use Rattle.st_machine.specs.Opening.{has_place, stood, has_step, stepped, stopped, beginning, frame_for, captured_in, own_furnished, scope_furnished, furnished_with, furnished, opened, block_opening, activated, entered, closure_in, fitting, apply_work}
use Rattle.st_machine.specs.Passing.{passing_on}
use Rattle.st_machine.specs.Performing.{message_sent, message_slots, message_made, guarded, answered_so, gone_on, said, performed}
use Rattle.st_machine.specs.Plans.{program_in}
use Rattle.st_machine.specs.Scopes.{if_room}
use Rattle.st_machine.specs.Searches.{one_passed, sending_one, inquired, fits_here, plain_here, examined_by, searched_at, turn_for, asks_nested, handler_of, handler_begun, nothing_passed, handler_applied, turned_at, turned_by, resumability_asked}
use Rattle.st_machine.specs.Seen.{Passed, Seen, with_memory, with_passed, passing}
use Rattle.st_machine.specs.Sending.{sent_by, acted, send_of, super_send_of, value_in, send_is_sound, super_send_is_sound, sent}
use Rattle.st_machine.specs.Settling.{judged, ended}
use Rattle.st_machine.specs.Signals.{raised_by, text_in, slots_in, if_object, exception_made, signal_made, new_signal}
use Rattle.st_machine.specs.Works.{begun}
use Rattle.signal_env.specs.declared.turns.FoundTurn.{FoundTurn}
use Rattle.signal_env.specs.Turns.{turn_in, live_in}

-- no loop is to be visited
abbrev pub NoVisit : Mode → Type 0
NoVisit (mode.Begin (work.Visit n l v env)) = ⊥
NoVisit _ = Unit {0}

-- there's room for the values that are passed on
abbrev pub Few : Seen → Type 0
Few s = length s.passed.values ≤ s.passed.room

pub record Plain (s : Seen) : Type 0 where
  pub mode : NoVisit s.mode
  pub few : Few s

pub either : (b : Bool) (s t : Seen) → Plain s → Plain t → Plain (if b then s else t)
either true s t g h = g
either false s t g h = h

-- ---- what leaves them as they are

pub few_stood : (k : Activation) (env : Env) (s : Seen) → Few s → Few (stood k env s)
few_stood k env s f = go (has_place s)
  where
    go : (b : Bool) → Few (if b then record s { stack = pushed k env s.stack; deepest = max s.deepest (length s.stack.acts + 1) } else s)
    go true = f
    go false = f

few_stepped : (s : Seen) → Few s → Few (stepped s)
few_stepped s f = go (has_step s)
  where
    go : (b : Bool) → Few (if b then record s { steps = s.steps + 1 } else s)
    go true = f
    go false = f

one_few : (v : Value) (p : Passed) → length (one_passed v p).values ≤ (one_passed v p).room
one_few v p = go (nat_lt 0 p.room) refl
  where
    go : (b : Bool) → nat_lt 0 p.room ≡ b → length (if b then v ∷ [] else []) ≤ p.room
    go true e = ltb-true 0 p.room e
    go false e = omega arith

passes : (values : List Value) (w : Work) (s : Seen) → NoVisit (mode.Begin w) → Few s → Plain (passing_on values (beginning w) s)
passes values w s m f = go (nat_le (length values) s.passed.room) refl
  where
    go : (b : Bool) → nat_le (length values) s.passed.room ≡ b → Plain (if b then beginning w (with_passed s (passing values s.passed)) else ended ending.Stranded s)
    go true e = record { mode = m; few = leb-true (length values) s.passed.room e }
    go false e = record { mode = tt; few = f }

-- ---- bodies that are opened

scopes : (o : Option ℕ) (f : Frame) (s : Seen) → Few s → Plain (scope_furnished o f s)
scopes (Some scope) f s h = record { mode = tt; few = h }
scopes None f s h = record { mode = tt; few = h }

furnishes : (n : ℕ) (f : Frame) (s : Seen) → Few s → Plain (furnished_with n f s)
furnishes n f s h =
    either (nat_eq n 0) (own_furnished f s) (scope_furnished (if_room (scope_charge n) (length s.memory.store.scopes) s.memory) f (with_memory s (scope_made f.code n f.scope s.memory)))
    (record { mode = tt; few = h }) (scopes (if_room (scope_charge n) (length s.memory.store.scopes) s.memory) f (with_memory s (scope_made f.code n f.scope s.memory)) h)

opens : (x : Opening) (s : Seen) → Few s → Plain (opened x s)
opens x s h =
    let f : Frame = frame_for x s.stack.next in
    let t : Seen = stood (act.Body f) x.env s in
    either (has_place s) (furnished f t) (stopped limit.Depth s) (furnishes (count_true (captured_in t f.code)) f t (few_stood (act.Body f) x.env s h)) (record { mode = tt; few = h })

activates : (c : Closure) (env : Env) (s : Seen) → Few s → Plain (activated c env s)
activates c env s h = either (has_step s) (opened (block_opening c env) (stepped s)) (stopped limit.Steps s) (opens (block_opening c env) (stepped s) (few_stepped s h)) (record { mode = tt; few = h })

enters : (code : ℕ) (receiver : Value) (env : Env) (s : Seen) → Few s → Plain (entered code receiver env s)
enters code receiver env s h = opens (record { code = code; receiver = receiver; class = (code_at s.plan.codes code).class; home = None; outer = None; env = env }) s h

applies_by : (o : Option Closure) (receiver : Value) (env : Env) (s : Seen) → Few s → Plain (beginning (apply_work o receiver env) s)
applies_by (Some c) receiver env s h = record { mode = tt; few = h }
applies_by None receiver env s h = record { mode = tt; few = h }

opens_by : (o : Option Initializer) (s : Seen) → Few s → Plain (opened_by o s)
opens_by (Some x) s h = enters x.code x.receiver (record { 0 = 0 }) (counted s) (omega arith)
opens_by None s h = record { mode = tt; few = h }

-- ---- signals, searches and turns

raises_by : (b : Bool) (e : ℕ) (env : Env) (s : Seen) → Few s → Plain (raised_by b e env s)
raises_by true e env s h = record { mode = tt; few = h }
raises_by false e env s h =
    either (has_place s) _ (stopped limit.Depth s) (record { mode = tt; few = few_stood (act.Signal e) env s h }) (record { mode = tt; few = h })

signals : (o : Option ℕ) (n : ℕ) (env : Env) (s : Seen) → Few s → Plain (signal_made o n env s)
signals (Some e) n env s h = record { mode = tt; few = h }
signals None n env s h = record { mode = tt; few = h }

raises_new : (class count : ℕ) (slots : List Value) (env : Env) (s : Seen) → Few s → Plain (new_signal class count slots env s)
raises_new class count slots env s h =
    let t : Seen = with_memory (stood (act.Signal 0) env s) (exception_made class count slots s.memory) in
    either (has_place s) (signal_made (if_object count s.memory) s.stack.next env t) (stopped limit.Depth s) (signals (if_object count s.memory) s.stack.next env t (few_stood (act.Signal 0) env s h)) (record { mode = tt; few = h })

pub judges : (b : Bool) (x : SearchState) (entry : ℕ) (rest : Env) (s : Seen) → Few s → Plain (judged b x entry rest s)
judges true x entry rest s h = record { mode = tt; few = h }
judges false x entry rest s h = record { mode = tt; few = h }

inquires : (x : SearchState) (entry : Entry) (s : Seen) → Few s → Plain (inquired x entry s)
inquires x entry s h =
    let t : Seen = stood (act.HandlesWait x entry.protect) entry.outside s in
    either (has_place s) (sending_one (sends_handles (program_in s.plan)) entry.selector (value.Object x.exception) entry.outside t) (stopped limit.Depth s)
    (record { mode = tt; few = one_few (value.Object x.exception) t.passed }) (record { mode = tt; few = h })

examines : (b : Bool) (x : SearchState) (entry : Entry) (s : Seen) → Few s → Plain (examined_by b x entry s)
examines true x entry s h = judges (fits_here x entry s) x entry.protect entry.outside s h
examines false x entry s h = inquires x entry s h

searches_at : (o : Option Entry) (x : SearchState) (s : Seen) → Few s → Plain (searched_at o x s)
searches_at None x s h = record { mode = tt; few = h }
searches_at (Some entry) x s h = examines (plain_here entry s) x entry s h

handles_by : (o : Option Closure) (handler : Value) (e : ℕ) (env : Env) (s : Seen) → Few s → Plain (handler_begun o handler e env s)
handles_by (Some c) handler e env s h = record { mode = tt; few = h }
handles_by None handler e env s h = record { mode = tt; few = one_few (value.Object e) s.passed }

handler_runs : (handler : Value) (e : ℕ) (env : Env) (s : Seen) → Plain (handler_applied handler e env s)
handler_runs handler e env s = handles_by (fitting (closure_in handler (nothing_passed s)) (nothing_passed s)) handler e env (nothing_passed s) (omega arith)

turns_at : (o : Option ℕ) (x : SearchState) (outside : Env) (s : Seen) → Few s → Plain (turned_at o x outside s)
turns_at None x outside s h = either (has_place s) _ (stopped limit.Depth s) (record { mode = tt; few = omega arith }) (record { mode = tt; few = h })
turns_at (Some entry) x outside s h =
    let t : Seen = stood (act.HandlerRun (turn_for x (Some entry) outside)) outside s in
    either (has_place s) (handler_applied (handler_of entry s.stack.acts) x.exception outside t) (stopped limit.Depth s) (handler_runs (handler_of entry s.stack.acts) x.exception outside t) (record { mode = tt; few = h })

turns_by : (b : Bool) (x : SearchState) (entry : Option ℕ) (outside : Env) (s : Seen) → Few s → Plain (turned_by b x entry outside s)
turns_by true x entry outside s h = record { mode = tt; few = h }
turns_by false x entry outside s h = turns_at entry x outside s h

asks : (w : Wait) (k : ℕ) (t : Turn) (env : Env) (s : Seen) → Few s → Plain (resumability_asked w k t env s)
asks w k t env s h = either (has_place s) _ (stopped limit.Depth s) (record { mode = tt; few = omega arith }) (record { mode = tt; few = h })

-- ---- what an exception is told

resignals : (there live : Bool) (t : Turn) (f : ℕ) (env : Env) (s : Seen) → Few s → Plain (resignaled there live t f env s)
resignals false live t f env s h = record { mode = tt; few = h }
resignals true true t f env s h = record { mode = tt; few = h }
resignals true false t f env s h = record { mode = tt; few = h }

resignals_as : (t : Turn) (v : Value) (env : Env) (s : Seen) → Few s → Plain (resignaled_as t v env s)
resignals_as t (value.Object f) env s h = resignals (is_exception (program_in s.plan) s.memory.store (value.Object f)) (live_in f s.stack.acts) t f env s h
resignals_as t v env s h = record { mode = tt; few = h }

controls_by : (c : Control) (v : Value) (k : ℕ) (t : Turn) (entry : ℕ) (env : Env) (s : Seen) → Few s → Plain (controlled_by c v k t entry env s)
controls_by Control.Return v k t entry env s h = record { mode = tt; few = h }
controls_by Control.Retry v k t entry env s h = record { mode = tt; few = h }
controls_by Control.RetryUsing v k t entry env s h = record { mode = tt; few = h }
controls_by Control.Resume v k t entry env s h = record { mode = tt; few = h }
controls_by Control.Pass v k t entry env s h = record { mode = tt; few = h }
controls_by Control.Outer v k t entry env s h = record { mode = tt; few = h }
controls_by Control.ResignalAs v k t entry env s h = resignals_as t v env s h
controls_by Control.IsNested v k t entry env s h = record { mode = tt; few = h }

controls_without : (c : Control) (v : Value) (k : ℕ) (t : Turn) (env : Env) (s : Seen) → Few s → Plain (controlled_without c v k t env s)
controls_without Control.Resume v k t env s h = record { mode = tt; few = h }
controls_without c v k t env s h = record { mode = tt; few = h }

controls_in : (o : Option ℕ) (c : Control) (v : Value) (k : ℕ) (t : Turn) (env : Env) (s : Seen) → Few s → Plain (controlled_in o c v k t env s)
controls_in (Some entry) c v k t env s h = controls_by c v k t entry env s h
controls_in None c v k t env s h = controls_without c v k t env s h

controls_at : (o : Option FoundTurn) (c : Control) (v : Value) (env : Env) (s : Seen) → Few s → Plain (controlled_at o c v env s)
controls_at (Some found) c v env s h = controls_in found.turn.entry c v found.number found.turn env s h
controls_at None c v env s h = record { mode = tt; few = h }

-- ---- loops

makes_visit : (v : Visit) (env : Env) (s : Seen) → Few s → Plain (visit_made v env s)
makes_visit (Applies l block args) env s h = passes args (work.Apply block env) (standing_so l s) tt h
makes_visit (Compares l r v) env s h = passes (v ∷ []) (work.SendTo (sends_equal (program_in s.plan)) r env) (standing_so l s) tt h
makes_visit (Finishes v) env s h = record { mode = tt; few = h }
makes_visit (Lacks l) env s h = record { mode = tt; few = h }
makes_visit (Charges cells t v) env s h = record { mode = tt; few = h }

loop_steps : (x : Step) (env : Env) (s : Seen) → Few s → Plain (loop_stepped x env s)
loop_steps (Next v) env s h = makes_visit v env s h
loop_steps (Full used charge) env s h = record { mode = tt; few = h }
loop_steps Out env s h = record { mode = tt; few = h }

visits_by : (v : Visit) (env : Env) (s : Seen) → Few s → Plain (visited_by v env s)
visits_by v env s h = loop_steps (told_of v s.memory) env (with_memory s (memory_paid v s.memory)) h

iterates_by : (b : Bool) (l : State) (env : Env) (s : Seen) → Few s → Plain (iterated_by b l env s)
iterates_by true l env s h =
    let t : Seen = stood (act.Loop no_loop) env s in
    let v : Visit = first_visit (program_in s.plan) s.memory.store l in
    either (has_place s) (visited_by v env t) (stopped limit.Depth s) (visits_by v env t (few_stood (act.Loop no_loop) env s h)) (record { mode = tt; few = h })
iterates_by false l env s h = record { mode = tt; few = h }

gives_by : (b : Bool) (l : State) (v : Value) (env : Env) (s : Seen) → Few s → Plain (given_by b l v env s)
gives_by true l v env s h = visits_by (next_visit (program_in s.plan) s.memory.store l v) env s h
gives_by false l v env s h = record { mode = tt; few = h }

-- ---- what a message does at once

message_sends : (o : Option ℕ) (r : Value) (env : Env) (s : Seen) → Few s → Plain (message_sent o r env s)
message_sends (Some message) r env s h = passes (value.Object message ∷ []) (work.SendTo (sends_not_understood (program_in s.plan)) r env) s tt h
message_sends None r env s h = record { mode = tt; few = h }

message_makes : (o : Option ℕ) (selector : ℕ) (r : Value) (env : Env) (s : Seen) → Few s → Plain (message_made o selector r env s)
message_makes (Some array) selector r env s h = message_sends (if_object 2 s.memory) r env (with_memory s (exception_made message_class 2 (message_slots selector array) s.memory)) h
message_makes None selector r env s h = record { mode = tt; few = h }

guards : (kept : Activation) (receiver : Value) (inside env : Env) (s : Seen) → Few s → Plain (guarded kept receiver inside env s)
guards kept receiver inside env s h = either (has_place s) _ (stopped limit.Depth s) (record { mode = tt; few = omega arith }) (record { mode = tt; few = h })

answers : (b : Built) (env : Env) (s : Seen) → Few s → Plain (answered_so b env s)
answers (Built.Value v) env s h = record { mode = tt; few = h }
answers (Built.Trouble t) env s h = record { mode = tt; few = h }
answers (Built.Cells used charge) env s h = record { mode = tt; few = h }
answers Built.IntegerLimit env s h = record { mode = tt; few = h }
answers Built.OutOfMemory env s h = record { mode = tt; few = h }

goes_on : (a : Action) (env : Env) (s : Seen) → Few s → Plain (gone_on a env s)
goes_on (Gives v) env s h = record { mode = tt; few = h }
goes_on (Changes t v) env s h = record { mode = tt; few = h }
goes_on (Makes cells t v) env s h = record { mode = tt; few = h }
goes_on (Fails t) env s h = record { mode = tt; few = h }
goes_on PassesIntegers env s h = record { mode = tt; few = h }
goes_on (Raises t e) env s h = record { mode = tt; few = h }
goes_on (Writes text v) env s h = record { mode = tt; few = h }
goes_on (DividesByZero dividend) env s h = passes (text_in s.plan trouble.ZeroDivide ∷ dividend ∷ []) (work.RaiseNew zero_divide_class env) s tt h
goes_on (Begins v args) env s h = passes args (work.Apply v env) s tt h
goes_on (Activates c args) env s h = passes args (work.Activate c env) s tt h
goes_on (Sends selector r args) env s h = passes args (work.SendTo selector r env) s tt h
goes_on (Misses selector r args) env s h = message_makes (if_object (length args) s.memory) selector r env (with_memory s (exception_made array_class (length args) args s.memory)) h
goes_on (Enters code r args) env s h = passes args (work.Enter code r env) s tt h
goes_on (Guards receiver selector handler) env s h = guards (act.Protect receiver selector handler) receiver (record { 0 = s.stack.next }) env s h
goes_on (Ensures receiver block) env s h = guards (act.EnsureOn block) receiver env env s h
goes_on (Curtails receiver block) env s h = guards (act.CurtailOn block) receiver env env s h
goes_on (Iterates l) env s h = iterates_by (loop_begins s.memory.store l) l env s h
goes_on (RaisesNew class slots) env s h = passes slots (work.RaiseNew class env) s tt h
goes_on (Controls c e v) env s h = controls_at (turn_in e s.stack.acts) c v env s h
goes_on (Terminates v) env s h = record { mode = tt; few = h }

says : (x : Said) (env : Env) (s : Seen) → Few s → Plain (said x env s)
says (Answered b) env s h = answers b env s h
says (Raised e) env s h = record { mode = tt; few = h }
says (GoesOn a) env s h = goes_on a env s h

performs : (a : Action) (env : Env) (s : Seen) → Few s → Plain (performed a env s)
performs a env s h = says (told_by a s.memory) env (with_memory s (memory_after a s.memory)) h

sends_by : (sound : Bool) (a : Action) (env : Env) (s : Seen) → Few s → Plain (sent_by sound a env s)
sends_by true a env s h = performs a env s h
sends_by false a env s h = record { mode = tt; few = h }

acts : (sound : Bool) (a : Action) (env : Env) (s : Seen) → Few s → Plain (acted sound a env s)
acts sound a env s h = either (has_step s) (sent_by sound a env (stepped s)) (stopped limit.Steps s) (sends_by sound a env (stepped s) (few_stepped s h)) (record { mode = tt; few = h })

sends : (selector : ℕ) (receiver : Value) (env : Env) (s : Seen) → Few s → Plain (sent selector receiver env s)
sends selector receiver env s h = acts (send_is_sound selector receiver s) (send_of selector receiver s) env s h

-- ---- the beginning of a work

pub works : (w : Work) (s : Seen) → Few s → Plain (begun w s)
works (work.Apply receiver env) s h = applies_by (fitting (closure_in receiver s) s) receiver env s h
works (work.SendValue receiver env) s h = sends (value_in s) receiver env s h
works (work.Activate c env) s h = activates c env s h
works (work.Enter code receiver env) s h = enters code receiver env s h
works (work.SendTo selector receiver env) s h = sends selector receiver env s h
works (work.SuperTo class selector receiver env) s h = acts (super_send_is_sound class selector receiver s) (super_send_of class selector receiver s) env s h
works (work.Fail t env) s h = raises_new error_class (slots_in s.plan error_class) (text_in s.plan t ∷ []) env s h
works (work.Raise e env) s h = raises_by (live_in e s.stack.acts) e env s h
works (work.RaiseNew class env) s h = raises_new class (slots_in s.plan class) s.passed.values env s h
works (work.Search x rest) s h = searches_at (entry_in rest.0 s.stack.acts) x s h
works (work.TurnBy x entry outside) s h = turns_by (asks_nested x.purpose) x entry outside s h
works (work.Ask w k t env) s h = asks w k t env s h
works (work.Visit n l v env) s h = gives_by (loop_goes_on s.memory.store (state_of l)) (state_of l) v env s h

pub opens_next : (s : Seen) → Few s → Plain (next_opened s)
opens_next s h = opens_by (slice_get s.plan.initializers s.initializers) s h
