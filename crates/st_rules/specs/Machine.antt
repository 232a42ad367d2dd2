-- The instruction machine: what stands beside its bodies, and its small steps. An instruction runs, an outcome settles at the innermost activation, or a use of a rule begins. How a body keeps its variables and code is left open. This form is the profile's own.
use Rattle.std.specs.Prelude.{ℕ, zero, suc, ◌+◌, Bool, true, false, List, [], ◌∷◌, ◌++◌, length, Option, Some, None}
use Rattle.object_heap.specs.declared.value.Value.{Value}
use Rattle.object_heap.specs.declared.value.Value.TheVariants.{Nil, True, False, Object}
use Rattle.object_heap.specs.declared.trouble.Trouble.TheVariants.{NotFound, ExceptionExpected, AlreadySignaled, NotActive, NotResumable, ZeroDivide}
use Rattle.object_heap.specs.Store.{Store, object_at}
use Rattle.st_code.specs.Program.{Program, body_at}
use Rattle.st_rules.specs.Events.{Event}
use Rattle.st_rules.specs.State.{State, Entry, Env, Target, Protected, Retry, RetryWith, Resume, Resignal, Terminate, Limit, StepLimit, DepthLimit, CellLimit, IntegerLimit, Outcome, Answer, Go, Stop, Turn, Mark, BodyMark, ProtectMark, ActionMark, LoopMark, WaitMark, OuterMark, SignalMark, TurnMark, with_store, told, step_made, stood, used, scope_cells, is_live, FoundTurn, NoTurn, TurnAt, turn_of}
use Rattle.st_code.specs.BuiltIns.{zero_divide_class}
use Rattle.st_code.specs.Messages.{Control}
use Rattle.st_code.specs.Lookup.{is_plain, fits, is_exception}
use Rattle.st_collections.specs.Actions.{Action, Gives, Changes, Makes, Writes, Fails, DividesByZero, PassesIntegers, Begins, Activates, Sends, Misses, Enters, Guards, Ensures, Curtails, Iterates, Raises, RaisesNew, Controls, Terminates, LoopState, Visit, Applies, Compares, Finishes, Lacks, Charges, next_object}
use Rattle.st_collections.specs.Kinds.{is_true}
use Rattle.st_collections.specs.Loops.{first_visit, next_visit}
use Rattle.st_rules.specs.Sends.{send_action, super_action}
use Rattle.st_rules.specs.Ends.{charged, ended, trouble_text, with_arguments, with_message, Opening, block_opening, method_opening, at_home, turn_end, outer_end, SignalVerdict, Ends, Signals, signal_end, Verdict, Leaves, Again, protect_end, action_end, Purpose, ForPass, ForOuter, ForNested, Search, signal_search, turn_search, turn_for, asks_nested, Wait, ToResume, ToOuter}
use Rattle.st_rules.specs.Rules.{Use, Apply, Activate, Enter, SendTo, SuperTo, Perform, Raise, RaiseNew, SignalPoint, Resignaled, SearchIn, TurnBy, Ask, Protect, Finish, VisitBy, RunBody, sends_equal, sends_default_action, sends_is_resumable, sends_handles, sends_not_understood, with_exception, exception_cells, closure_for, fail, apply_by, handler_by}

-- an activation: a body; a body at a `^` whose home is gone; or a control activation with what it keeps
pub data Act (B : Type 0) : Type 0 where
  BodyAct Leaving : B → Act B
  ProtectAct : (receiver : Value) → Entry → Env → Act B
  -- `ensure:` and `ifCurtailed:` whose block is still on, and with the outcome that is held while it runs
  EnsureOn CurtailOn : (number : ℕ) → (block : Value) → Env → Act B
  ActionOff : (number : ℕ) → (held : Outcome) → Act B
  SignalAct : (number exception : ℕ) → Env → Act B
  HandlerRun : (number : ℕ) → Turn → Act B
  OuterAct : (number : ℕ) → Act B
  -- waits for the answers of `isResumable` and `handles:`
  ResumeWait : (number : ℕ) → Wait → (turn : ℕ) → Turn → Env → Act B
  HandlesWait : (number : ℕ) → Search → Entry → (rest : Env) → Act B
  LoopAct : (number : ℕ) → LoopState → Env → Act B

-- an instruction comes next; an outcome reaches the innermost activation; a use of a rule begins; it is over. `Stuck` comes never
pub data Mach (B : Type 0) : Type 0 where
  Run : B → List (Act B) → State → Mach B
  Settle : Outcome → List (Act B) → State → Mach B
  Begin : Use → List (Act B) → State → Mach B
  Over : Outcome → State → Mach B
  Stuck : State → Mach B

-- what bodies are: their numbers; the store and the body of an activation; a body with one more operand; one instruction
pub record Bodies (B : Type 0) : Type 0 where
  pub number : B → ℕ
  pub opened_store : Opening → Store → Store
  pub opened_body : Opening → Store → B
  pub given : Value → B → B
  pub instruct : B → List (Act B) → State → Mach B

module _ {B : Type 0} (number : B → ℕ) where
  abbrev pub mark_of : Act B → Mark
  mark_of (BodyAct x) = BodyMark (number x)
  mark_of (Leaving x) = BodyMark (number x)
  mark_of (ProtectAct receiver entry env) = ProtectMark entry.number
  mark_of (EnsureOn n block env) = ActionMark n
  mark_of (CurtailOn n block env) = ActionMark n
  mark_of (ActionOff n held) = ActionMark n
  mark_of (SignalAct n e env) = SignalMark n e
  mark_of (HandlerRun n t) = TurnMark n t
  mark_of (OuterAct n) = OuterMark n
  mark_of (ResumeWait n w k t env) = WaitMark n
  mark_of (HandlesWait n x entry rest) = WaitMark n
  mark_of (LoopAct n l env) = LoopMark n

  -- what stands
  abbrev pub marks : List (Act B) → List Mark
  marks [] = []
  marks (a ∷ acts) = mark_of a ∷ marks acts

abbrev pub stopped : {B : Type 0} → Limit → List (Act B) → State → Mach B
stopped l acts st = Settle (Stop l) acts st

module _ {B : Type 0} (b : Bodies B) (p : Program) where
  -- an activation of a body
  abbrev pub open_act : Opening → List (Act B) → State → Mach B
  open_act x acts st =
      charged (stood p (marks b.number acts) st) (stopped DepthLimit acts st) (λ st1.
      charged (used p (scope_cells (body_at p x.code)) st1) (stopped CellLimit acts st1) (λ st2.
      Run (b.opened_body x st2.store) acts (with_store st2 (b.opened_store x st2.store))))

  -- ---- signals, searches and turns

  abbrev pub raise_act : Bool → ℕ → Env → List (Act B) → State → Mach B
  raise_act true e env acts st = Begin (fail p AlreadySignaled env) acts st
  raise_act false e env acts st =
      charged (stood p (marks b.number acts) st) (stopped DepthLimit acts st) (λ st1.
      Begin (SignalPoint st.next e env) acts (told (Event.Signal st.next) st1))

  abbrev pub raise_new_act : ℕ → List Value → Env → List (Act B) → State → Mach B
  raise_new_act class slots env acts st =
      charged (stood p (marks b.number acts) st) (stopped DepthLimit acts st) (λ st1.
      let st2 = told (Event.Signal st.next) st1 in
      charged (used p (exception_cells p class) st2) (stopped CellLimit acts st2) (λ st3.
      Begin (SignalPoint st.next (length st3.store.objects) env) acts (with_store st3 (with_exception p class slots st3.store))))

  abbrev pub tried_act : Bool → Search → Entry → Env → List (Act B) → State → Mach B
  tried_act true x entry rest acts st = Begin (TurnBy x (Some entry) rest) acts (told (Event.Tried entry.number true) st)
  tried_act false x entry rest acts st = Begin (SearchIn x rest) acts (told (Event.Tried entry.number false) st)

  abbrev pub judged_act : Bool → Search → Entry → Env → List (Act B) → State → Mach B
  judged_act true x entry rest acts st = tried_act (fits p st.store entry.selector (object_at x.exception st.store).class) x entry rest acts st
  judged_act false x entry rest acts st =
      charged (stood p (marks b.number acts) st) (stopped DepthLimit acts st) (λ st1.
      Begin (SendTo (sends_handles p) entry.selector (Object x.exception ∷ []) rest) (HandlesWait st.next x entry rest ∷ acts) (told (Event.Ask st.next entry.number) st1))

  abbrev pub search_act : Search → Env → List (Act B) → State → Mach B
  search_act x [] acts st = Begin (TurnBy x None x.whole) acts st
  search_act x (entry ∷ rest) acts st = judged_act (is_plain p st.store entry.selector) x entry rest acts st

  abbrev pub turn_act : Bool → Search → Option Entry → Env → List (Act B) → State → Mach B
  turn_act true x None outside acts st = Settle (Answer False) acts (told Event.Known st)
  turn_act true x (Some entry) outside acts st = Settle (Answer True) acts (told Event.Known st)
  turn_act false x None outside acts st =
      charged (stood p (marks b.number acts) st) (stopped DepthLimit acts st) (λ st1.
      Begin (SendTo (sends_default_action p) (Object x.exception) [] outside) (HandlerRun st.next (turn_for x None outside) ∷ acts) (told (Event.Default st.next) st1))
  turn_act false x (Some entry) outside acts st =
      charged (stood p (marks b.number acts) st) (stopped DepthLimit acts st) (λ st1.
      Begin (handler_by (closure_for p st.store entry.handler 0) entry.handler x.exception outside) (HandlerRun st.next (turn_for x (Some entry) outside) ∷ acts) (told (Event.Handle st.next entry.number) st1))

  -- ---- exception actions

  abbrev pub pass_act : ℕ → ℕ → Turn → Purpose → List (Act B) → State → Mach B
  pass_act k e t purpose acts st = Begin (SearchIn (turn_search k e t purpose) t.outside) acts (told (Event.Search k) st)

  abbrev pub asked_act : Bool → Wait → ℕ → Turn → Env → List (Act B) → State → Mach B
  asked_act true (ToResume v) k t env acts st = Settle (Go (Resume t.resume_point) v) acts st
  asked_act false (ToResume v) k t env acts st = Begin (fail p NotResumable env) acts st
  asked_act true ToOuter k t env acts st =
      charged (stood p (marks b.number acts) st) (stopped DepthLimit acts st) (λ st1.
      pass_act k t.exception t (ForOuter t st.next) (OuterAct st.next ∷ acts) (told (Event.Outer st.next) st1))
  asked_act false ToOuter k t env acts st = pass_act k t.exception t (ForPass t) acts st

  abbrev pub resignal_act : Bool → Bool → Turn → ℕ → Value → Env → List (Act B) → State → Mach B
  resignal_act false live t f v env acts st = Begin (fail p ExceptionExpected env) acts st
  resignal_act true true t f v env acts st = Begin (fail p AlreadySignaled env) acts st
  resignal_act true false t f v env acts st = Settle (Go (Resignal t.signal f) v) acts st

  abbrev pub resignal_as_act : Turn → Value → Env → List (Act B) → State → Mach B
  resignal_as_act t (Object f) env acts st = resignal_act (is_exception p st.store (Object f)) (is_live f (marks b.number acts)) t f (Object f) env acts st
  resignal_as_act t v env acts st = Begin (fail p ExceptionExpected env) acts st

  abbrev pub control_by_act : Control → Value → ℕ → Turn → Entry → Env → List (Act B) → State → Mach B
  control_by_act Control.Return v k t entry env acts st = Settle (Go (Protected entry.number) v) acts st
  control_by_act Control.Retry v k t entry env acts st = Settle (Go (Retry entry.number) Nil) acts st
  control_by_act Control.RetryUsing v k t entry env acts st = Settle (Go (RetryWith entry.number) v) acts st
  control_by_act Control.Resume v k t entry env acts st = Begin (Ask (ToResume v) k t env) acts st
  control_by_act Control.Pass v k t entry env acts st = pass_act k t.exception t (ForPass t) acts st
  control_by_act Control.Outer v k t entry env acts st = Begin (Ask ToOuter k t env) acts st
  control_by_act Control.ResignalAs v k t entry env acts st = resignal_as_act t v env acts st
  control_by_act Control.IsNested v k t entry env acts st = pass_act k t.exception t ForNested acts st

  abbrev pub control_without_act : Control → Value → ℕ → Turn → Env → List (Act B) → State → Mach B
  control_without_act Control.Resume v k t env acts st = Begin (Ask (ToResume v) k t env) acts st
  control_without_act _ v k t env acts st = Begin (fail p NotActive env) acts st

  abbrev pub control_in_act : Option Entry → Control → Value → ℕ → Turn → Env → List (Act B) → State → Mach B
  control_in_act (Some entry) c v k t env acts st = control_by_act c v k t entry env acts st
  control_in_act None c v k t env acts st = control_without_act c v k t env acts st

  abbrev pub control_act : FoundTurn → Control → Value → Env → List (Act B) → State → Mach B
  control_act NoTurn c v env acts st = Begin (fail p NotActive env) acts st
  control_act (TurnAt k t) c v env acts st = control_in_act t.entry c v k t env acts st

  -- ---- loops

  abbrev pub visit_act : ℕ → Visit → Env → List (Act B) → State → Mach B
  visit_act n (Applies l v args) env acts st = Begin (Apply v args env) (LoopAct n l env ∷ acts) st
  visit_act n (Compares l r v) env acts st = Begin (SendTo (sends_equal p) r (v ∷ []) env) (LoopAct n l env ∷ acts) st
  visit_act n (Finishes v) env acts st = Settle (Answer v) acts st
  visit_act n (Lacks l) env acts st = Begin (fail p NotFound env) (LoopAct n l env ∷ acts) st
  visit_act n (Charges cells s v) env acts st = charged (used p cells st) (stopped CellLimit acts st) (λ st1. visit_act n v env acts (with_store st1 s))

  -- ---- what a message does at once

  abbrev pub perform_act : Action → Env → List (Act B) → State → Mach B
  perform_act (Gives v) env acts st = Settle (Answer v) acts st
  perform_act (Changes s v) env acts st = Settle (Answer v) acts (with_store st s)
  perform_act (Makes cells s v) env acts st = charged (used p cells st) (stopped CellLimit acts st) (λ st1. Settle (Answer v) acts (with_store st1 s))
  perform_act (Writes text v) env acts st = Settle (Answer v) acts (record st { transcript = st.transcript ++ text })
  perform_act (Fails trouble) env acts st = Begin (fail p trouble env) acts st
  perform_act (DividesByZero dividend) env acts st = Begin (RaiseNew zero_divide_class (trouble_text p ZeroDivide ∷ dividend ∷ []) env) acts st
  perform_act PassesIntegers env acts st = stopped IntegerLimit acts st
  perform_act (Begins v args) env acts st = Begin (Apply v args env) acts st
  perform_act (Activates c args) env acts st = Begin (Activate c args env) acts st
  perform_act (Sends selector r args) env acts st = Begin (SendTo selector r args env) acts st
  perform_act (Misses selector r args) env acts st =
      charged (used p (1 + length args) st) (stopped CellLimit acts st) (λ st1.
      let st2 = with_store st1 (with_arguments args st1.store) in
      charged (used p 3 st2) (stopped CellLimit acts st2) (λ st3.
      Begin (SendTo (sends_not_understood p) r (next_object st3.store ∷ []) env) acts (with_store st3 (with_message selector (next_object st1.store) st3.store))))
  perform_act (Enters code r args) env acts st = Begin (Enter code r args env) acts st
  perform_act (Guards receiver selector handler) env acts st =
      charged (stood p (marks b.number acts) st) (stopped DepthLimit acts st) (λ st1.
      Begin (Protect receiver (record { number = st.next; selector = selector; handler = handler }) env) acts (told (Event.Protect st.next) st1))
  perform_act (Ensures receiver block) env acts st =
      charged (stood p (marks b.number acts) st) (stopped DepthLimit acts st) (λ st1.
      Begin (Apply receiver [] env) (EnsureOn st.next block env ∷ acts) (told (Event.Ensure st.next) st1))
  perform_act (Curtails receiver block) env acts st =
      charged (stood p (marks b.number acts) st) (stopped DepthLimit acts st) (λ st1.
      Begin (Apply receiver [] env) (CurtailOn st.next block env ∷ acts) (told (Event.Curtail st.next) st1))
  perform_act (Iterates l) env acts st =
      charged (stood p (marks b.number acts) st) (stopped DepthLimit acts st) (λ st1. Begin (VisitBy st.next (first_visit p st1.store l) env) acts st1)
  perform_act (Raises s e) env acts st = Begin (Raise e env) acts (with_store st s)
  perform_act (RaisesNew class slots) env acts st = Begin (RaiseNew class slots env) acts st
  perform_act (Controls c e v) env acts st = control_act (turn_of e (marks b.number acts)) c v env acts st
  perform_act (Terminates v) env acts st = Settle (Go Terminate v) acts st

  -- ---- the beginning of a use of a rule

  abbrev pub begin : Use → List (Act B) → State → Mach B
  begin (Apply v args env) acts st = Begin (apply_by p (closure_for p st.store v (length args)) v args env) acts st
  begin (Activate c args env) acts st =
      charged (step_made p st) (stopped StepLimit acts st) (λ st1. open_act (block_opening c args env st1.next) acts st1)
  begin (Enter code r args env) acts st = open_act (method_opening p code r args env st.next) acts st
  begin (SendTo selector r args env) acts st =
      charged (step_made p st) (stopped StepLimit acts st) (λ st1. Begin (Perform (send_action p st1.store selector r args) env) acts st1)
  begin (SuperTo class selector r args env) acts st =
      charged (step_made p st) (stopped StepLimit acts st) (λ st1. Begin (Perform (super_action p st1.store class selector r args) env) acts st1)
  begin (Perform a env) acts st = perform_act a env acts st
  begin (Raise e env) acts st = raise_act (is_live e (marks b.number acts)) e env acts st
  begin (RaiseNew class slots env) acts st = raise_new_act class slots env acts st
  begin (SignalPoint n e env) acts st = Begin (SearchIn (signal_search n e env) env) (SignalAct n e env ∷ acts) (told (Event.Search n) st)
  begin (Resignaled n e f env) acts st = Begin (Raise f env) (SignalAct n e env ∷ acts) st
  begin (SearchIn x rest) acts st = search_act x rest acts st
  begin (TurnBy x entry outside) acts st = turn_act (asks_nested x) x entry outside acts st
  begin (Ask w k t env) acts st =
      charged (stood p (marks b.number acts) st) (stopped DepthLimit acts st) (λ st1.
      Begin (SendTo (sends_is_resumable p) (Object t.exception) [] env) (ResumeWait st.next w k t env ∷ acts) st1)
  begin (Protect receiver entry env) acts st = Begin (Apply receiver [] (entry ∷ env)) (ProtectAct receiver entry env ∷ acts) st
  begin (Finish n block held env) acts st = Begin (Apply block [] env) (ActionOff n held ∷ acts) st
  begin (VisitBy n v env) acts st = visit_act n v env acts st
  begin (RunBody f env) acts st = Stuck st

  -- ---- an outcome at an activation

  abbrev pub protect_verdict : Verdict → Entry → Env → List (Act B) → State → Mach B
  protect_verdict (Leaves o) entry env acts st = Settle o acts (ended entry.number o st)
  protect_verdict (Again receiver) entry env acts st = Begin (Protect receiver entry env) acts (told (Event.Again entry.number) st)

  abbrev pub signal_verdict : ℕ → ℕ → SignalVerdict → Env → List (Act B) → State → Mach B
  signal_verdict n e (Ends o) env acts st = Settle o acts (ended n o st)
  signal_verdict n e (Signals f) env acts st = Begin (Resignaled n e f env) acts st

  abbrev pub finish_act : ℕ → Value → Outcome → Env → List (Act B) → State → Mach B
  finish_act n block held env acts st = Begin (Finish n block held env) acts (told (Event.Action n) st)

  -- a value: a body goes on with it
  abbrev pub give : Value → Act B → List (Act B) → State → Mach B
  give v (BodyAct x) acts st = Run (b.given v x) acts st
  give v (Leaving x) acts st = Settle (Answer v) acts st
  give v (ProtectAct receiver entry env) acts st = protect_verdict (protect_end entry.number receiver (Answer v)) entry env acts st
  give v (EnsureOn n block env) acts st = finish_act n block (Answer v) env acts st
  give v (CurtailOn n block env) acts st = Settle (Answer v) acts (ended n (Answer v) st)
  give v (ActionOff n held) acts st = Settle (action_end held (Answer v)) acts (ended n (action_end held (Answer v)) st)
  give v (SignalAct n e env) acts st = signal_verdict n e (signal_end n (Answer v)) env acts st
  give v (HandlerRun n t) acts st = Settle (turn_end t (marks b.number acts) (Answer v)) acts (ended n (turn_end t (marks b.number acts) (Answer v)) st)
  give v (OuterAct n) acts st = Settle (outer_end n (Answer v)) acts (ended n (outer_end n (Answer v)) st)
  give v (ResumeWait n w k t env) acts st = asked_act (is_true v) w k t env acts st
  give v (HandlesWait n x entry rest) acts st = tried_act (is_true v) x entry rest acts (ended n (Answer v) st)
  give v (LoopAct n l env) acts st = Begin (VisitBy n (next_visit p st.store l v) env) acts st

  -- an unwinding
  abbrev pub unwind : Target → Value → Act B → List (Act B) → State → Mach B
  unwind t v (BodyAct x) acts st = Settle (at_home (b.number x) t v) acts st
  unwind t v (Leaving x) acts st = Settle (at_home (b.number x) t v) acts st
  unwind t v (ProtectAct receiver entry env) acts st = protect_verdict (protect_end entry.number receiver (Go t v)) entry env acts st
  unwind t v (EnsureOn n block env) acts st = finish_act n block (Go t v) env acts st
  unwind t v (CurtailOn n block env) acts st = finish_act n block (Go t v) env acts st
  unwind t v (ActionOff n held) acts st = Settle (Go t v) acts (ended n (Go t v) st)
  unwind t v (SignalAct n e env) acts st = signal_verdict n e (signal_end n (Go t v)) env acts st
  unwind t v (HandlerRun n turn) acts st = Settle (Go t v) acts (ended n (Go t v) st)
  unwind t v (OuterAct n) acts st = Settle (outer_end n (Go t v)) acts (ended n (outer_end n (Go t v)) st)
  unwind t v (ResumeWait n w k turn env) acts st = Settle (Go t v) acts st
  unwind t v (HandlesWait n x entry rest) acts st = Settle (Go t v) acts (ended n (Go t v) st)
  unwind t v (LoopAct n l env) acts st = Settle (Go t v) acts st

  abbrev pub settle : Outcome → List (Act B) → State → Mach B
  settle (Answer v) [] st = Over (Answer v) st
  settle (Answer v) (a ∷ acts) st = give v a acts st
  settle (Go t v) [] st = Over (Go t v) st
  settle (Go t v) (a ∷ acts) st = unwind t v a acts st
  settle (Stop l) acts st = Over (Stop l) st

  abbrev pub step : Mach B → Mach B
  step (Run x acts st) = b.instruct x acts st
  step (Settle o acts st) = settle o acts st
  step (Begin u acts st) = begin u acts st
  step (Over o st) = Over o st
  step (Stuck st) = Stuck st

  abbrev pub iter : ℕ → Mach B → Mach B
  iter zero m = m
  iter (suc n) m = iter n (step m)
