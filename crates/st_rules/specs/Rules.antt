-- The rules: what a use of a rule does, where each use inside another takes an index that is smaller by one. Source: ANSI 3 and 5, as each part says.
use Rattle.std.specs.Prelude.{ℕ, zero, suc, ◌+◌, ◌-◌, Bool, true, false, List, [], ◌∷◌, ◌++◌, length, replicate, take, Option, Some, None, nat_eq, codes}
use Rattle.object_heap.specs.declared.value.Value.{Value}
use Rattle.object_heap.specs.declared.value.Value.TheVariants.{Nil, True, False, Object}
use Rattle.object_heap.specs.declared.value.Closure.{Closure}
use Rattle.object_heap.specs.declared.trouble.Trouble.{Trouble}
use Rattle.object_heap.specs.declared.trouble.Trouble.TheVariants.{NotFound, ExceptionExpected, AlreadySignaled, NotActive, NotResumable, HomeHasReturned, ZeroDivide}
use Rattle.object_heap.specs.Store.{Store, object_at}
use Rattle.st_code.specs.Program.{Tree, Constant, Self, Variable, Assign, Block, Send, SuperSend, Cascade, SuperCascade, Trees, no_trees, more_trees, Messages, no_messages, more_messages, Statement, Plain, Return, Kind, InMethod, InBlock, InInitializer, Program, body_at, class_at, number_of}
use Rattle.st_rules.specs.Events.{Event}
use Rattle.st_rules.specs.State.{State, Entry, Env, Home, Protected, Retry, RetryWith, Resume, Resignal, Terminate, StepLimit, DepthLimit, CellLimit, IntegerLimit, Outcome, Answer, Go, Stop, Turn, Mark, BodyMark, ProtectMark, ActionMark, LoopMark, WaitMark, OuterMark, SignalMark, TurnMark, Frame, with_store, told, step_made, stood, used, scope_cells, stands, is_live, FoundTurn, NoTurn, TurnAt, turn_of}
use Rattle.st_code.specs.BuiltIns.{error_class, zero_divide_class}
use Rattle.st_code.specs.Messages.{Control}
use Rattle.st_code.specs.Lookup.{is_plain, fits, is_exception}
use Rattle.st_collections.specs.Actions.{Action, Gives, Changes, Makes, Writes, Fails, DividesByZero, PassesIntegers, Begins, Activates, Sends, Misses, Enters, Guards, Ensures, Curtails, Iterates, Raises, RaisesNew, Controls, Terminates, LoopState, Visit, Applies, Compares, Finishes, Lacks, Charges, next_object, with_new}
use Rattle.st_collections.specs.Kinds.{is_true}
use Rattle.st_rules.specs.ExceptionRows.{closure_of, parameters_of}
use Rattle.st_collections.specs.Loops.{first_visit, next_visit}
use Rattle.st_rules.specs.Sends.{send_action, super_action}
use Rattle.st_rules.specs.Ends.{Result, Yields, NoIndex, charged, handle, then_value, stop, ended, trouble_text, read_place, write_place, with_block, with_arguments, with_message, Opening, block_opening, method_opening, frame_of, with_opened, body_end, left_end, turn_end, outer_end, SignalVerdict, Ends, Signals, signal_end, Verdict, Leaves, Again, protect_end, action_end, Purpose, ForPass, ForOuter, ForNested, Search, signal_search, turn_search, turn_for, asks_nested, Wait, ToResume, ToOuter, onto}

-- a use of a rule: an application; the activation of a closure and of a method; a send; what a message does at once; the signal of an exception that is there, of one that is made at its signal point, the search at a signal point, and the signal of another exception in its place; a search; the turn that it begins; the send of `isResumable`; `on:do:`; a termination block; a loop; a body
pub data Use : Type 0 where
  Apply : Value → List Value → Env → Use
  Activate : Closure → List Value → Env → Use
  Enter : (code : ℕ) → Value → List Value → Env → Use
  SendTo : (selector : ℕ) → Value → List Value → Env → Use
  SuperTo : (class : Value) → (selector : ℕ) → Value → List Value → Env → Use
  Perform : Action → Env → Use
  Raise : (exception : ℕ) → Env → Use
  RaiseNew : (class : ℕ) → List Value → Env → Use
  SignalPoint : (number exception : ℕ) → Env → Use
  Resignaled : (number exception other : ℕ) → Env → Use
  SearchIn : Search → (rest : Env) → Use
  TurnBy : Search → Option Entry → (outside : Env) → Use
  Ask : Wait → (turn : ℕ) → Turn → Env → Use
  Protect : (receiver : Value) → Entry → Env → Use
  Finish : (number : ℕ) → (block : Value) → (held : Outcome) → Env → Use
  VisitBy : (number : ℕ) → Visit → Env → Use
  RunBody : Frame → Env → Use

-- what is used at the smaller index: rules, and expressions in a frame
pub record Next : Type 0 where
  pub use' : Use → List Mark → State → Result
  pub tree : Tree → Frame → Env → List Mark → State → Result

-- ---- what rules and machine send by themselves

-- the selector of an application to so many values
abbrev pub value_selector : Program → ℕ → ℕ
value_selector p zero = number_of p (codes "value")
value_selector p (suc zero) = number_of p (codes "value:")
value_selector p (suc (suc n)) = number_of p (codes "value:value:")

abbrev pub sends_equal : Program → ℕ
sends_equal p = number_of p (codes "=")

abbrev pub sends_default_action : Program → ℕ
sends_default_action p = number_of p (codes "defaultAction")

abbrev pub sends_is_resumable : Program → ℕ
sends_is_resumable p = number_of p (codes "isResumable")

abbrev pub sends_handles : Program → ℕ
sends_handles p = number_of p (codes "handles:")

abbrev pub sends_not_understood : Program → ℕ
sends_not_understood p = number_of p (codes "doesNotUnderstand:")

-- the slots of an exception that is made at its signal point: these, and nil in each other one
unfoldable pub exception_slots : Program → (class : ℕ) → List Value → List Value
exception_slots p class slots = take (class_at p class).slots (slots ++ replicate ((class_at p class).slots - length slots) Nil)

-- the store with that exception
unfoldable pub with_exception : Program → (class : ℕ) → List Value → Store → Store
with_exception p class slots s = with_new class (exception_slots p class slots) [] s

abbrev pub exception_cells : Program → (class : ℕ) → ℕ
exception_cells p class = 1 + (class_at p class).slots

-- the closure of a block that takes so many values, where the value is one
abbrev fitting : Program → Option Closure → ℕ → Option Closure
fitting p None count = None
fitting p (Some c) count = elim (nat_eq (parameters_of p c) count) [ true ↦ Some c | false ↦ None ]

unfoldable pub closure_for : Program → Store → Value → ℕ → Option Closure
closure_for p s v count = fitting p (closure_of s v) count

-- the signal of a new Error with the text of a trouble
abbrev pub fail : Program → Trouble → Env → Use
fail p trouble env = RaiseNew error_class (trouble_text p trouble ∷ []) env

-- a closure that takes so many values is activated; to anything else `value` and its kin are sent
abbrev pub apply_by : Program → Option Closure → Value → List Value → Env → Use
apply_by p (Some c) v args env = Activate c args env
apply_by p None v args env = SendTo (value_selector p (length args)) v args env

-- a handler without parameters is applied to nothing
abbrev pub handler_by : Option Closure → Value → (exception : ℕ) → Env → Use
handler_by (Some c) handler e env = Activate c [] env
handler_by None handler e env = Apply handler (Object e ∷ []) env

module _ (p : Program) (next : Next) where
  -- the activation of a body: it stands, and its scope is charged
  abbrev pub opened : Opening → List Mark → State → Result
  opened x standing st =
      charged (stood p standing st) (stop DepthLimit st) (λ st1.
      charged (used p (scope_cells (body_at p x.code)) st1) (stop CellLimit st1) (λ st2.
      next.use' (RunBody (frame_of x st2.store) x.env) standing (with_store st2 (with_opened p x st2.store))))

  -- ---- signals (ANSI 5)

  abbrev pub signal_by : ℕ → ℕ → SignalVerdict → Env → List Mark → State → Result
  signal_by n e (Ends o) env standing st = Yields o (ended n o st)
  signal_by n e (Signals f) env standing st = next.use' (Resignaled n e f env) standing st

  abbrev pub signal_after : ℕ → ℕ → Env → List Mark → Outcome → State → Result
  signal_after n e env standing o st = signal_by n e (signal_end n o) env standing st

  abbrev pub raise : Bool → ℕ → Env → List Mark → State → Result
  raise true e env standing st = next.use' (fail p AlreadySignaled env) standing st
  raise false e env standing st =
      charged (stood p standing st) (stop DepthLimit st) (λ st1.
      next.use' (SignalPoint st.next e env) standing (told (Event.Signal st.next) st1))

  abbrev pub raise_new : ℕ → List Value → Env → List Mark → State → Result
  raise_new class slots env standing st =
      charged (stood p standing st) (stop DepthLimit st) (λ st1.
      let st2 = told (Event.Signal st.next) st1 in
      charged (used p (exception_cells p class) st2) (stop CellLimit st2) (λ st3.
      next.use' (SignalPoint st.next (length st3.store.objects) env) standing (with_store st3 (with_exception p class slots st3.store))))

  -- ---- searches (ANSI 5)

  -- the judged entry fits, or the search goes on in its outside
  abbrev pub tried : Bool → Search → Entry → Env → List Mark → State → Result
  tried true x entry rest standing st = next.use' (TurnBy x (Some entry) rest) standing (told (Event.Tried entry.number true) st)
  tried false x entry rest standing st = next.use' (SearchIn x rest) standing (told (Event.Tried entry.number false) st)

  abbrev pub handles_after : ℕ → Search → Entry → Env → List Mark → Outcome → State → Result
  handles_after n x entry rest standing (Answer v) st = tried (is_true v) x entry rest standing (ended n (Answer v) st)
  handles_after n x entry rest standing (Go t v) st = Yields (Go t v) (ended n (Go t v) st)
  handles_after n x entry rest standing (Stop l) st = Yields (Stop l) st

  -- a plain selector is judged at once; any other is asked, in the entry's outside
  abbrev pub judged : Bool → Search → Entry → Env → List Mark → State → Result
  judged true x entry rest standing st = tried (fits p st.store entry.selector (object_at x.exception st.store).class) x entry rest standing st
  judged false x entry rest standing st =
      charged (stood p standing st) (stop DepthLimit st) (λ st1.
      handle (next.use' (SendTo (sends_handles p) entry.selector (Object x.exception ∷ []) rest) (WaitMark st.next ∷ standing) (told (Event.Ask st.next entry.number) st1)) (handles_after st.next x entry rest standing))

  abbrev pub search : Search → Env → List Mark → State → Result
  search x [] standing st = next.use' (TurnBy x None x.whole) standing st
  search x (entry ∷ rest) standing st = judged (is_plain p st.store entry.selector) x entry rest standing st

  -- ---- turns (ANSI 5)

  abbrev pub turn_after : ℕ → Turn → List Mark → Outcome → State → Result
  turn_after n t standing o st = Yields (turn_end t standing o) (ended n (turn_end t standing o) st)

  abbrev pub turn_by : Bool → Search → Option Entry → Env → List Mark → State → Result
  turn_by true x None outside standing st = Yields (Answer False) (told Event.Known st)
  turn_by true x (Some entry) outside standing st = Yields (Answer True) (told Event.Known st)
  turn_by false x None outside standing st =
      charged (stood p standing st) (stop DepthLimit st) (λ st1.
      let t = turn_for x None outside in
      handle (next.use' (SendTo (sends_default_action p) (Object x.exception) [] outside) (TurnMark st.next t ∷ standing) (told (Event.Default st.next) st1)) (turn_after st.next t standing))
  turn_by false x (Some entry) outside standing st =
      charged (stood p standing st) (stop DepthLimit st) (λ st1.
      let t = turn_for x (Some entry) outside in
      handle (next.use' (handler_by (closure_for p st.store entry.handler 0) entry.handler x.exception outside) (TurnMark st.next t ∷ standing) (told (Event.Handle st.next entry.number) st1)) (turn_after st.next t standing))

  -- ---- exception actions (ANSI 5)

  abbrev pub pass : ℕ → ℕ → Turn → Purpose → List Mark → State → Result
  pass k e t purpose standing st = next.use' (SearchIn (turn_search k e t purpose) t.outside) standing (told (Event.Search k) st)

  abbrev pub outer_after : ℕ → List Mark → Outcome → State → Result
  outer_after n standing o st = Yields (outer_end n o) (ended n (outer_end n o) st)

  abbrev pub asked : Bool → Wait → ℕ → Turn → Env → List Mark → State → Result
  asked true (ToResume v) k t env standing st = Yields (Go (Resume t.resume_point) v) st
  asked false (ToResume v) k t env standing st = next.use' (fail p NotResumable env) standing st
  asked true ToOuter k t env standing st =
      charged (stood p standing st) (stop DepthLimit st) (λ st1.
      handle (pass k t.exception t (ForOuter t st.next) (OuterMark st.next ∷ standing) (told (Event.Outer st.next) st1)) (outer_after st.next standing))
  asked false ToOuter k t env standing st = pass k t.exception t (ForPass t) standing st

  abbrev pub wait_after : Wait → ℕ → Turn → Env → List Mark → Outcome → State → Result
  wait_after w k t env standing (Answer v) st = asked (is_true v) w k t env standing st
  wait_after w k t env standing (Go g v) st = Yields (Go g v) st
  wait_after w k t env standing (Stop l) st = Yields (Stop l) st

  abbrev pub resignal : Bool → Bool → Turn → ℕ → Value → Env → List Mark → State → Result
  resignal false live t f v env standing st = next.use' (fail p ExceptionExpected env) standing st
  resignal true true t f v env standing st = next.use' (fail p AlreadySignaled env) standing st
  resignal true false t f v env standing st = Yields (Go (Resignal t.signal f) v) st

  abbrev pub resignal_as : Turn → Value → Env → List Mark → State → Result
  resignal_as t (Object f) env standing st = resignal (is_exception p st.store (Object f)) (is_live f standing) t f (Object f) env standing st
  resignal_as t v env standing st = next.use' (fail p ExceptionExpected env) standing st

  -- a control message in a turn with this entry
  abbrev pub control_by : Control → Value → ℕ → Turn → Entry → Env → List Mark → State → Result
  control_by Control.Return v k t entry env standing st = Yields (Go (Protected entry.number) v) st
  control_by Control.Retry v k t entry env standing st = Yields (Go (Retry entry.number) Nil) st
  control_by Control.RetryUsing v k t entry env standing st = Yields (Go (RetryWith entry.number) v) st
  control_by Control.Resume v k t entry env standing st = next.use' (Ask (ToResume v) k t env) standing st
  control_by Control.Pass v k t entry env standing st = pass k t.exception t (ForPass t) standing st
  control_by Control.Outer v k t entry env standing st = next.use' (Ask ToOuter k t env) standing st
  control_by Control.ResignalAs v k t entry env standing st = resignal_as t v env standing st
  control_by Control.IsNested v k t entry env standing st = pass k t.exception t ForNested standing st

  -- in a turn of a default action only `resume` and `resume:` are active
  abbrev pub control_without : Control → Value → ℕ → Turn → Env → List Mark → State → Result
  control_without Control.Resume v k t env standing st = next.use' (Ask (ToResume v) k t env) standing st
  control_without _ v k t env standing st = next.use' (fail p NotActive env) standing st

  abbrev pub control_in : Option Entry → Control → Value → ℕ → Turn → Env → List Mark → State → Result
  control_in (Some entry) control v k t env standing st = control_by control v k t entry env standing st
  control_in None control v k t env standing st = control_without control v k t env standing st

  abbrev pub control : FoundTurn → Control → Value → Env → List Mark → State → Result
  control NoTurn c v env standing st = next.use' (fail p NotActive env) standing st
  control (TurnAt k t) c v env standing st = control_in t.entry c v k t env standing st

  -- ---- protection (ANSI 5)

  abbrev pub protect_by : Verdict → Entry → Env → List Mark → State → Result
  protect_by (Leaves o) entry env standing st = Yields o (ended entry.number o st)
  protect_by (Again receiver) entry env standing st = next.use' (Protect receiver entry env) standing (told (Event.Again entry.number) st)

  abbrev pub finish : ℕ → Value → Outcome → Env → List Mark → State → Result
  finish n block held env standing st = next.use' (Finish n block held env) standing (told (Event.Action n) st)

  abbrev pub ensure_after : ℕ → Value → Env → List Mark → Outcome → State → Result
  ensure_after n block env standing (Answer v) st = finish n block (Answer v) env standing st
  ensure_after n block env standing (Go t v) st = finish n block (Go t v) env standing st
  ensure_after n block env standing (Stop l) st = Yields (Stop l) st

  abbrev pub curtail_after : ℕ → Value → Env → List Mark → Outcome → State → Result
  curtail_after n block env standing (Answer v) st = Yields (Answer v) (ended n (Answer v) st)
  curtail_after n block env standing (Go t v) st = finish n block (Go t v) env standing st
  curtail_after n block env standing (Stop l) st = Yields (Stop l) st

  -- ---- loops (ANSI 5)

  abbrev pub visit_after : ℕ → LoopState → Env → List Mark → Outcome → State → Result
  visit_after n l env standing (Answer v) st = next.use' (VisitBy n (next_visit p st.store l v) env) standing st
  visit_after n l env standing (Go t v) st = Yields (Go t v) st
  visit_after n l env standing (Stop x) st = Yields (Stop x) st

  abbrev pub visit : ℕ → Visit → Env → List Mark → State → Result
  visit n (Applies l v args) env standing st = handle (next.use' (Apply v args env) (LoopMark n ∷ standing) st) (visit_after n l env standing)
  visit n (Compares l r v) env standing st = handle (next.use' (SendTo (sends_equal p) r (v ∷ []) env) (LoopMark n ∷ standing) st) (visit_after n l env standing)
  visit n (Finishes v) env standing st = Yields (Answer v) st
  visit n (Lacks l) env standing st = handle (next.use' (fail p NotFound env) (LoopMark n ∷ standing) st) (visit_after n l env standing)
  visit n (Charges cells s v) env standing st = charged (used p cells st) (stop CellLimit st) (λ st1. visit n v env standing (with_store st1 s))

  -- ---- what a message does at once (ANSI 3 and 5)

  abbrev pub perform : Action → Env → List Mark → State → Result
  perform (Gives v) env standing st = Yields (Answer v) st
  perform (Changes s v) env standing st = Yields (Answer v) (with_store st s)
  perform (Makes cells s v) env standing st = charged (used p cells st) (stop CellLimit st) (λ st1. Yields (Answer v) (with_store st1 s))
  perform (Writes text v) env standing st = Yields (Answer v) (record st { transcript = st.transcript ++ text })
  perform (Fails trouble) env standing st = next.use' (fail p trouble env) standing st
  perform (DividesByZero dividend) env standing st = next.use' (RaiseNew zero_divide_class (trouble_text p ZeroDivide ∷ dividend ∷ []) env) standing st
  perform PassesIntegers env standing st = Yields (Stop IntegerLimit) st
  perform (Begins v args) env standing st = next.use' (Apply v args env) standing st
  perform (Activates c args) env standing st = next.use' (Activate c args env) standing st
  perform (Sends selector r args) env standing st = next.use' (SendTo selector r args env) standing st
  perform (Misses selector r args) env standing st =
      charged (used p (1 + length args) st) (stop CellLimit st) (λ st1.
      let st2 = with_store st1 (with_arguments args st1.store) in
      charged (used p 3 st2) (stop CellLimit st2) (λ st3.
      next.use' (SendTo (sends_not_understood p) r (next_object st3.store ∷ []) env) standing (with_store st3 (with_message selector (next_object st1.store) st3.store))))
  perform (Enters code r args) env standing st = next.use' (Enter code r args env) standing st
  perform (Guards receiver selector handler) env standing st =
      charged (stood p standing st) (stop DepthLimit st) (λ st1.
      next.use' (Protect receiver (record { number = st.next; selector = selector; handler = handler }) env) standing (told (Event.Protect st.next) st1))
  perform (Ensures receiver block) env standing st =
      charged (stood p standing st) (stop DepthLimit st) (λ st1.
      handle (next.use' (Apply receiver [] env) (ActionMark st.next ∷ standing) (told (Event.Ensure st.next) st1)) (ensure_after st.next block env standing))
  perform (Curtails receiver block) env standing st =
      charged (stood p standing st) (stop DepthLimit st) (λ st1.
      handle (next.use' (Apply receiver [] env) (ActionMark st.next ∷ standing) (told (Event.Curtail st.next) st1)) (curtail_after st.next block env standing))
  perform (Iterates l) env standing st =
      charged (stood p standing st) (stop DepthLimit st) (λ st1. next.use' (VisitBy st.next (first_visit p st1.store l) env) standing st1)
  perform (Raises s e) env standing st = next.use' (Raise e env) standing (with_store st s)
  perform (RaisesNew class slots) env standing st = next.use' (RaiseNew class slots env) standing st
  perform (Controls c e v) env standing st = control (turn_of e standing) c v env standing st
  perform (Terminates v) env standing st = Yields (Go Terminate v) st

  -- ---- expressions, in a frame (ANSI 3)

  module _ (f : Frame) (env : Env) (standing : List Mark) where
    abbrev pub leave : Kind → Bool → Value → State → Result
    leave InMethod b v st = Yields (Go (Home f.own) v) st
    leave InInitializer b v st = Yields (Go (Home f.own) v) st
    leave InBlock true v st = Yields (Go (Home f.home) v) st
    leave InBlock false v st = handle (next.use' (fail p HomeHasReturned env) standing st) (λ o st'. Yields (left_end f o) st')

    -- arguments from the left, onto those that are there
    abbrev pub eval_args : Trees → List Value → (List Value → State → Result) → State → Result
    eval_args no_trees vs k st = k vs st
    eval_args (more_trees t row) vs k st = then_value (next.tree t f env standing st) (λ v st1. eval_args row (v ∷ vs) k st1)

    -- the messages of a cascade to one receiver, each by this kind of send
    abbrev pub eval_messages : (ℕ → Value → List Value → Use) → Messages → Value → Value → State → Result
    eval_messages to no_messages r v st = Yields (Answer v) st
    eval_messages to (more_messages selector args row) r v st =
        eval_args args [] (λ vs st1. then_value (next.use' (to selector r (onto vs [])) standing st1) (λ w st2. eval_messages to row r w st2)) st

    abbrev pub eval : Tree → State → Result
    eval (Constant v) st = Yields (Answer v) st
    eval Self st = Yields (Answer f.self) st
    eval (Variable place) st = Yields (Answer (read_place p f st place)) st
    eval (Assign place t) st = then_value (next.tree t f env standing st) (λ v st1. Yields (Answer v) (write_place p f st1 place v))
    eval (Block code) st = charged (used p 2 st) (stop CellLimit st) (λ st1. Yields (Answer (next_object st1.store)) (with_store st1 (with_block f code st1.store)))
    eval (Send selector t args) st =
        then_value (next.tree t f env standing st) (λ r st1. eval_args args [] (λ vs st2. next.use' (SendTo selector r (onto vs []) env) standing st2) st1)
    eval (SuperSend selector args) st = eval_args args [] (λ vs st1. next.use' (SuperTo f.class selector f.self (onto vs []) env) standing st1) st
    eval (Cascade t messages) st =
        then_value (next.tree t f env standing st) (λ r st1. eval_messages (λ selector r' args. SendTo selector r' args env) messages r r st1)
    eval (SuperCascade messages) st = eval_messages (λ selector r args. SuperTo f.class selector r args env) messages f.self f.self st

    abbrev pub eval_body : List Statement → Value → State → Result
    eval_body [] v st = Yields (Answer v) st
    eval_body (Plain t ∷ row) v st = then_value (next.tree t f env standing st) (λ w st1. eval_body row w st1)
    eval_body (Return t ∷ row) v st = then_value (next.tree t f env standing st) (λ w st1. leave f.kind (stands f.home standing) w st1)

  -- ---- the rules

  abbrev pub rule : Use → List Mark → State → Result
  rule (Apply v args env) standing st = next.use' (apply_by p (closure_for p st.store v (length args)) v args env) standing st
  rule (Activate c args env) standing st =
      charged (step_made p st) (stop StepLimit st) (λ st1. opened (block_opening c args env st1.next) standing st1)
  rule (Enter code r args env) standing st = opened (method_opening p code r args env st.next) standing st
  rule (SendTo selector r args env) standing st =
      charged (step_made p st) (stop StepLimit st) (λ st1. next.use' (Perform (send_action p st1.store selector r args) env) standing st1)
  rule (SuperTo class selector r args env) standing st =
      charged (step_made p st) (stop StepLimit st) (λ st1. next.use' (Perform (super_action p st1.store class selector r args) env) standing st1)
  rule (Perform a env) standing st = perform a env standing st
  rule (Raise e env) standing st = raise (is_live e standing) e env standing st
  rule (RaiseNew class slots env) standing st = raise_new class slots env standing st
  rule (SignalPoint n e env) standing st =
      handle (next.use' (SearchIn (signal_search n e env) env) (SignalMark n e ∷ standing) (told (Event.Search n) st)) (signal_after n e env standing)
  rule (Resignaled n e f env) standing st =
      handle (next.use' (Raise f env) (SignalMark n e ∷ standing) st) (signal_after n e env standing)
  rule (SearchIn x rest) standing st = search x rest standing st
  rule (TurnBy x entry outside) standing st = turn_by (asks_nested x) x entry outside standing st
  rule (Ask w k t env) standing st =
      charged (stood p standing st) (stop DepthLimit st) (λ st1.
      handle (next.use' (SendTo (sends_is_resumable p) (Object t.exception) [] env) (WaitMark st.next ∷ standing) st1) (wait_after w k t env standing))
  rule (Protect receiver entry env) standing st =
      handle (next.use' (Apply receiver [] (entry ∷ env)) (ProtectMark entry.number ∷ standing) st) (λ o st'. protect_by (protect_end entry.number receiver o) entry env standing st')
  rule (Finish n block held env) standing st =
      handle (next.use' (Apply block [] env) (ActionMark n ∷ standing) st) (λ o st'. Yields (action_end held o) (ended n (action_end held o) st'))
  rule (VisitBy n v env) standing st = visit n v env standing st
  rule (RunBody f env) standing st =
      handle (eval_body f env (BodyMark f.own ∷ standing) (body_at p f.code).statements Nil st) (λ o st'. Yields (body_end f o) st')

  abbrev pub tree_rule : Tree → Frame → Env → List Mark → State → Result
  tree_rule t f env standing st = eval f env standing t st

-- the rules at an index: at 0 none gives an outcome
unfoldable pub at_index : Program → ℕ → Next
at_index p zero = record { use' = λ u standing st. NoIndex; tree = λ t f env standing st. NoIndex }
at_index p (suc n) = record { use' = rule p (at_index p n); tree = tree_rule p (at_index p n) }
