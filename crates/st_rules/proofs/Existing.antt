-- Every use of a rule has an outcome from some index on: a law for each rule, by the steps that are left and then by what is evaluated.
use Rattle.std.proofs.Common.{ℕ, zero, suc, ◌+◌, ◌<◌, length, List, [], ◌∷◌, Option, Some, None, Bool, true, false, arith}
use Rattle.object_heap.specs.declared.value.Value.{Value}
use Rattle.object_heap.specs.declared.value.Value.TheVariants.{Nil, Object}
use Rattle.object_heap.specs.declared.value.Closure.{Closure}
use Rattle.object_heap.specs.declared.trouble.Trouble.{Trouble}
use Rattle.object_heap.specs.declared.trouble.Trouble.TheVariants.{NotFound, ExceptionExpected, AlreadySignaled, NotActive, HomeHasReturned}
use Rattle.object_heap.specs.Store.{object_at}
use Rattle.st_code.specs.Program.{Tree, Constant, Self, Variable, Assign, Block, Send, SuperSend, Cascade, SuperCascade, Trees, no_trees, more_trees, Messages, no_messages, more_messages, Statement, Plain, Return, Kind, InMethod, InBlock, InInitializer, Program, body_at, Place, Scoped, Slot, ClassSlot, Shared}
use Rattle.st_code.specs.Messages.{Control}
use Rattle.st_code.specs.Lookup.{is_plain, fits, is_exception}
use Rattle.st_collections.specs.Actions.{Action, Gives, Changes, Makes, Writes, Fails, DividesByZero, PassesIntegers, Begins, Activates, Sends, Misses, Enters, Guards, Ensures, Curtails, Iterates, Raises, RaisesNew, Controls, Terminates, LoopState, Visit, Applies, Compares, Finishes, Lacks, Charges}
use Rattle.st_collections.specs.Kinds.{is_true}
use Rattle.st_collections.specs.Loops.{first_visit}
use Rattle.st_rules.specs.State.{State, Entry, Env, Outcome, Answer, Go, Stop, Turn, Mark, BodyMark, Frame, scope_cells, stands, is_live, FoundTurn, NoTurn, TurnAt, turn_of}
use Rattle.st_rules.specs.Ends.{Result, Yields, handle, ended, write_place, Opening, block_opening, method_opening, SignalVerdict, Ends, Signals, signal_end, Verdict, Leaves, Again, protect_end, turn_end, outer_end, left_end, body_end, Purpose, ForPass, ForNested, Search, signal_search, turn_search, turn_for, asks_nested, Wait, ToResume, ToOuter, onto}
use Rattle.st_rules.specs.Rules.{Use, Apply, Activate, Enter, SendTo, SuperTo, Perform, Raise, RaiseNew, SignalPoint, Resignaled, SearchIn, TurnBy, Ask, Protect, Finish, VisitBy, RunBody, closure_for, fail, apply_by, handler_by, opened, signal_by, signal_after, raise, tried, judged, turn_by, turn_after, pass, asked, resignal, resignal_as, control_by, control_without, control_in, control, protect_by, ensure_after, curtail_after, visit_after, visit, perform, leave, eval_args, eval_messages, eval, eval_body, at_index, exception_cells}
use Rattle.st_rules.proofs.Settles.{Within, AtLeast, MoreThan, less, least_is_more, more_is_least, more_told, Settles, settled, settles_so, use_settles, tree_settles, step_settles, stood_settles, used_settles, handle_settles, outcome_settles, value_settles}

-- each use has an outcome from some index on, where at least b steps are made
pub record Answered (p : Program) (b : ℕ) : Type 0 where
  pub by : (u : Use) (standing : List Mark) (st : State) → Within p b st → Settles (AtLeast p b) (λ k. (at_index p k).use' u standing st)

module _ (p : Program) (b : ℕ) (later : Answered p (suc b)) where
  -- an outcome, and one with another step unless a limit stopped it
  abbrev Least : (ℕ → Result) → Type 0
  Least X = Settles (AtLeast p b) X

  abbrev More : (ℕ → Result) → Type 0
  More X = Settles (MoreThan p b) X

  abbrev Here : State → Type 0
  Here st = Within p b st

  abbrev Later : State → Type 0
  Later st = Within p (suc b) st

  least : (X : ℕ → Result) → More X → Least X
  least X e = settles_so (MoreThan p b) (AtLeast p b) X (more_is_least p b) e

  later_more : (u : Use) (standing : List Mark) (st : State) → Later st → More (λ k. (at_index p k).use' u standing st)
  later_more u standing st w = settles_so (AtLeast p (suc b)) (MoreThan p b) _ (least_is_more p b) (later.by u standing st w)

  yields : (o : Outcome) (st : State) → Here st → Least (λ k. Yields o st)
  yields o st w = settled (AtLeast p b) (Yields o st) w

  yields_more : (o : Outcome) (st : State) → Later st → More (λ k. Yields o st)
  yields_more o st w = settled (MoreThan p b) (Yields o st) (least_is_more p b (Yields o st) w)

  yields_told : (n : ℕ) (o : Outcome) (st : State) → Later st → More (λ k. Yields o (ended n o st))
  yields_told n o st w = settled (MoreThan p b) (Yields o (ended n o st)) (more_told p b n o st w)

  -- ---- applications and sends: each charges a step

  opened_later : (x : Opening) (standing : List Mark) (st : State) → Later st → More (λ k. opened p (at_index p k) x standing st)
  opened_later x standing st w =
      stood_settles p (MoreThan p b) (suc b) standing st _ _ w (less p b st w) (λ st1 w1.
      used_settles p (MoreThan p b) (suc b) (scope_cells (body_at p x.code)) st1 _ _ w1 (less p b st1 w1) (λ st2 w2. later_more _ standing _ w2))

  activated : (c : Closure) (args : List Value) (env : Env) (standing : List Mark) (st : State) → Here st → More (λ k. (at_index p k).use' (Activate c args env) standing st)
  activated c args env standing st w =
      use_settles p (MoreThan p b) _ standing st (step_settles p (MoreThan p b) b st _ _ w w (λ st1 w1. opened_later (block_opening c args env st1.next) standing st1 w1))

  sent : (selector : ℕ) (r : Value) (args : List Value) (env : Env) (standing : List Mark) (st : State) → Here st → More (λ k. (at_index p k).use' (SendTo selector r args env) standing st)
  sent selector r args env standing st w =
      use_settles p (MoreThan p b) _ standing st (step_settles p (MoreThan p b) b st _ _ w w (λ st1 w1. later_more _ standing st1 w1))

  super_sent : (c : Value) (selector : ℕ) (r : Value) (args : List Value) (env : Env) (standing : List Mark) (st : State) → Here st → More (λ k. (at_index p k).use' (SuperTo c selector r args env) standing st)
  super_sent c selector r args env standing st w =
      use_settles p (MoreThan p b) _ standing st (step_settles p (MoreThan p b) b st _ _ w w (λ st1 w1. later_more _ standing st1 w1))

  applied_by : (o : Option Closure) (v : Value) (args : List Value) (env : Env) (standing : List Mark) (st : State) → Here st → More (λ k. (at_index p k).use' (apply_by p o v args env) standing st)
  applied_by (Some c) v args env standing st w = activated c args env standing st w
  applied_by None v args env standing st w = sent _ v args env standing st w

  applied : (v : Value) (args : List Value) (env : Env) (standing : List Mark) (st : State) → Here st → More (λ k. (at_index p k).use' (Apply v args env) standing st)
  applied v args env standing st w = use_settles p (MoreThan p b) _ standing st (applied_by (closure_for p st.store v (length args)) v args env standing st w)

  handled_by : (o : Option Closure) (handler : Value) (e : ℕ) (env : Env) (standing : List Mark) (st : State) → Here st → More (λ k. (at_index p k).use' (handler_by o handler e env) standing st)
  handled_by (Some c) handler e env standing st w = activated c [] env standing st w
  handled_by None handler e env standing st w = applied handler (Object e ∷ []) env standing st w

  -- ---- turns and searches: without a step only where `isNested` asks

  abbrev Moved : Bool → Result → Type 0
  Moved true r = AtLeast p b r
  Moved false r = MoreThan p b r

  more_moved : (a : Bool) (r : Result) → MoreThan p b r → Moved a r
  more_moved true r h = more_is_least p b r h
  more_moved false r h = h

  moved_least : (a : Bool) (r : Result) → Moved a r → AtLeast p b r
  moved_least true r h = h
  moved_least false r h = more_is_least p b r h

  moves : (a : Bool) (X : ℕ → Result) → More X → Settles (Moved a) X
  moves a X e = settles_so (MoreThan p b) (Moved a) X (more_moved a) e

  moves_least : (a : Bool) (X : ℕ → Result) → Settles (Moved a) X → Least X
  moves_least a X e = settles_so (Moved a) (AtLeast p b) X (moved_least a) e

  turn_ends : (n : ℕ) (t : Turn) (standing : List Mark) (X : ℕ → Result) → More X → More (λ k. handle (X k) (turn_after p (at_index p k) n t standing))
  turn_ends n t standing X e =
      handle_settles p (MoreThan p b) b X _ e (λ v s w. yields_told n (turn_end t standing (Answer v)) s w) (λ g v s w. yields_told n (Go g v) s w) (λ l s w. settled (MoreThan p b) (Yields (Stop l) s) w)

  turn_begins : (a : Bool) (x : Search) (entry : Option Entry) (outside : Env) (standing : List Mark) (st : State) → Here st → Settles (Moved a) (λ k. turn_by p (at_index p k) a x entry outside standing st)
  turn_begins true x None outside standing st w = yields _ _ w
  turn_begins true x (Some entry) outside standing st w = yields _ _ w
  turn_begins false x None outside standing st w =
      stood_settles p (MoreThan p b) b standing st _ _ w w (λ st1 w1. turn_ends st.next (turn_for x None outside) standing _ (sent _ (Object x.exception) [] outside _ _ w1))
  turn_begins false x (Some entry) outside standing st w =
      stood_settles p (MoreThan p b) b standing st _ _ w w (λ st1 w1.
      turn_ends st.next (turn_for x (Some entry) outside) standing _ (handled_by (closure_for p st.store entry.handler 0) entry.handler x.exception outside _ _ w1))

  turned : (x : Search) (entry : Option Entry) (outside : Env) (standing : List Mark) (st : State) → Here st → Settles (Moved (asks_nested x)) (λ k. (at_index p k).use' (TurnBy x entry outside) standing st)
  turned x entry outside standing st w = use_settles p (Moved (asks_nested x)) _ standing st (turn_begins (asks_nested x) x entry outside standing st w)

  -- what the search in the rest of the environment comes to
  abbrev Searches : Search → Env → List Mark → Type 0
  Searches x rest standing = (st : State) → Here st → Settles (Moved (asks_nested x)) (λ k. (at_index p k).use' (SearchIn x rest) standing st)

  tried_on : (a : Bool) (x : Search) (entry : Entry) (rest : Env) (standing : List Mark) (st : State) → Here st → Searches x rest standing → Settles (Moved (asks_nested x)) (λ k. tried p (at_index p k) a x entry rest standing st)
  tried_on true x entry rest standing st w on = turned x (Some entry) rest standing _ w
  tried_on false x entry rest standing st w on = on _ w

  tried_later : (a : Bool) (x : Search) (entry : Entry) (rest : Env) (standing : List Mark) (st : State) → Later st → More (λ k. tried p (at_index p k) a x entry rest standing st)
  tried_later true x entry rest standing st w = later_more _ standing _ w
  tried_later false x entry rest standing st w = later_more _ standing _ w

  asked_handles : (x : Search) (entry : Entry) (rest : Env) (standing : List Mark) (st : State) → Here st → More (λ k. judged p (at_index p k) false x entry rest standing st)
  asked_handles x entry rest standing st w =
      stood_settles p (MoreThan p b) b standing st _ _ w w (λ st1 w1.
      handle_settles p (MoreThan p b) b _ _ (sent _ entry.selector _ rest _ _ w1) (λ v s w2. tried_later (is_true v) x entry rest standing _ w2) (λ g v s w2. yields_more (Go g v) _ w2) (λ l s w2. settled (MoreThan p b) (Yields (Stop l) s) w2))

  judged_on : (a : Bool) (x : Search) (entry : Entry) (rest : Env) (standing : List Mark) (st : State) → Here st → Searches x rest standing → Settles (Moved (asks_nested x)) (λ k. judged p (at_index p k) a x entry rest standing st)
  judged_on true x entry rest standing st w on = tried_on (fits p st.store entry.selector (object_at x.exception st.store).class) x entry rest standing st w on
  judged_on false x entry rest standing st w on = moves (asks_nested x) _ (asked_handles x entry rest standing st w)

  searched : (x : Search) (rest : Env) (standing : List Mark) → Searches x rest standing
  searched x [] standing st w = use_settles p (Moved (asks_nested x)) _ standing st (turned x None x.whole standing st w)
  searched x (entry ∷ rest) standing st w =
      use_settles p (Moved (asks_nested x)) _ standing st (judged_on (is_plain p st.store entry.selector) x entry rest standing st w (searched x rest standing))

  searched_least : (x : Search) (rest : Env) (standing : List Mark) (st : State) → Here st → Least (λ k. (at_index p k).use' (SearchIn x rest) standing st)
  searched_least x rest standing st w = moves_least (asks_nested x) _ (searched x rest standing st w)

  -- ---- signals

  signal_by_later : (n e : ℕ) (d : SignalVerdict) (env : Env) (standing : List Mark) (st : State) → Later st → More (λ k. signal_by p (at_index p k) n e d env standing st)
  signal_by_later n e (Ends o) env standing st w = yields_told n o st w
  signal_by_later n e (Signals f) env standing st w = later_more _ standing st w

  signal_ends : (n e : ℕ) (env : Env) (standing : List Mark) (X : ℕ → Result) → More X → More (λ k. handle (X k) (signal_after p (at_index p k) n e env standing))
  signal_ends n e env standing X h =
      handle_settles p (MoreThan p b) b X _ h (λ v s w. signal_by_later n e (Ends (Answer v)) env standing s w) (λ g v s w. signal_by_later n e (signal_end n (Go g v)) env standing s w) (λ l s w. settled (MoreThan p b) (Yields (Stop l) s) w)

  signal_point : (n e : ℕ) (env : Env) (standing : List Mark) (st : State) → Here st → More (λ k. (at_index p k).use' (SignalPoint n e env) standing st)
  signal_point n e env standing st w = use_settles p (MoreThan p b) _ standing st (signal_ends n e env standing _ (searched (signal_search n e env) env _ _ w))

  raised_new : (c : ℕ) (slots : List Value) (env : Env) (standing : List Mark) (st : State) → Here st → More (λ k. (at_index p k).use' (RaiseNew c slots env) standing st)
  raised_new c slots env standing st w =
      use_settles p (MoreThan p b) _ standing st (stood_settles p (MoreThan p b) b standing st _ _ w w (λ st1 w1.
      used_settles p (MoreThan p b) b (exception_cells p c) _ _ _ w1 w1 (λ st3 w3. signal_point st.next _ env standing _ w3)))

  raise_begins : (live : Bool) (e : ℕ) (env : Env) (standing : List Mark) (st : State) → Here st → More (λ k. raise p (at_index p k) live e env standing st)
  raise_begins true e env standing st w = raised_new _ _ env standing st w
  raise_begins false e env standing st w = stood_settles p (MoreThan p b) b standing st _ _ w w (λ st1 w1. signal_point st.next e env standing _ w1)

  raised : (e : ℕ) (env : Env) (standing : List Mark) (st : State) → Here st → More (λ k. (at_index p k).use' (Raise e env) standing st)
  raised e env standing st w = use_settles p (MoreThan p b) _ standing st (raise_begins (is_live e standing) e env standing st w)

  resignaled : (n e f : ℕ) (env : Env) (standing : List Mark) (st : State) → Here st → More (λ k. (at_index p k).use' (Resignaled n e f env) standing st)
  resignaled n e f env standing st w = use_settles p (MoreThan p b) _ standing st (signal_ends n e env standing _ (raised f env _ st w))

  failed : (trouble : Trouble) (env : Env) (standing : List Mark) (st : State) → Here st → More (λ k. (at_index p k).use' (fail p trouble env) standing st)
  failed trouble env standing st w = raised_new _ _ env standing st w

  -- ---- exception actions

  passed : (n e : ℕ) (t : Turn) (purpose : Purpose) (standing : List Mark) (st : State) → Here st → Least (λ k. pass p (at_index p k) n e t purpose standing st)
  passed n e t purpose standing st w = searched_least (turn_search n e t purpose) t.outside standing _ w

  asked_later : (a : Bool) (x : Wait) (n : ℕ) (t : Turn) (env : Env) (standing : List Mark) (st : State) → Later st → More (λ k. asked p (at_index p k) a x n t env standing st)
  asked_later true (ToResume v) n t env standing st w = yields_more _ st w
  asked_later false (ToResume v) n t env standing st w = later_more _ standing st w
  asked_later true ToOuter n t env standing st w =
      stood_settles p (MoreThan p b) (suc b) standing st _ _ w (less p b st w) (λ st1 w1.
      handle_settles p (MoreThan p b) b _ _ (later_more _ _ _ w1) (λ v s w2. yields_told st.next (Answer v) s w2) (λ g v s w2. yields_told st.next (outer_end st.next (Go g v)) s w2) (λ l s w2. settled (MoreThan p b) (Yields (Stop l) s) w2))
  asked_later false ToOuter n t env standing st w = later_more _ standing _ w

  asks : (x : Wait) (n : ℕ) (t : Turn) (env : Env) (standing : List Mark) (st : State) → Here st → More (λ k. (at_index p k).use' (Ask x n t env) standing st)
  asks x n t env standing st w =
      use_settles p (MoreThan p b) _ standing st (stood_settles p (MoreThan p b) b standing st _ _ w w (λ st1 w1.
      handle_settles p (MoreThan p b) b _ _ (sent _ (Object t.exception) [] env _ st1 w1) (λ v s w2. asked_later (is_true v) x n t env standing s w2) (λ g v s w2. yields_more (Go g v) s w2) (λ l s w2. settled (MoreThan p b) (Yields (Stop l) s) w2)))

  fails : (trouble : Trouble) (env : Env) (standing : List Mark) (st : State) → Here st → Least (λ k. (at_index p k).use' (fail p trouble env) standing st)
  fails trouble env standing st w = least _ (failed trouble env standing st w)

  resignals : (a live : Bool) (t : Turn) (f : ℕ) (v : Value) (env : Env) (standing : List Mark) (st : State) → Here st → Least (λ k. resignal p (at_index p k) a live t f v env standing st)
  resignals false live t f v env standing st w = fails ExceptionExpected env standing st w
  resignals true true t f v env standing st w = fails AlreadySignaled env standing st w
  resignals true false t f v env standing st w = yields _ st w

  resignals_as : (t : Turn) (v : Value) (env : Env) (standing : List Mark) (st : State) → Here st → Least (λ k. resignal_as p (at_index p k) t v env standing st)
  resignals_as t (Object f) env standing st w = resignals (is_exception p st.store (Object f)) (is_live f standing) t f (Object f) env standing st w
  resignals_as t v env standing st w = fails ExceptionExpected env standing st w

  controls_by : (c : Control) (v : Value) (n : ℕ) (t : Turn) (entry : Entry) (env : Env) (standing : List Mark) (st : State) → Here st → Least (λ k. control_by p (at_index p k) c v n t entry env standing st)
  controls_by Control.Return v n t entry env standing st w = yields _ st w
  controls_by Control.Retry v n t entry env standing st w = yields _ st w
  controls_by Control.RetryUsing v n t entry env standing st w = yields _ st w
  controls_by Control.Resume v n t entry env standing st w = least _ (asks (ToResume v) n t env standing st w)
  controls_by Control.Pass v n t entry env standing st w = passed n t.exception t (ForPass t) standing st w
  controls_by Control.Outer v n t entry env standing st w = least _ (asks ToOuter n t env standing st w)
  controls_by Control.ResignalAs v n t entry env standing st w = resignals_as t v env standing st w
  controls_by Control.IsNested v n t entry env standing st w = passed n t.exception t ForNested standing st w

  controls_without : (c : Control) (v : Value) (n : ℕ) (t : Turn) (env : Env) (standing : List Mark) (st : State) → Here st → Least (λ k. control_without p (at_index p k) c v n t env standing st)
  controls_without Control.Resume v n t env standing st w = least _ (asks (ToResume v) n t env standing st w)
  controls_without c v n t env standing st w = fails NotActive env standing st w

  controls_in : (entry : Option Entry) (c : Control) (v : Value) (n : ℕ) (t : Turn) (env : Env) (standing : List Mark) (st : State) → Here st → Least (λ k. control_in p (at_index p k) entry c v n t env standing st)
  controls_in (Some entry) c v n t env standing st w = controls_by c v n t entry env standing st w
  controls_in None c v n t env standing st w = controls_without c v n t env standing st w

  controls : (f : FoundTurn) (c : Control) (v : Value) (env : Env) (standing : List Mark) (st : State) → Here st → Least (λ k. control p (at_index p k) f c v env standing st)
  controls NoTurn c v env standing st w = fails NotActive env standing st w
  controls (TurnAt n t) c v env standing st w = controls_in t.entry c v n t env standing st w

  -- ---- protection

  protect_later : (d : Verdict) (entry : Entry) (env : Env) (standing : List Mark) (st : State) → Later st → More (λ k. protect_by p (at_index p k) d entry env standing st)
  protect_later (Leaves o) entry env standing st w = yields_told entry.number o st w
  protect_later (Again receiver) entry env standing st w = later_more _ standing _ w

  protected : (receiver : Value) (entry : Entry) (env : Env) (standing : List Mark) (st : State) → Here st → More (λ k. (at_index p k).use' (Protect receiver entry env) standing st)
  protected receiver entry env standing st w =
      use_settles p (MoreThan p b) _ standing st (handle_settles p (MoreThan p b) b _ _ (applied receiver [] (entry ∷ env) _ st w) (λ v s w1. protect_later (Leaves (Answer v)) entry env standing s w1) (λ g v s w1. protect_later (protect_end entry.number receiver (Go g v)) entry env standing s w1) (λ l s w1. settled (MoreThan p b) (Yields (Stop l) s) w1))

  finished : (n : ℕ) (block : Value) (held : Outcome) (env : Env) (standing : List Mark) (st : State) → Here st → More (λ k. (at_index p k).use' (Finish n block held env) standing st)
  finished n block held env standing st w =
      use_settles p (MoreThan p b) _ standing st (handle_settles p (MoreThan p b) b _ _ (applied block [] env _ st w) (λ v s w1. yields_told n held s w1) (λ g v s w1. yields_told n (Go g v) s w1) (λ l s w1. settled (MoreThan p b) (Yields (Stop l) s) w1))

  ensured : (n : ℕ) (block : Value) (env : Env) (standing : List Mark) (X : ℕ → Result) → More X → More (λ k. handle (X k) (ensure_after p (at_index p k) n block env standing))
  ensured n block env standing X e =
      handle_settles p (MoreThan p b) b X _ e (λ v s w. later_more _ standing _ w) (λ g v s w. later_more _ standing _ w) (λ l s w. settled (MoreThan p b) (Yields (Stop l) s) w)

  curtailed : (n : ℕ) (block : Value) (env : Env) (standing : List Mark) (X : ℕ → Result) → More X → More (λ k. handle (X k) (curtail_after p (at_index p k) n block env standing))
  curtailed n block env standing X e =
      handle_settles p (MoreThan p b) b X _ e (λ v s w. yields_told n (Answer v) s w) (λ g v s w. later_more _ standing _ w) (λ l s w. settled (MoreThan p b) (Yields (Stop l) s) w)

  -- ---- loops

  visit_ends : (n : ℕ) (l : LoopState) (env : Env) (standing : List Mark) (X : ℕ → Result) → More X → Least (λ k. handle (X k) (visit_after p (at_index p k) n l env standing))
  visit_ends n l env standing X e =
      least _ (handle_settles p (MoreThan p b) b X _ e (λ v s w. later_more _ standing s w) (λ g v s w. yields_more (Go g v) s w) (λ x s w. settled (MoreThan p b) (Yields (Stop x) s) w))

  visit_begins : (n : ℕ) (v : Visit) (env : Env) (standing : List Mark) (st : State) → Here st → Least (λ k. visit p (at_index p k) n v env standing st)
  visit_begins n (Applies l v args) env standing st w = visit_ends n l env standing _ (applied v args env _ st w)
  visit_begins n (Compares l r v) env standing st w = visit_ends n l env standing _ (sent _ r (v ∷ []) env _ st w)
  visit_begins n (Finishes v) env standing st w = yields _ st w
  visit_begins n (Lacks l) env standing st w = visit_ends n l env standing _ (failed NotFound env _ st w)
  visit_begins n (Charges cells s v) env standing st w = used_settles p (AtLeast p b) b cells st _ _ w w (λ st1 w1. visit_begins n v env standing _ w1)

  visited : (n : ℕ) (v : Visit) (env : Env) (standing : List Mark) (st : State) → Here st → Least (λ k. (at_index p k).use' (VisitBy n v env) standing st)
  visited n v env standing st w = use_settles p (AtLeast p b) _ standing st (visit_begins n v env standing st w)

  -- ---- expressions, by recursion on them

  written : (f : Frame) (st : State) (place : Place) (v : Value) → Here st → Here (write_place p f st place v)
  unfolding write_place
  written f st (Scoped up index) v w = w
  written f st (Slot index) v w = w
  written f st (ClassSlot index) v w = w
  written f st (Shared index) v w = w

  module _ (f : Frame) (env : Env) (standing : List Mark) where
    left : (o : Outcome) (st : State) → Here st → Least (λ k. Yields (left_end f o) st)
    left o st w = yields (left_end f o) st w

    leaves : (c : Kind) (d : Bool) (v : Value) (st : State) → Here st → Least (λ k. leave p (at_index p k) f env standing c d v st)
    leaves InMethod d v st w = yields _ st w
    leaves InInitializer d v st w = yields _ st w
    leaves InBlock true v st w = yields _ st w
    leaves InBlock false v st w = outcome_settles p b _ _ (fails HomeHasReturned env standing st w) left

    mutual
      expressed : (t : Tree) (st : State) → Here st → Least (λ k. eval p (at_index p k) f env standing t st)
      expressed (Constant v) st w = yields _ st w
      expressed Self st w = yields _ st w
      expressed (Variable place) st w = yields _ st w
      expressed (Assign place t) st w = value_settles p b _ _ (tree_settles p (AtLeast p b) t f env standing st (expressed t st w)) (λ v st1 w1. yields _ _ (written f st1 place v w1))
      expressed (Block code) st w = used_settles p (AtLeast p b) b 2 st _ _ w w (λ st1 w1. yields _ _ w1)
      expressed (Send selector t args) st w =
          value_settles p b _ _ (tree_settles p (AtLeast p b) t f env standing st (expressed t st w)) (λ r st1 w1. arguments args [] _ st1 w1 (λ ws st2 w2. least _ (sent selector r (onto ws []) env standing st2 w2)))
      expressed (SuperSend selector args) st w = arguments args [] _ st w (λ ws st1 w1. least _ (super_sent f.class selector f.self (onto ws []) env standing st1 w1))
      expressed (Cascade t messages) st w =
          value_settles p b _ _ (tree_settles p (AtLeast p b) t f env standing st (expressed t st w)) (λ r st1 w1. cascaded _ (λ selector r' ws st2 w2. sent selector r' ws env standing st2 w2) messages r r st1 w1)
      expressed (SuperCascade messages) st w = cascaded _ (λ selector r' ws st2 w2. super_sent f.class selector r' ws env standing st2 w2) messages f.self f.self st w

      arguments : (row : Trees) (vs : List Value) (K : ℕ → List Value → State → Result) (st : State) → Here st → ((ws : List Value) (st1 : State) → Here st1 → Least (λ k. K k ws st1)) → Least (λ k. eval_args p (at_index p k) f env standing row vs (K k) st)
      arguments no_trees vs K st w h = h vs st w
      arguments (more_trees t row) vs K st w h = value_settles p b _ _ (tree_settles p (AtLeast p b) t f env standing st (expressed t st w)) (λ v st1 w1. arguments row (v ∷ vs) K st1 w1 h)

      cascaded : (to : ℕ → Value → List Value → Use) → ((selector : ℕ) (r : Value) (ws : List Value) (st : State) → Here st → More (λ k. (at_index p k).use' (to selector r ws) standing st)) → (row : Messages) (r v : Value) (st : State) → Here st → Least (λ k. eval_messages p (at_index p k) f env standing to row r v st)
      cascaded to h no_messages r v st w = yields _ st w
      cascaded to h (more_messages selector args row) r v st w =
          arguments args [] _ st w (λ ws st1 w1. value_settles p b _ _ (least _ (h selector r (onto ws []) st1 w1)) (λ x st2 w2. cascaded to h row r x st2 w2))

    evaluated : (t : Tree) (st : State) → Here st → Least (λ k. (at_index p k).tree t f env standing st)
    evaluated t st w = tree_settles p (AtLeast p b) t f env standing st (expressed t st w)

    statements : (row : List Statement) (v : Value) (st : State) → Here st → Least (λ k. eval_body p (at_index p k) f env standing row v st)
    statements [] v st w = yields _ st w
    statements (Plain t ∷ row) v st w = value_settles p b _ _ (evaluated t st w) (λ x st1 w1. statements row x st1 w1)
    statements (Return t ∷ row) v st w = value_settles p b _ _ (evaluated t st w) (λ x st1 w1. leaves f.kind (stands f.home standing) x st1 w1)

  body_run : (f : Frame) (env : Env) (standing : List Mark) (st : State) → Here st → Least (λ k. (at_index p k).use' (RunBody f env) standing st)
  body_run f env standing st w =
      use_settles p (AtLeast p b) _ standing st (outcome_settles p b _ _ (statements f env (BodyMark f.own ∷ standing) (body_at p f.code).statements Nil st w) (λ o s w1. yields (body_end f o) s w1))

  pub opened_here : (x : Opening) (standing : List Mark) (st : State) → Here st → Least (λ k. opened p (at_index p k) x standing st)
  opened_here x standing st w =
      stood_settles p (AtLeast p b) b standing st _ _ w w (λ st1 w1.
      used_settles p (AtLeast p b) b (scope_cells (body_at p x.code)) st1 _ _ w1 w1 (λ st2 w2. body_run _ x.env standing _ w2))

  -- ---- what a message does at once

  entered : (code : ℕ) (r : Value) (args : List Value) (env : Env) (standing : List Mark) (st : State) → Here st → Least (λ k. (at_index p k).use' (Enter code r args env) standing st)
  entered code r args env standing st w = use_settles p (AtLeast p b) _ standing st (opened_here (method_opening p code r args env st.next) standing st w)

  performs : (a : Action) (env : Env) (standing : List Mark) (st : State) → Here st → Least (λ k. perform p (at_index p k) a env standing st)
  performs (Gives v) env standing st w = yields _ _ w
  performs (Changes s v) env standing st w = yields _ _ w
  performs (Makes cells s v) env standing st w = used_settles p (AtLeast p b) b cells st _ _ w w (λ st1 w1. yields _ _ w1)
  performs (Writes text v) env standing st w = yields _ _ w
  performs (Fails trouble) env standing st w = fails trouble env standing st w
  performs (DividesByZero dividend) env standing st w = least _ (raised_new _ _ env standing st w)
  performs PassesIntegers env standing st w = yields _ st w
  performs (Begins v args) env standing st w = least _ (applied v args env standing st w)
  performs (Activates c args) env standing st w = least _ (activated c args env standing st w)
  performs (Sends selector r args) env standing st w = least _ (sent selector r args env standing st w)
  performs (Misses selector r args) env standing st w =
      used_settles p (AtLeast p b) b (1 + length args) st _ _ w w (λ st1 w1.
      used_settles p (AtLeast p b) b 3 _ _ _ w1 w1 (λ st3 w3. least _ (sent _ r _ env standing _ w3)))
  performs (Enters code r args) env standing st w = entered code r args env standing st w
  performs (Guards receiver selector handler) env standing st w =
      stood_settles p (AtLeast p b) b standing st _ _ w w (λ st1 w1. least _ (protected receiver _ env standing _ w1))
  performs (Ensures receiver block) env standing st w =
      stood_settles p (AtLeast p b) b standing st _ _ w w (λ st1 w1. least _ (ensured st.next block env standing _ (applied receiver [] env _ _ w1)))
  performs (Curtails receiver block) env standing st w =
      stood_settles p (AtLeast p b) b standing st _ _ w w (λ st1 w1. least _ (curtailed st.next block env standing _ (applied receiver [] env _ _ w1)))
  performs (Iterates l) env standing st w =
      stood_settles p (AtLeast p b) b standing st _ _ w w (λ st1 w1. visited st.next (first_visit p st1.store l) env standing st1 w1)
  performs (Raises s e) env standing st w = least _ (raised e env standing _ w)
  performs (RaisesNew class slots) env standing st w = least _ (raised_new class slots env standing st w)
  performs (Controls c e v) env standing st w = controls (turn_of e standing) c v env standing st w
  performs (Terminates v) env standing st w = yields _ st w

  all_answered : (u : Use) (standing : List Mark) (st : State) → Here st → Least (λ k. (at_index p k).use' u standing st)
  all_answered (Apply v args env) standing st w = least _ (applied v args env standing st w)
  all_answered (Activate c args env) standing st w = least _ (activated c args env standing st w)
  all_answered (Enter code r args env) standing st w = entered code r args env standing st w
  all_answered (SendTo selector r args env) standing st w = least _ (sent selector r args env standing st w)
  all_answered (SuperTo c selector r args env) standing st w = least _ (super_sent c selector r args env standing st w)
  all_answered (Perform a env) standing st w = use_settles p (AtLeast p b) _ standing st (performs a env standing st w)
  all_answered (Raise e env) standing st w = least _ (raised e env standing st w)
  all_answered (RaiseNew c slots env) standing st w = least _ (raised_new c slots env standing st w)
  all_answered (SignalPoint n e env) standing st w = least _ (signal_point n e env standing st w)
  all_answered (Resignaled n e f env) standing st w = least _ (resignaled n e f env standing st w)
  all_answered (SearchIn x rest) standing st w = searched_least x rest standing st w
  all_answered (TurnBy x entry outside) standing st w = moves_least (asks_nested x) _ (turned x entry outside standing st w)
  all_answered (Ask x n t env) standing st w = least _ (asks x n t env standing st w)
  all_answered (Protect receiver entry env) standing st w = least _ (protected receiver entry env standing st w)
  all_answered (Finish n block held env) standing st w = least _ (finished n block held env standing st w)
  all_answered (VisitBy n v env) standing st w = visited n v env standing st w
  all_answered (RunBody f env) standing st w = body_run f env standing st w

-- by the steps that are left
pub answered : (p : Program) (d b : ℕ) → p.step_limit < b + d → Answered p b
answered p zero b lt = record { by = λ u standing st w. absurd (omega (arith, w.0, w.1)) }
answered p (suc d) b lt = record { by = λ u standing st w. all_answered p b (answered p d (suc b) (omega arith)) u standing st w }
