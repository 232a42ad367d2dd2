-- The Transcript only grows: whatever a use of a rule comes to, its Transcript begins with the one before.
use Rattle.std.proofs.Common.{ℕ, zero, suc, ◌+◌, max, length, List, [], ◌∷◌, ◌++◌, append_assoc, append-nil, Option, Some, None, Bool, true, false, sym, ap, ◌∙◌, nat_lt, nat_le, if◌then◌else◌}
use Rattle.object_heap.specs.declared.value.Value.{Value}
use Rattle.object_heap.specs.declared.value.Value.TheVariants.{Nil, Object}
use Rattle.object_heap.specs.Store.{object_at}
use Rattle.st_code.specs.Texts.{Text}
use Rattle.st_code.specs.Program.{Tree, Constant, Self, Variable, Assign, Block, Send, SuperSend, Cascade, SuperCascade, Trees, no_trees, more_trees, Messages, no_messages, more_messages, Statement, Plain, Return, Kind, InMethod, InBlock, InInitializer, Program, body_at, Initializer, Place, Scoped, Slot, ClassSlot, Shared}
use Rattle.st_code.specs.Messages.{Control}
use Rattle.st_code.specs.Lookup.{is_plain, fits, is_exception}
use Rattle.st_collections.specs.Actions.{Action, Gives, Changes, Makes, Writes, Fails, DividesByZero, PassesIntegers, Begins as BeginsWith, Activates, Sends, Misses, Enters, Guards, Ensures, Curtails, Iterates, Raises, RaisesNew, Controls, Terminates, LoopState, Visit, Applies, Compares, Finishes, Lacks, Charges}
use Rattle.st_collections.specs.Kinds.{is_true}
use Rattle.st_rules.specs.State.{State, Entry, Env, Outcome, Answer, Go, Stop, Turn, Mark, BodyMark, Frame, step_made, stood, used, scope_cells, stands, is_live, FoundTurn, NoTurn, TurnAt, turn_of}
use Rattle.st_rules.specs.Ends.{Result, Yields, NoIndex, charged, handle, then_value, ended, write_place, Opening, initializer_opening, SignalVerdict, Ends, Signals, signal_end, Verdict, Leaves, Again, protect_end, action_end, turn_end, outer_end, Search, turn_for, asks_nested, Wait, ToResume, ToOuter}
use Rattle.st_rules.specs.Rules.{Use, Apply, Activate, Enter, SendTo, SuperTo, Perform, Raise, RaiseNew, SignalPoint, Resignaled, SearchIn, TurnBy, Ask, Protect, Finish, VisitBy, RunBody, Next, opened, signal_by, raise, raise_new, tried, handles_after, judged, search, turn_by, turn_after, outer_after, asked, wait_after, resignal, resignal_as, control_by, control_without, control_in, control, protect_by, ensure_after, curtail_after, visit_after, visit, perform, leave, eval_args, eval_messages, eval, eval_body, rule, at_index, exception_cells}
use Rattle.st_rules.specs.Runs.{run_from, kept_value}
use Rattle.st_rules.specs.StepLimits.{Begins}

pub begins_itself : (a : Text) → Begins a a
begins_itself a = record { rest = []; whole = sym (append-nil a) }

pub begins_more : (a b c : Text) → Begins a b → Begins a (b ++ c)
begins_more a b c x = record { rest = x.rest ++ c; whole = ap (λ d. d ++ c) x.whole ∙ append_assoc a x.rest c }

-- the outcome's Transcript begins with this text
abbrev pub From : Text → Result → Type 0
From t (Yields o st) = Begins t st.transcript
From t NoIndex = Unit {0}

-- the state's Transcript begins with it
abbrev pub Since : Text → State → Type 0
Since t st = Begins t st.transcript

pub handle_from : (t : Text) (x : Result) (k : Outcome → State → Result) → From t x → ((o : Outcome) (st : State) → Since t st → From t (k o st)) → From t (handle x k)
handle_from t (Yields o st) k h on = on o st h
handle_from t NoIndex k h on = tt

pub value_from : (t : Text) (x : Result) (k : Value → State → Result) → From t x → ((v : Value) (st : State) → Since t st → From t (k v st)) → From t (then_value x k)
value_from t (Yields (Answer v) st) k h on = on v st h
value_from t (Yields (Go g v) st) k h on = h
value_from t (Yields (Stop l) st) k h on = h
value_from t NoIndex k h on = tt

told_since : (t : Text) (n : ℕ) (o : Outcome) (st : State) → Since t st → Since t (ended n o st)
told_since t n (Answer v) st h = h
told_since t n (Go g v) st h = h
told_since t n (Stop l) st h = h

pub kept_since : (t : Text) (target : Option ℕ) (v : Value) (st : State) → Since t st → Since t (kept_value target v st)
kept_since t None v st h = h
kept_since t (Some place) v st h = h

module _ (p : Program) where
  pub step_from : (t : Text) (st : State) (r : Result) (k : State → Result) → Since t st → From t r → ((st1 : State) → Since t st1 → From t (k st1)) → From t (charged (step_made p st) r k)
  unfolding step_made
  step_from t st r k h stop on = go (nat_lt st.steps p.step_limit)
    where
      go : (c : Bool) → From t (charged (if c then Some (record st { steps = st.steps + 1 }) else None) r k)
      go true = on _ h
      go false = stop

  stood_from : (t : Text) (standing : List Mark) (st : State) (r : Result) (k : State → Result) → Since t st → From t r → ((st1 : State) → Since t st1 → From t (k st1)) → From t (charged (stood p standing st) r k)
  unfolding stood
  stood_from t standing st r k h stop on = go (nat_le (length standing + 1) p.depth_limit)
    where
      go : (c : Bool) → From t (charged (if c then Some (record st { depth = max st.depth (length standing + 1); next = st.next + 1 }) else None) r k)
      go true = on _ h
      go false = stop

  used_from : (t : Text) (n : ℕ) (st : State) (r : Result) (k : State → Result) → Since t st → From t r → ((st1 : State) → Since t st1 → From t (k st1)) → From t (charged (used p n st) r k)
  unfolding used
  used_from t n st r k h stop on = go (nat_le (st.cells + n) p.cell_limit)
    where
      go : (c : Bool) → From t (charged (if c then Some (record st { cells = st.cells + n }) else None) r k)
      go true = on _ h
      go false = stop

  pub written_since : (t : Text) (f : Frame) (st : State) (place : Place) (v : Value) → Since t st → Since t (write_place p f st place v)
  unfolding write_place
  written_since t f st (Scoped up index) v h = h
  written_since t f st (Slot index) v h = h
  written_since t f st (ClassSlot index) v h = h
  written_since t f st (Shared index) v h = h

-- what is used at the smaller index only lets the Transcript grow
pub record Grows (n : Next) : Type 0 where
  pub use' : (t : Text) (u : Use) (standing : List Mark) (st : State) → Since t st → From t (n.use' u standing st)
  pub tree : (t : Text) (e : Tree) (f : Frame) (env : Env) (standing : List Mark) (st : State) → Since t st → From t (n.tree e f env standing st)

module _ (p : Program) (n : Next) (grows : Grows n) (t : Text) where
  pub opened_from : (x : Opening) (standing : List Mark) (st : State) → Since t st → From t (opened p n x standing st)
  opened_from x standing st h = stood_from p t standing st _ _ h h (λ st1 h1. used_from p t (scope_cells (body_at p x.code)) st1 _ _ h1 h1 (λ st2 h2. grows.use' t _ standing _ h2))

  pub signal_by_from : (i e : ℕ) (d : SignalVerdict) (env : Env) (standing : List Mark) (st : State) → Since t st → From t (signal_by p n i e d env standing st)
  signal_by_from i e (Ends o) env standing st h = told_since t i o st h
  signal_by_from i e (Signals f) env standing st h = grows.use' t _ standing st h

  raise_from : (live : Bool) (e : ℕ) (env : Env) (standing : List Mark) (st : State) → Since t st → From t (raise p n live e env standing st)
  raise_from true e env standing st h = grows.use' t _ standing st h
  raise_from false e env standing st h = stood_from p t standing st _ _ h h (λ st1 h1. grows.use' t _ standing _ h1)

  raise_new_from : (c : ℕ) (slots : List Value) (env : Env) (standing : List Mark) (st : State) → Since t st → From t (raise_new p n c slots env standing st)
  raise_new_from c slots env standing st h = stood_from p t standing st _ _ h h (λ st1 h1. used_from p t (exception_cells p c) _ _ _ h1 h1 (λ st3 h3. grows.use' t _ standing _ h3))

  tried_from : (a : Bool) (x : Search) (entry : Entry) (rest : Env) (standing : List Mark) (st : State) → Since t st → From t (tried p n a x entry rest standing st)
  tried_from true x entry rest standing st h = grows.use' t _ standing _ h
  tried_from false x entry rest standing st h = grows.use' t _ standing _ h

  pub handles_from : (i : ℕ) (x : Search) (entry : Entry) (rest : Env) (standing : List Mark) (o : Outcome) (st : State) → Since t st → From t (handles_after p n i x entry rest standing o st)
  handles_from i x entry rest standing (Answer v) st h = tried_from (is_true v) x entry rest standing _ h
  handles_from i x entry rest standing (Go g v) st h = h
  handles_from i x entry rest standing (Stop l) st h = h

  judged_from : (a : Bool) (x : Search) (entry : Entry) (rest : Env) (standing : List Mark) (st : State) → Since t st → From t (judged p n a x entry rest standing st)
  judged_from true x entry rest standing st h = tried_from (fits p st.store entry.selector (object_at x.exception st.store).class) x entry rest standing st h
  judged_from false x entry rest standing st h = stood_from p t standing st _ _ h h (λ st1 h1. handle_from t _ _ (grows.use' t _ _ _ h1) (λ o s h2. handles_from st.next x entry rest standing o s h2))

  search_from : (x : Search) (rest : Env) (standing : List Mark) (st : State) → Since t st → From t (search p n x rest standing st)
  search_from x [] standing st h = grows.use' t _ standing st h
  search_from x (entry ∷ rest) standing st h = judged_from (is_plain p st.store entry.selector) x entry rest standing st h

  pub turn_end_from : (i : ℕ) (x : Turn) (standing : List Mark) (o : Outcome) (st : State) → Since t st → From t (turn_after p n i x standing o st)
  turn_end_from i x standing o st h = told_since t i (turn_end x standing o) st h

  turn_from : (a : Bool) (x : Search) (entry : Option Entry) (outside : Env) (standing : List Mark) (st : State) → Since t st → From t (turn_by p n a x entry outside standing st)
  turn_from true x None outside standing st h = h
  turn_from true x (Some entry) outside standing st h = h
  turn_from false x None outside standing st h = stood_from p t standing st _ _ h h (λ st1 h1. handle_from t _ _ (grows.use' t _ _ _ h1) (λ o s h2. turn_end_from st.next (turn_for x None outside) standing o s h2))
  turn_from false x (Some entry) outside standing st h = stood_from p t standing st _ _ h h (λ st1 h1. handle_from t _ _ (grows.use' t _ _ _ h1) (λ o s h2. turn_end_from st.next (turn_for x (Some entry) outside) standing o s h2))

  pub outer_end_from : (i : ℕ) (standing : List Mark) (o : Outcome) (st : State) → Since t st → From t (outer_after p n i standing o st)
  outer_end_from i standing o st h = told_since t i (outer_end i o) st h

  asked_from : (a : Bool) (w : Wait) (k : ℕ) (x : Turn) (env : Env) (standing : List Mark) (st : State) → Since t st → From t (asked p n a w k x env standing st)
  asked_from true (ToResume v) k x env standing st h = h
  asked_from false (ToResume v) k x env standing st h = grows.use' t _ standing _ h
  asked_from true ToOuter k x env standing st h = stood_from p t standing st _ _ h h (λ st1 h1. handle_from t _ _ (grows.use' t _ _ _ h1) (λ o s h2. outer_end_from st.next standing o s h2))
  asked_from false ToOuter k x env standing st h = grows.use' t _ standing _ h

  pub wait_from : (w : Wait) (k : ℕ) (x : Turn) (env : Env) (standing : List Mark) (o : Outcome) (st : State) → Since t st → From t (wait_after p n w k x env standing o st)
  wait_from w k x env standing (Answer v) st h = asked_from (is_true v) w k x env standing st h
  wait_from w k x env standing (Go g v) st h = h
  wait_from w k x env standing (Stop l) st h = h

  resignal_from : (a b : Bool) (x : Turn) (f : ℕ) (v : Value) (env : Env) (standing : List Mark) (st : State) → Since t st → From t (resignal p n a b x f v env standing st)
  resignal_from false b x f v env standing st h = grows.use' t _ standing st h
  resignal_from true true x f v env standing st h = grows.use' t _ standing st h
  resignal_from true false x f v env standing st h = h

  resignal_as_from : (x : Turn) (v : Value) (env : Env) (standing : List Mark) (st : State) → Since t st → From t (resignal_as p n x v env standing st)
  resignal_as_from x (Object f) env standing st h = resignal_from (is_exception p st.store (Object f)) (is_live f standing) x f (Object f) env standing st h
  resignal_as_from x v env standing st h = grows.use' t _ standing st h

  control_by_from : (c : Control) (v : Value) (k : ℕ) (x : Turn) (entry : Entry) (env : Env) (standing : List Mark) (st : State) → Since t st → From t (control_by p n c v k x entry env standing st)
  control_by_from Control.Return v k x entry env standing st h = h
  control_by_from Control.Retry v k x entry env standing st h = h
  control_by_from Control.RetryUsing v k x entry env standing st h = h
  control_by_from Control.Resume v k x entry env standing st h = grows.use' t _ standing st h
  control_by_from Control.Pass v k x entry env standing st h = grows.use' t _ standing _ h
  control_by_from Control.Outer v k x entry env standing st h = grows.use' t _ standing st h
  control_by_from Control.ResignalAs v k x entry env standing st h = resignal_as_from x v env standing st h
  control_by_from Control.IsNested v k x entry env standing st h = grows.use' t _ standing _ h

  control_without_from : (c : Control) (v : Value) (k : ℕ) (x : Turn) (env : Env) (standing : List Mark) (st : State) → Since t st → From t (control_without p n c v k x env standing st)
  control_without_from Control.Resume v k x env standing st h = grows.use' t _ standing st h
  control_without_from c v k x env standing st h = grows.use' t _ standing st h

  control_in_from : (entry : Option Entry) (c : Control) (v : Value) (k : ℕ) (x : Turn) (env : Env) (standing : List Mark) (st : State) → Since t st → From t (control_in p n entry c v k x env standing st)
  control_in_from (Some entry) c v k x env standing st h = control_by_from c v k x entry env standing st h
  control_in_from None c v k x env standing st h = control_without_from c v k x env standing st h

  control_from : (f : FoundTurn) (c : Control) (v : Value) (env : Env) (standing : List Mark) (st : State) → Since t st → From t (control p n f c v env standing st)
  control_from NoTurn c v env standing st h = grows.use' t _ standing st h
  control_from (TurnAt k x) c v env standing st h = control_in_from x.entry c v k x env standing st h

  pub protect_from : (d : Verdict) (entry : Entry) (env : Env) (standing : List Mark) (st : State) → Since t st → From t (protect_by p n d entry env standing st)
  protect_from (Leaves o) entry env standing st h = told_since t entry.number o st h
  protect_from (Again receiver) entry env standing st h = grows.use' t _ standing _ h

  pub action_end_from : (i : ℕ) (held o : Outcome) (st : State) → Since t st → From t (Yields (action_end held o) (ended i (action_end held o) st))
  action_end_from i held o st h = told_since t i (action_end held o) st h

  pub ensure_from : (i : ℕ) (block : Value) (env : Env) (standing : List Mark) (o : Outcome) (st : State) → Since t st → From t (ensure_after p n i block env standing o st)
  ensure_from i block env standing (Answer v) st h = grows.use' t _ standing _ h
  ensure_from i block env standing (Go g v) st h = grows.use' t _ standing _ h
  ensure_from i block env standing (Stop l) st h = h

  pub curtail_from : (i : ℕ) (block : Value) (env : Env) (standing : List Mark) (o : Outcome) (st : State) → Since t st → From t (curtail_after p n i block env standing o st)
  curtail_from i block env standing (Answer v) st h = h
  curtail_from i block env standing (Go g v) st h = grows.use' t _ standing _ h
  curtail_from i block env standing (Stop l) st h = h

  pub visit_after_from : (i : ℕ) (l : LoopState) (env : Env) (standing : List Mark) (o : Outcome) (st : State) → Since t st → From t (visit_after p n i l env standing o st)
  visit_after_from i l env standing (Answer v) st h = grows.use' t _ standing st h
  visit_after_from i l env standing (Go g v) st h = h
  visit_after_from i l env standing (Stop x) st h = h

  visit_from : (i : ℕ) (v : Visit) (env : Env) (standing : List Mark) (st : State) → Since t st → From t (visit p n i v env standing st)
  visit_from i (Applies l v args) env standing st h = handle_from t _ _ (grows.use' t _ _ st h) (λ o s h1. visit_after_from i l env standing o s h1)
  visit_from i (Compares l r v) env standing st h = handle_from t _ _ (grows.use' t _ _ st h) (λ o s h1. visit_after_from i l env standing o s h1)
  visit_from i (Finishes v) env standing st h = h
  visit_from i (Lacks l) env standing st h = handle_from t _ _ (grows.use' t _ _ st h) (λ o s h1. visit_after_from i l env standing o s h1)
  visit_from i (Charges cells s v) env standing st h = used_from p t cells st _ _ h h (λ st1 h1. visit_from i v env standing _ h1)

  perform_from : (a : Action) (env : Env) (standing : List Mark) (st : State) → Since t st → From t (perform p n a env standing st)
  perform_from (Gives v) env standing st h = h
  perform_from (Changes s v) env standing st h = h
  perform_from (Makes cells s v) env standing st h = used_from p t cells st _ _ h h (λ st1 h1. h1)
  perform_from (Writes text v) env standing st h = begins_more t st.transcript text h
  perform_from (Fails trouble) env standing st h = grows.use' t _ standing st h
  perform_from (DividesByZero dividend) env standing st h = grows.use' t _ standing st h
  perform_from PassesIntegers env standing st h = h
  perform_from (BeginsWith v args) env standing st h = grows.use' t _ standing st h
  perform_from (Activates c args) env standing st h = grows.use' t _ standing st h
  perform_from (Sends selector r args) env standing st h = grows.use' t _ standing st h
  perform_from (Misses selector r args) env standing st h =
      used_from p t (1 + length args) st _ _ h h (λ st1 h1. used_from p t 3 _ _ _ h1 h1 (λ st3 h3. grows.use' t _ standing _ h3))
  perform_from (Enters code r args) env standing st h = grows.use' t _ standing st h
  perform_from (Guards receiver selector handler) env standing st h = stood_from p t standing st _ _ h h (λ st1 h1. grows.use' t _ standing _ h1)
  perform_from (Ensures receiver block) env standing st h = stood_from p t standing st _ _ h h (λ st1 h1. handle_from t _ _ (grows.use' t _ _ _ h1) (λ o s h2. ensure_from st.next block env standing o s h2))
  perform_from (Curtails receiver block) env standing st h = stood_from p t standing st _ _ h h (λ st1 h1. handle_from t _ _ (grows.use' t _ _ _ h1) (λ o s h2. curtail_from st.next block env standing o s h2))
  perform_from (Iterates l) env standing st h = stood_from p t standing st _ _ h h (λ st1 h1. grows.use' t _ standing st1 h1)
  perform_from (Raises s e) env standing st h = grows.use' t _ standing _ h
  perform_from (RaisesNew c slots) env standing st h = grows.use' t _ standing st h
  perform_from (Controls c e v) env standing st h = control_from (turn_of e standing) c v env standing st h
  perform_from (Terminates v) env standing st h = h

  module _ (f : Frame) (env : Env) (standing : List Mark) where
    pub leave_from : (c : Kind) (d : Bool) (v : Value) (st : State) → Since t st → From t (leave p n f env standing c d v st)
    leave_from InMethod d v st h = h
    leave_from InInitializer d v st h = h
    leave_from InBlock true v st h = h
    leave_from InBlock false v st h = handle_from t _ _ (grows.use' t _ standing _ h) (λ o s h1. h1)

    pub args_from : (row : Trees) (vs : List Value) (k : List Value → State → Result) (st : State) → Since t st → ((ws : List Value) (st1 : State) → Since t st1 → From t (k ws st1)) → From t (eval_args p n f env standing row vs k st)
    args_from no_trees vs k st h on = on vs st h
    args_from (more_trees e row) vs k st h on = value_from t _ _ (grows.tree t e f env standing st h) (λ v st1 h1. args_from row (v ∷ vs) k st1 h1 on)

    pub messages_from : (to : ℕ → Value → List Value → Use) (row : Messages) (r v : Value) (st : State) → Since t st → From t (eval_messages p n f env standing to row r v st)
    messages_from to no_messages r v st h = h
    messages_from to (more_messages selector args row) r v st h =
        args_from args [] _ st h (λ ws st1 h1. value_from t _ _ (grows.use' t _ standing st1 h1) (λ w st2 h2. messages_from to row r w st2 h2))

    eval_from : (e : Tree) (st : State) → Since t st → From t (eval p n f env standing e st)
    eval_from (Constant v) st h = h
    eval_from Self st h = h
    eval_from (Variable place) st h = h
    eval_from (Assign place e) st h = value_from t _ _ (grows.tree t e f env standing st h) (λ v st1 h1. written_since p t f st1 place v h1)
    eval_from (Block code) st h = used_from p t 2 st _ _ h h (λ st1 h1. h1)
    eval_from (Send selector e args) st h = value_from t _ _ (grows.tree t e f env standing st h) (λ r st1 h1. args_from args [] _ st1 h1 (λ ws st2 h2. grows.use' t _ standing st2 h2))
    eval_from (SuperSend selector args) st h = args_from args [] _ st h (λ ws st1 h1. grows.use' t _ standing st1 h1)
    eval_from (Cascade e messages) st h = value_from t _ _ (grows.tree t e f env standing st h) (λ r st1 h1. messages_from (λ selector r' args. SendTo selector r' args env) messages r r st1 h1)
    eval_from (SuperCascade messages) st h = messages_from (λ selector r args. SuperTo f.class selector r args env) messages f.self f.self st h

    pub body_from : (row : List Statement) (v : Value) (st : State) → Since t st → From t (eval_body p n f env standing row v st)
    body_from [] v st h = h
    body_from (Plain e ∷ row) v st h = value_from t _ _ (grows.tree t e f env standing st h) (λ w st1 h1. body_from row w st1 h1)
    body_from (Return e ∷ row) v st h = value_from t _ _ (grows.tree t e f env standing st h) (λ w st1 h1. leave_from f.kind (stands f.home standing) w st1 h1)

  rule_from : (u : Use) (standing : List Mark) (st : State) → Since t st → From t (rule p n u standing st)
  rule_from (Apply v args env) standing st h = grows.use' t _ standing st h
  rule_from (Activate c args env) standing st h = step_from p t st _ _ h h (λ st1 h1. opened_from _ standing st1 h1)
  rule_from (Enter code r args env) standing st h = opened_from _ standing st h
  rule_from (SendTo selector r args env) standing st h = step_from p t st _ _ h h (λ st1 h1. grows.use' t _ standing st1 h1)
  rule_from (SuperTo c selector r args env) standing st h = step_from p t st _ _ h h (λ st1 h1. grows.use' t _ standing st1 h1)
  rule_from (Perform a env) standing st h = perform_from a env standing st h
  rule_from (Raise e env) standing st h = raise_from (is_live e standing) e env standing st h
  rule_from (RaiseNew c slots env) standing st h = raise_new_from c slots env standing st h
  rule_from (SignalPoint i e env) standing st h = handle_from t _ _ (grows.use' t _ _ _ h) (λ o s h1. signal_by_from i e (signal_end i o) env standing s h1)
  rule_from (Resignaled i e f env) standing st h = handle_from t _ _ (grows.use' t _ _ _ h) (λ o s h1. signal_by_from i e (signal_end i o) env standing s h1)
  rule_from (SearchIn x rest) standing st h = search_from x rest standing st h
  rule_from (TurnBy x entry outside) standing st h = turn_from (asks_nested x) x entry outside standing st h
  rule_from (Ask w k x env) standing st h = stood_from p t standing st _ _ h h (λ st1 h1. handle_from t _ _ (grows.use' t _ _ st1 h1) (λ o s h2. wait_from w k x env standing o s h2))
  rule_from (Protect receiver entry env) standing st h = handle_from t _ _ (grows.use' t _ _ st h) (λ o s h1. protect_from (protect_end entry.number receiver o) entry env standing s h1)
  rule_from (Finish i block held env) standing st h = handle_from t _ _ (grows.use' t _ _ st h) (λ o s h1. action_end_from i held o s h1)
  rule_from (VisitBy i v env) standing st h = visit_from i v env standing st h
  rule_from (RunBody f env) standing st h = handle_from t _ _ (body_from f env (BodyMark f.own ∷ standing) (body_at p f.code).statements Nil st h) (λ o s h1. h1)

  pub run_grows : (xs : List Initializer) (st : State) → Since t st → From t (run_from p n xs st)
  run_grows [] st h = h
  run_grows (x ∷ xs) st h = value_from t _ _ (opened_from (initializer_opening p x st.next) [] st h) (λ v st1 h1. run_grows xs (kept_value x.target v st1) (kept_since t x.target v st1 h1))

pub grows_at : (p : Program) (i : ℕ) → Grows (at_index p i)
unfolding at_index
grows_at p zero = record { use' = λ t u standing st h. tt; tree = λ t e f env standing st h. tt }
grows_at p (suc i) =
    record {
      use' = λ t u standing st h. rule_from p (at_index p i) (grows_at p i) t u standing st h;
      tree = λ t e f env standing st h. eval_from p (at_index p i) (grows_at p i) t f env standing e st h;
    }
