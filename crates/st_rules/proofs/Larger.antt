-- A larger index changes no outcome: a law for each rule, from the same of the smaller indexes.
use Rattle.std.proofs.Common.{◌≡◌, ℕ, zero, suc, ◌≤◌, ◌+◌, ◌∙◌, List, [], ◌∷◌, Option, Some, None, Bool, true, false, refl, sym, ap, subst, arith}
use Rattle.object_heap.specs.declared.value.Value.{Value}
use Rattle.object_heap.specs.declared.value.Value.TheVariants.{Nil, Object}
use Rattle.object_heap.specs.Store.{object_at}
use Rattle.st_code.specs.Program.{Tree, Constant, Self, Variable, Assign, Block, Send, SuperSend, Cascade, SuperCascade, Trees, no_trees, more_trees, Messages, no_messages, more_messages, Statement, Plain, Return, Kind, InMethod, InBlock, InInitializer, Program, body_at, Initializer}
use Rattle.st_rules.specs.State.{State, Entry, Env, Outcome, Answer, Go, Stop, Turn, Mark, BodyMark, Frame, step_made, stood, used, scope_cells, stands, is_live, FoundTurn, NoTurn, TurnAt, turn_of}
use Rattle.st_code.specs.Messages.{Control}
use Rattle.st_code.specs.Lookup.{is_plain, fits, is_exception}
use Rattle.st_collections.specs.Actions.{Action, Gives, Changes, Makes, Writes, Fails, DividesByZero, PassesIntegers, Begins, Activates, Sends, Misses, Enters, Guards, Ensures, Curtails, Iterates, Raises, RaisesNew, Controls, Terminates, LoopState, Visit, Applies, Compares, Finishes, Lacks, Charges}
use Rattle.st_collections.specs.Kinds.{is_true}
use Rattle.st_rules.specs.Ends.{Result, Yields, NoIndex, charged, handle, then_value, Opening, initializer_opening, SignalVerdict, Ends, Signals, signal_end, Verdict, Leaves, Again, protect_end, Search, asks_nested, Wait, ToResume, ToOuter}
use Rattle.st_rules.specs.Rules.{Use, Apply, Activate, Enter, SendTo, SuperTo, Perform, Raise, RaiseNew, SignalPoint, Resignaled, SearchIn, TurnBy, Ask, Protect, Finish, VisitBy, RunBody, Next, opened, signal_by, raise, raise_new, tried, handles_after, judged, search, turn_by, asked, wait_after, resignal, resignal_as, control_by, control_without, control_in, control, protect_by, ensure_after, curtail_after, visit_after, visit, perform, leave, eval_args, eval_messages, eval, eval_body, rule, at_index, exception_cells}
use Rattle.st_rules.specs.Runs.{Ending, Runs, run_from, first_state, end_of, kept_value}
use Rattle.st_rules.specs.OneRun.{LargerKeeps, OneEnding, OneState}

-- where the first is an outcome, the second is the same
abbrev Below : Result → Result → Type 0
Below (Yields o st) y = y ≡ Yields o st
Below NoIndex y = Unit {0}

below_itself : (r : Result) → Below r r
below_itself (Yields o st) = refl
below_itself NoIndex = tt

charged_below : (o : Option State) (r : Result) (k l : State → Result) → ((st : State) → Below (k st) (l st)) → Below (charged o r k) (charged o r l)
charged_below None r k l h = below_itself r
charged_below (Some st) r k l h = h st

handle_below : (x y : Result) (k l : Outcome → State → Result) → Below x y → ((o : Outcome) (st : State) → Below (k o st) (l o st)) → Below (handle x k) (handle y l)
handle_below (Yields o st) y k l e h = subst (λ z. Below (k o st) (handle z l)) (sym e) (h o st)
handle_below NoIndex y k l e h = tt

value_below : (x y : Result) (k l : Value → State → Result) → Below x y → ((v : Value) (st : State) → Below (k v st) (l v st)) → Below (then_value x k) (then_value y l)
value_below (Yields (Answer v) st) y k l e h = subst (λ z. Below (k v st) (then_value z l)) (sym e) (h v st)
value_below (Yields (Go t v) st) y k l e h = ap (λ z. then_value z l) e
value_below (Yields (Stop t) st) y k l e h = ap (λ z. then_value z l) e
value_below NoIndex y k l e h = tt

record Less (n m : Next) : Type 0 where
  use' : (u : Use) (standing : List Mark) (st : State) → Below (n.use' u standing st) (m.use' u standing st)
  tree : (t : Tree) (f : Frame) (env : Env) (standing : List Mark) (st : State) → Below (n.tree t f env standing st) (m.tree t f env standing st)

module _ (p : Program) (n m : Next) (less : Less n m) where
  opened_below : (x : Opening) (standing : List Mark) (st : State) → Below (opened p n x standing st) (opened p m x standing st)
  opened_below x standing st = charged_below (stood p standing st) _ _ _ (λ st1. charged_below (used p (scope_cells (body_at p x.code)) st1) _ _ _ (λ st2. less.use' _ standing _))

  signal_by_below : (i e : ℕ) (d : SignalVerdict) (env : Env) (standing : List Mark) (st : State) → Below (signal_by p n i e d env standing st) (signal_by p m i e d env standing st)
  signal_by_below i e (Ends o) env standing st = refl
  signal_by_below i e (Signals f) env standing st = less.use' _ standing st

  raise_below : (live : Bool) (e : ℕ) (env : Env) (standing : List Mark) (st : State) → Below (raise p n live e env standing st) (raise p m live e env standing st)
  raise_below true e env standing st = less.use' _ standing st
  raise_below false e env standing st = charged_below (stood p standing st) _ _ _ (λ st1. less.use' _ standing _)

  raise_new_below : (c : ℕ) (slots : List Value) (env : Env) (standing : List Mark) (st : State) → Below (raise_new p n c slots env standing st) (raise_new p m c slots env standing st)
  raise_new_below c slots env standing st = charged_below (stood p standing st) _ _ _ (λ st1. charged_below (used p (exception_cells p c) _) _ _ _ (λ st3. less.use' _ standing _))

  tried_below : (a : Bool) (x : Search) (entry : Entry) (rest : Env) (standing : List Mark) (st : State) → Below (tried p n a x entry rest standing st) (tried p m a x entry rest standing st)
  tried_below true x entry rest standing st = less.use' _ standing _
  tried_below false x entry rest standing st = less.use' _ standing _

  handles_below : (i : ℕ) (x : Search) (entry : Entry) (rest : Env) (standing : List Mark) (o : Outcome) (st : State) → Below (handles_after p n i x entry rest standing o st) (handles_after p m i x entry rest standing o st)
  handles_below i x entry rest standing (Answer v) st = tried_below (is_true v) x entry rest standing _
  handles_below i x entry rest standing (Go t v) st = refl
  handles_below i x entry rest standing (Stop l) st = refl

  judged_below : (a : Bool) (x : Search) (entry : Entry) (rest : Env) (standing : List Mark) (st : State) → Below (judged p n a x entry rest standing st) (judged p m a x entry rest standing st)
  judged_below true x entry rest standing st = tried_below (fits p st.store entry.selector (object_at x.exception st.store).class) x entry rest standing st
  judged_below false x entry rest standing st = charged_below (stood p standing st) _ _ _ (λ st1. handle_below _ _ _ _ (less.use' _ _ _) (λ o s. handles_below st.next x entry rest standing o s))

  search_below : (x : Search) (rest : Env) (standing : List Mark) (st : State) → Below (search p n x rest standing st) (search p m x rest standing st)
  search_below x [] standing st = less.use' _ standing st
  search_below x (entry ∷ rest) standing st = judged_below (is_plain p st.store entry.selector) x entry rest standing st

  turn_below : (a : Bool) (x : Search) (entry : Option Entry) (outside : Env) (standing : List Mark) (st : State) → Below (turn_by p n a x entry outside standing st) (turn_by p m a x entry outside standing st)
  turn_below true x None outside standing st = refl
  turn_below true x (Some entry) outside standing st = refl
  turn_below false x None outside standing st = charged_below (stood p standing st) _ _ _ (λ st1. handle_below _ _ _ _ (less.use' _ _ _) (λ o s. refl))
  turn_below false x (Some entry) outside standing st = charged_below (stood p standing st) _ _ _ (λ st1. handle_below _ _ _ _ (less.use' _ _ _) (λ o s. refl))

  asked_below : (a : Bool) (w : Wait) (k : ℕ) (t : Turn) (env : Env) (standing : List Mark) (st : State) → Below (asked p n a w k t env standing st) (asked p m a w k t env standing st)
  asked_below true (ToResume v) k t env standing st = refl
  asked_below false (ToResume v) k t env standing st = less.use' _ standing _
  asked_below true ToOuter k t env standing st = charged_below (stood p standing st) _ _ _ (λ st1. handle_below _ _ _ _ (less.use' _ _ _) (λ o s. refl))
  asked_below false ToOuter k t env standing st = less.use' _ standing _

  wait_below : (w : Wait) (k : ℕ) (t : Turn) (env : Env) (standing : List Mark) (o : Outcome) (st : State) → Below (wait_after p n w k t env standing o st) (wait_after p m w k t env standing o st)
  wait_below w k t env standing (Answer v) st = asked_below (is_true v) w k t env standing st
  wait_below w k t env standing (Go g v) st = refl
  wait_below w k t env standing (Stop l) st = refl

  resignal_below : (a b : Bool) (t : Turn) (f : ℕ) (v : Value) (env : Env) (standing : List Mark) (st : State) → Below (resignal p n a b t f v env standing st) (resignal p m a b t f v env standing st)
  resignal_below false b t f v env standing st = less.use' _ standing st
  resignal_below true true t f v env standing st = less.use' _ standing st
  resignal_below true false t f v env standing st = refl

  resignal_as_below : (t : Turn) (v : Value) (env : Env) (standing : List Mark) (st : State) → Below (resignal_as p n t v env standing st) (resignal_as p m t v env standing st)
  resignal_as_below t (Object f) env standing st = resignal_below (is_exception p st.store (Object f)) (is_live f standing) t f (Object f) env standing st
  resignal_as_below t v env standing st = less.use' _ standing st

  control_by_below : (c : Control) (v : Value) (k : ℕ) (t : Turn) (entry : Entry) (env : Env) (standing : List Mark) (st : State) → Below (control_by p n c v k t entry env standing st) (control_by p m c v k t entry env standing st)
  control_by_below Control.Return v k t entry env standing st = refl
  control_by_below Control.Retry v k t entry env standing st = refl
  control_by_below Control.RetryUsing v k t entry env standing st = refl
  control_by_below Control.Resume v k t entry env standing st = less.use' _ standing st
  control_by_below Control.Pass v k t entry env standing st = less.use' _ standing _
  control_by_below Control.Outer v k t entry env standing st = less.use' _ standing st
  control_by_below Control.ResignalAs v k t entry env standing st = resignal_as_below t v env standing st
  control_by_below Control.IsNested v k t entry env standing st = less.use' _ standing _

  control_without_below : (c : Control) (v : Value) (k : ℕ) (t : Turn) (env : Env) (standing : List Mark) (st : State) → Below (control_without p n c v k t env standing st) (control_without p m c v k t env standing st)
  control_without_below Control.Resume v k t env standing st = less.use' _ standing st
  control_without_below c v k t env standing st = less.use' _ standing st

  control_in_below : (entry : Option Entry) (c : Control) (v : Value) (k : ℕ) (t : Turn) (env : Env) (standing : List Mark) (st : State) → Below (control_in p n entry c v k t env standing st) (control_in p m entry c v k t env standing st)
  control_in_below (Some entry) c v k t env standing st = control_by_below c v k t entry env standing st
  control_in_below None c v k t env standing st = control_without_below c v k t env standing st

  control_below : (f : FoundTurn) (c : Control) (v : Value) (env : Env) (standing : List Mark) (st : State) → Below (control p n f c v env standing st) (control p m f c v env standing st)
  control_below NoTurn c v env standing st = less.use' _ standing st
  control_below (TurnAt k t) c v env standing st = control_in_below t.entry c v k t env standing st

  protect_below : (d : Verdict) (entry : Entry) (env : Env) (standing : List Mark) (st : State) → Below (protect_by p n d entry env standing st) (protect_by p m d entry env standing st)
  protect_below (Leaves o) entry env standing st = refl
  protect_below (Again receiver) entry env standing st = less.use' _ standing _

  ensure_below : (i : ℕ) (block : Value) (env : Env) (standing : List Mark) (o : Outcome) (st : State) → Below (ensure_after p n i block env standing o st) (ensure_after p m i block env standing o st)
  ensure_below i block env standing (Answer v) st = less.use' _ standing _
  ensure_below i block env standing (Go t v) st = less.use' _ standing _
  ensure_below i block env standing (Stop l) st = refl

  curtail_below : (i : ℕ) (block : Value) (env : Env) (standing : List Mark) (o : Outcome) (st : State) → Below (curtail_after p n i block env standing o st) (curtail_after p m i block env standing o st)
  curtail_below i block env standing (Answer v) st = refl
  curtail_below i block env standing (Go t v) st = less.use' _ standing _
  curtail_below i block env standing (Stop l) st = refl

  visit_after_below : (i : ℕ) (l : LoopState) (env : Env) (standing : List Mark) (o : Outcome) (st : State) → Below (visit_after p n i l env standing o st) (visit_after p m i l env standing o st)
  visit_after_below i l env standing (Answer v) st = less.use' _ standing st
  visit_after_below i l env standing (Go t v) st = refl
  visit_after_below i l env standing (Stop x) st = refl

  visit_below : (i : ℕ) (v : Visit) (env : Env) (standing : List Mark) (st : State) → Below (visit p n i v env standing st) (visit p m i v env standing st)
  visit_below i (Applies l v args) env standing st = handle_below _ _ _ _ (less.use' _ _ st) (λ o s. visit_after_below i l env standing o s)
  visit_below i (Compares l r v) env standing st = handle_below _ _ _ _ (less.use' _ _ st) (λ o s. visit_after_below i l env standing o s)
  visit_below i (Finishes v) env standing st = refl
  visit_below i (Lacks l) env standing st = handle_below _ _ _ _ (less.use' _ _ st) (λ o s. visit_after_below i l env standing o s)
  visit_below i (Charges cells s v) env standing st = charged_below (used p cells st) _ _ _ (λ st1. visit_below i v env standing _)

  perform_below : (a : Action) (env : Env) (standing : List Mark) (st : State) → Below (perform p n a env standing st) (perform p m a env standing st)
  perform_below (Gives v) env standing st = refl
  perform_below (Changes s v) env standing st = refl
  perform_below (Makes cells s v) env standing st = charged_below (used p cells st) _ _ _ (λ st1. refl)
  perform_below (Writes text v) env standing st = refl
  perform_below (Fails trouble) env standing st = less.use' _ standing st
  perform_below (DividesByZero dividend) env standing st = less.use' _ standing st
  perform_below PassesIntegers env standing st = refl
  perform_below (Begins v args) env standing st = less.use' _ standing st
  perform_below (Activates c args) env standing st = less.use' _ standing st
  perform_below (Sends selector r args) env standing st = less.use' _ standing st
  perform_below (Misses selector r args) env standing st = charged_below (used p _ st) _ _ _ (λ st1. charged_below (used p 3 _) _ _ _ (λ st3. less.use' _ standing _))
  perform_below (Enters code r args) env standing st = less.use' _ standing st
  perform_below (Guards receiver selector handler) env standing st = charged_below (stood p standing st) _ _ _ (λ st1. less.use' _ standing _)
  perform_below (Ensures receiver block) env standing st = charged_below (stood p standing st) _ _ _ (λ st1. handle_below _ _ _ _ (less.use' _ _ _) (λ o s. ensure_below st.next block env standing o s))
  perform_below (Curtails receiver block) env standing st = charged_below (stood p standing st) _ _ _ (λ st1. handle_below _ _ _ _ (less.use' _ _ _) (λ o s. curtail_below st.next block env standing o s))
  perform_below (Iterates l) env standing st = charged_below (stood p standing st) _ _ _ (λ st1. less.use' _ standing st1)
  perform_below (Raises s e) env standing st = less.use' _ standing _
  perform_below (RaisesNew c slots) env standing st = less.use' _ standing st
  perform_below (Controls c e v) env standing st = control_below (turn_of e standing) c v env standing st
  perform_below (Terminates v) env standing st = refl

  module _ (f : Frame) (env : Env) (standing : List Mark) where
    leave_below : (c : Kind) (d : Bool) (v : Value) (st : State) → Below (leave p n f env standing c d v st) (leave p m f env standing c d v st)
    leave_below InMethod d v st = refl
    leave_below InInitializer d v st = refl
    leave_below InBlock true v st = refl
    leave_below InBlock false v st = handle_below _ _ _ _ (less.use' _ standing _) (λ o s. refl)

    args_below : (row : Trees) (vs : List Value) (k l : List Value → State → Result) (st : State) → ((ws : List Value) (st1 : State) → Below (k ws st1) (l ws st1)) → Below (eval_args p n f env standing row vs k st) (eval_args p m f env standing row vs l st)
    args_below no_trees vs k l st h = h vs st
    args_below (more_trees t row) vs k l st h = value_below _ _ _ _ (less.tree t f env standing st) (λ v st1. args_below row (v ∷ vs) k l st1 h)

    messages_below : (to : ℕ → Value → List Value → Use) (row : Messages) (r v : Value) (st : State) → Below (eval_messages p n f env standing to row r v st) (eval_messages p m f env standing to row r v st)
    messages_below to no_messages r v st = refl
    messages_below to (more_messages selector args row) r v st =
        args_below args [] _ _ st (λ ws st1. value_below _ _ _ _ (less.use' _ standing st1) (λ w st2. messages_below to row r w st2))

    eval_below : (t : Tree) (st : State) → Below (eval p n f env standing t st) (eval p m f env standing t st)
    eval_below (Constant v) st = refl
    eval_below Self st = refl
    eval_below (Variable place) st = refl
    eval_below (Assign place t) st = value_below _ _ _ _ (less.tree t f env standing st) (λ v st1. refl)
    eval_below (Block code) st = charged_below (used p 2 st) _ _ _ (λ st1. refl)
    eval_below (Send selector t args) st = value_below _ _ _ _ (less.tree t f env standing st) (λ r st1. args_below args [] _ _ st1 (λ ws st2. less.use' _ standing st2))
    eval_below (SuperSend selector args) st = args_below args [] _ _ st (λ ws st1. less.use' _ standing st1)
    eval_below (Cascade t messages) st = value_below _ _ _ _ (less.tree t f env standing st) (λ r st1. messages_below (λ selector r' args. SendTo selector r' args env) messages r r st1)
    eval_below (SuperCascade messages) st = messages_below (λ selector r args. SuperTo f.class selector r args env) messages f.self f.self st

    body_below : (row : List Statement) (v : Value) (st : State) → Below (eval_body p n f env standing row v st) (eval_body p m f env standing row v st)
    body_below [] v st = refl
    body_below (Plain t ∷ row) v st = value_below _ _ _ _ (less.tree t f env standing st) (λ w st1. body_below row w st1)
    body_below (Return t ∷ row) v st = value_below _ _ _ _ (less.tree t f env standing st) (λ w st1. leave_below f.kind (stands f.home standing) w st1)

  rule_below : (u : Use) (standing : List Mark) (st : State) → Below (rule p n u standing st) (rule p m u standing st)
  rule_below (Apply v args env) standing st = less.use' _ standing st
  rule_below (Activate c args env) standing st = charged_below (step_made p st) _ _ _ (λ st1. opened_below _ standing st1)
  rule_below (Enter code r args env) standing st = opened_below _ standing st
  rule_below (SendTo selector r args env) standing st = charged_below (step_made p st) _ _ _ (λ st1. less.use' _ standing st1)
  rule_below (SuperTo c selector r args env) standing st = charged_below (step_made p st) _ _ _ (λ st1. less.use' _ standing st1)
  rule_below (Perform a env) standing st = perform_below a env standing st
  rule_below (Raise e env) standing st = raise_below (is_live e standing) e env standing st
  rule_below (RaiseNew c slots env) standing st = raise_new_below c slots env standing st
  rule_below (SignalPoint i e env) standing st = handle_below _ _ _ _ (less.use' _ _ _) (λ o s. signal_by_below i e (signal_end i o) env standing s)
  rule_below (Resignaled i e f env) standing st = handle_below _ _ _ _ (less.use' _ _ _) (λ o s. signal_by_below i e (signal_end i o) env standing s)
  rule_below (SearchIn x rest) standing st = search_below x rest standing st
  rule_below (TurnBy x entry outside) standing st = turn_below (asks_nested x) x entry outside standing st
  rule_below (Ask w k t env) standing st = charged_below (stood p standing st) _ _ _ (λ st1. handle_below _ _ _ _ (less.use' _ _ st1) (λ o s. wait_below w k t env standing o s))
  rule_below (Protect receiver entry env) standing st = handle_below _ _ _ _ (less.use' _ _ st) (λ o s. protect_below (protect_end entry.number receiver o) entry env standing s)
  rule_below (Finish i block held env) standing st = handle_below _ _ _ _ (less.use' _ _ st) (λ o s. refl)
  rule_below (VisitBy i v env) standing st = visit_below i v env standing st
  rule_below (RunBody f env) standing st = handle_below _ _ _ _ (body_below f env (BodyMark f.own ∷ standing) (body_at p f.code).statements Nil st) (λ o s. refl)

  run_below : (xs : List Initializer) (st : State) → Below (run_from p n xs st) (run_from p m xs st)
  run_below [] st = refl
  run_below (x ∷ xs) st = value_below _ _ _ _ (opened_below (initializer_opening p x st.next) [] st) (λ v st1. run_below xs (kept_value x.target v st1))

-- at an index that is at least as large each outcome is the same
larger : (p : Program) (i j : ℕ) → i ≤ j → Less (at_index p i) (at_index p j)
unfolding at_index
larger p zero j le = record { use' = λ u standing st. tt; tree = λ t f env standing st. tt }
larger p (suc i) zero le = absurd (omega arith)
larger p (suc i) (suc j) le =
    let less = larger p i j (omega arith) in
    record {
      use' = λ u standing st. rule_below p (at_index p i) (at_index p j) less u standing st;
      tree = λ t f env standing st. eval_below p (at_index p i) (at_index p j) less f env standing t st;
    }

below_yields : (x y : Result) (o : Outcome) (st : State) → Below x y → x ≡ Yields o st → y ≡ Yields o st
below_yields x y o st h e = subst (λ z. Below z y) e h

pub larger_keeps : LargerKeeps
larger_keeps p i j le u standing st o st' e = below_yields _ _ o st' ((larger p i j le).use' u standing st) e

-- two runs of a program at one index: at the sum of theirs
pub run_at : (p : Program) (e : Ending) (st : State) (r : Runs p e st) (k : ℕ) → r.index ≤ k → run_from p (at_index p k) p.initializers (first_state p) ≡ Yields r.outcome st
run_at p e st r k le = below_yields _ _ r.outcome st (run_below p (at_index p r.index) (at_index p k) (larger p r.index k le) p.initializers (first_state p)) r.run

same_yields : (p : Program) (e e' : Ending) (st st' : State) (r : Runs p e st) (r' : Runs p e' st') → Yields r.outcome st ≡ Yields r'.outcome st'
same_yields p e e' st st' r r' = sym (run_at p e st r (r.index + r'.index) (omega arith)) ∙ run_at p e' st' r' (r.index + r'.index) (omega arith)

pub one_ending : OneEnding
one_ending p e e' st st' r r' =
    let same : r.outcome ≡ r'.outcome = let y = same_yields p e e' st st' r r' in cc in
    sym r.ends ∙ ap end_of same ∙ r'.ends

pub one_state : OneState
one_state p e e' st st' r r' = let y = same_yields p e e' st st' r r' in cc
