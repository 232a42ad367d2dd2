-- Two step limits: up to the smaller one the rules do the same under both, a law for each rule.
use Rattle.std.proofs.Common.{◌≡◌, ℕ, zero, suc, ◌+◌, ◌≤◌, length, List, [], ◌∷◌, Option, Some, None, Bool, true, false, refl, sym, ap, subst, arith, ltb-true, lt-ltb, nat_lt, if◌then◌else◌}
use Rattle.object_heap.specs.declared.value.Value.{Value}
use Rattle.object_heap.specs.declared.value.Value.TheVariants.{Nil, Object}
use Rattle.object_heap.specs.Store.{object_at}
use Rattle.st_code.specs.Program.{Tree, Constant, Self, Variable, Assign, Block, Send, SuperSend, Cascade, SuperCascade, Trees, no_trees, more_trees, Messages, no_messages, more_messages, Statement, Plain, Return, Kind, InMethod, InBlock, InInitializer, Program, body_at, class_at, number_of, Initializer}
use Rattle.st_code.specs.Messages.{Control}
use Rattle.st_code.specs.Lookup.{is_plain, fits, is_exception}
use Rattle.st_collections.specs.Actions.{Action, Gives, Changes, Makes, Writes, Fails, DividesByZero, PassesIntegers, Begins as BeginsWith, Activates, Sends, Misses, Enters, Guards, Ensures, Curtails, Iterates, Raises, RaisesNew, Controls, Terminates, LoopState, Visit, Applies, Compares, Finishes, Lacks, Charges}
use Rattle.st_collections.specs.Kinds.{is_true}
use Rattle.st_collections.specs.Loops.{first_visit, next_visit}
use Rattle.st_rules.specs.State.{State, Entry, Env, StepLimit, DepthLimit, CellLimit, IntegerLimit, Outcome, Answer, Go, Stop, Turn, Mark, BodyMark, Frame, step_made, stood, used, scope_cells, stands, is_live, FoundTurn, NoTurn, TurnAt, turn_of}
use Rattle.st_rules.specs.Sends.{send_action, super_action}
use Rattle.st_rules.specs.Ends.{Result, Yields, NoIndex, charged, handle, then_value, stop, ended, body_end, left_end, action_end, read_place, write_place, with_opened, Opening, initializer_opening, SignalVerdict, Ends, Signals, signal_end, Verdict, Leaves, Again, protect_end, Search, turn_for, asks_nested, Wait, ToResume, ToOuter}
use Rattle.st_rules.specs.Rules.{Use, Apply, Activate, Enter, SendTo, SuperTo, Perform, Raise, RaiseNew, SignalPoint, Resignaled, SearchIn, TurnBy, Ask, Protect, Finish, VisitBy, RunBody, Next, closure_for, exception_slots, with_exception, opened, signal_by, raise, raise_new, tried, handles_after, judged, search, turn_by, turn_after, outer_after, asked, wait_after, resignal, resignal_as, control_by, control_without, control_in, control, protect_by, ensure_after, curtail_after, visit_after, visit, perform, leave, eval_args, eval_messages, eval, eval_body, rule, at_index, exception_cells}
use Rattle.st_rules.specs.Runs.{run_from, kept_value}
use Rattle.st_rules.specs.StepLimits.{with_step_limit}
use Rattle.st_rules.proofs.SameProgram.{is_exception_same, is_plain_same, fits_same}
use Rattle.st_rules.proofs.SameActions.{next_visit_same, first_visit_same, send_same, super_same}
use Rattle.st_rules.proofs.Transcripts.{begins_itself, From, Since, handle_from, value_from, step_from, Grows, opened_from, signal_by_from, handles_from, turn_end_from, outer_end_from, wait_from, protect_from, action_end_from, ensure_from, curtail_from, visit_after_from, leave_from, args_from, messages_from, body_from, written_since, kept_since, run_grows, grows_at}

-- the second result is the first, but where the step limit stopped the first: there its Transcript goes on
abbrev pub Close : Result → Result → Type 0
Close (Yields (Answer v) st) y = y ≡ Yields (Answer v) st
Close (Yields (Go t v) st) y = y ≡ Yields (Go t v) st
Close (Yields (Stop StepLimit) st) y = From st.transcript y
Close (Yields (Stop DepthLimit) st) y = y ≡ Yields (Stop DepthLimit) st
Close (Yields (Stop CellLimit) st) y = y ≡ Yields (Stop CellLimit) st
Close (Yields (Stop IntegerLimit) st) y = y ≡ Yields (Stop IntegerLimit) st
Close NoIndex y = Unit {0}

close_itself : (r : Result) → Close r r
close_itself (Yields (Answer v) st) = refl
close_itself (Yields (Go t v) st) = refl
close_itself (Yields (Stop StepLimit) st) = begins_itself st.transcript
close_itself (Yields (Stop DepthLimit) st) = refl
close_itself (Yields (Stop CellLimit) st) = refl
close_itself (Yields (Stop IntegerLimit) st) = refl
close_itself NoIndex = tt

charged_close : (o : Option State) (r : Result) (k l : State → Result) → ((st : State) → Close (k st) (l st)) → Close (charged o r k) (charged o r l)
charged_close None r k l h = close_itself r
charged_close (Some st) r k l h = h st

-- what is done with each outcome, where the step limit's goes through the first and the second only lets the Transcript grow
handle_close : (x y : Result) (k l : Outcome → State → Result) → Close x y → ((o : Outcome) (st : State) → Close (k o st) (l o st)) → ((st : State) → k (Stop StepLimit) st ≡ Yields (Stop StepLimit) st) → ((t : _) (o : Outcome) (st : State) → Since t st → From t (l o st)) → Close (handle x k) (handle y l)
handle_close (Yields (Answer v) st) y k l e h s g = subst (λ z. Close (k (Answer v) st) (handle z l)) (sym e) (h (Answer v) st)
handle_close (Yields (Go t v) st) y k l e h s g = subst (λ z. Close (k (Go t v) st) (handle z l)) (sym e) (h (Go t v) st)
handle_close (Yields (Stop StepLimit) st) y k l e h s g = subst (λ z. Close z (handle y l)) (sym (s st)) (handle_from st.transcript y l e (g st.transcript))
handle_close (Yields (Stop DepthLimit) st) y k l e h s g = subst (λ z. Close (k (Stop DepthLimit) st) (handle z l)) (sym e) (h (Stop DepthLimit) st)
handle_close (Yields (Stop CellLimit) st) y k l e h s g = subst (λ z. Close (k (Stop CellLimit) st) (handle z l)) (sym e) (h (Stop CellLimit) st)
handle_close (Yields (Stop IntegerLimit) st) y k l e h s g = subst (λ z. Close (k (Stop IntegerLimit) st) (handle z l)) (sym e) (h (Stop IntegerLimit) st)
handle_close NoIndex y k l e h s g = tt

value_close : (x y : Result) (k l : Value → State → Result) → Close x y → ((v : Value) (st : State) → Close (k v st) (l v st)) → ((t : _) (v : Value) (st : State) → Since t st → From t (l v st)) → Close (then_value x k) (then_value y l)
value_close (Yields (Answer v) st) y k l e h g = subst (λ z. Close (k v st) (then_value z l)) (sym e) (h v st)
value_close (Yields (Go t v) st) y k l e h g = ap (λ z. then_value z l) e
value_close (Yields (Stop StepLimit) st) y k l e h g = value_from st.transcript y l e (g st.transcript)
value_close (Yields (Stop DepthLimit) st) y k l e h g = ap (λ z. then_value z l) e
value_close (Yields (Stop CellLimit) st) y k l e h g = ap (λ z. then_value z l) e
value_close (Yields (Stop IntegerLimit) st) y k l e h g = ap (λ z. then_value z l) e
value_close NoIndex y k l e h g = tt

pub record Closer (n m : Next) : Type 0 where
  pub use' : (u : Use) (standing : List Mark) (st : State) → Close (n.use' u standing st) (m.use' u standing st)
  pub tree : (t : Tree) (f : Frame) (env : Env) (standing : List Mark) (st : State) → Close (n.tree t f env standing st) (m.tree t f env standing st)

module _ (p : Program) (limit : ℕ) (le : p.step_limit ≤ limit) where
  abbrev q : Program
  q = with_step_limit p limit

  step_close : (st : State) (k l : State → Result) → ((st1 : State) → Close (k st1) (l st1)) → ((t : _) (st1 : State) → Since t st1 → From t (l st1)) → Close (charged (step_made p st) (stop StepLimit st) k) (charged (step_made q st) (stop StepLimit st) l)
  unfolding step_made
  step_close st k l h g = go (nat_lt st.steps p.step_limit) refl
    where
      made : State
      made = record st { steps = st.steps + 1 }

      more : nat_lt st.steps limit ≡ true → Close (k made) (charged (if nat_lt st.steps limit then Some made else None) (stop StepLimit st) l)
      more e = subst (λ c. Close (k made) (charged (if c then Some made else None) (stop StepLimit st) l)) (sym e) (h made)

      go : (c : Bool) → nat_lt st.steps p.step_limit ≡ c → Close (charged (if c then Some made else None) (stop StepLimit st) k) (charged (step_made q st) (stop StepLimit st) l)
      go true e = more (lt-ltb st.steps limit (omega (arith, ltb-true st.steps p.step_limit e, le)))
      go false e = step_from q st.transcript st _ l (begins_itself st.transcript) (begins_itself st.transcript) (g st.transcript)

  stood_close : (standing : List Mark) (st : State) (k l : State → Result) → ((st1 : State) → Close (k st1) (l st1)) → Close (charged (stood p standing st) (stop DepthLimit st) k) (charged (stood q standing st) (stop DepthLimit st) l)
  unfolding stood
  stood_close standing st k l h = charged_close (stood p standing st) (stop DepthLimit st) k l h

  used_close : (n : ℕ) (st : State) (k l : State → Result) → ((st1 : State) → Close (k st1) (l st1)) → Close (charged (used p n st) (stop CellLimit st) k) (charged (used q n st) (stop CellLimit st) l)
  unfolding used
  used_close n st k l h = charged_close (used p n st) (stop CellLimit st) k l h

module _ (p : Program) (limit : ℕ) (le : p.step_limit ≤ limit) (n m : Next) (close : Closer n m) (grows : Grows m) where
  abbrev other : Program
  other = with_step_limit p limit

  opened_close : (x : Opening) (standing : List Mark) (st : State) → Close (opened p n x standing st) (opened other m x standing st)
  unfolding body_at with_opened
  opened_close x standing st = stood_close p limit le standing st _ _ (λ st1. used_close p limit le (scope_cells (body_at p x.code)) st1 _ _ (λ st2. close.use' _ standing _))

  signal_by_close : (i e : ℕ) (d : SignalVerdict) (env : Env) (standing : List Mark) (st : State) → Close (signal_by p n i e d env standing st) (signal_by other m i e d env standing st)
  signal_by_close i e (Ends o) env standing st = close_itself (Yields o (ended i o st))
  signal_by_close i e (Signals f) env standing st = close.use' _ standing st

  raise_close : (live : Bool) (e : ℕ) (env : Env) (standing : List Mark) (st : State) → Close (raise p n live e env standing st) (raise other m live e env standing st)
  raise_close true e env standing st = close.use' _ standing st
  raise_close false e env standing st = stood_close p limit le standing st _ _ (λ st1. close.use' _ standing _)

  raise_new_close : (c : ℕ) (slots : List Value) (env : Env) (standing : List Mark) (st : State) → Close (raise_new p n c slots env standing st) (raise_new other m c slots env standing st)
  unfolding class_at exception_slots with_exception
  raise_new_close c slots env standing st = stood_close p limit le standing st _ _ (λ st1. used_close p limit le (exception_cells p c) _ _ _ (λ st3. close.use' _ standing _))

  tried_close : (a : Bool) (x : Search) (entry : Entry) (rest : Env) (standing : List Mark) (st : State) → Close (tried p n a x entry rest standing st) (tried other m a x entry rest standing st)
  tried_close true x entry rest standing st = close.use' _ standing _
  tried_close false x entry rest standing st = close.use' _ standing _

  handles_close : (i : ℕ) (x : Search) (entry : Entry) (rest : Env) (standing : List Mark) (o : Outcome) (st : State) → Close (handles_after p n i x entry rest standing o st) (handles_after other m i x entry rest standing o st)
  handles_close i x entry rest standing (Answer v) st = tried_close (is_true v) x entry rest standing _
  handles_close i x entry rest standing (Go t v) st = refl
  handles_close i x entry rest standing (Stop l) st = close_itself (Yields (Stop l) st)

  judged_close : (a : Bool) (x : Search) (entry : Entry) (rest : Env) (standing : List Mark) (st : State) → Close (judged p n a x entry rest standing st) (judged other m a x entry rest standing st)
  unfolding number_of
  judged_close true x entry rest standing st =
      subst (λ a. Close (tried p n (fits p st.store entry.selector (object_at x.exception st.store).class) x entry rest standing st) (tried other m a x entry rest standing st))
      (fits_same p limit st.store entry.selector (object_at x.exception st.store).class)
      (tried_close (fits p st.store entry.selector (object_at x.exception st.store).class) x entry rest standing st)
  judged_close false x entry rest standing st =
      stood_close p limit le standing st _ _ (λ st1.
      handle_close _ _ _ _ (close.use' _ _ _) (λ o s. handles_close st.next x entry rest standing o s) (λ s. refl) (λ t o s h. handles_from other m grows t st.next x entry rest standing o s h))

  search_close : (x : Search) (rest : Env) (standing : List Mark) (st : State) → Close (search p n x rest standing st) (search other m x rest standing st)
  search_close x [] standing st = close.use' _ standing st
  search_close x (entry ∷ rest) standing st =
      subst (λ a. Close (judged p n (is_plain p st.store entry.selector) x entry rest standing st) (judged other m a x entry rest standing st))
      (is_plain_same p limit st.store entry.selector)
      (judged_close (is_plain p st.store entry.selector) x entry rest standing st)

  turn_close : (a : Bool) (x : Search) (entry : Option Entry) (outside : Env) (standing : List Mark) (st : State) → Close (turn_by p n a x entry outside standing st) (turn_by other m a x entry outside standing st)
  unfolding number_of closure_for body_at
  turn_close true x None outside standing st = refl
  turn_close true x (Some entry) outside standing st = refl
  turn_close false x None outside standing st =
      stood_close p limit le standing st _ _ (λ st1.
      handle_close _ _ _ _ (close.use' _ _ _) (λ o s. close_itself (turn_after p n st.next (turn_for x None outside) standing o s)) (λ s. refl) (λ t o s h. turn_end_from other m grows t st.next (turn_for x None outside) standing o s h))
  turn_close false x (Some entry) outside standing st =
      stood_close p limit le standing st _ _ (λ st1.
      handle_close _ _ _ _ (close.use' _ _ _) (λ o s. close_itself (turn_after p n st.next (turn_for x (Some entry) outside) standing o s)) (λ s. refl) (λ t o s h. turn_end_from other m grows t st.next (turn_for x (Some entry) outside) standing o s h))

  asked_close : (a : Bool) (w : Wait) (k : ℕ) (x : Turn) (env : Env) (standing : List Mark) (st : State) → Close (asked p n a w k x env standing st) (asked other m a w k x env standing st)
  asked_close true (ToResume v) k x env standing st = refl
  asked_close false (ToResume v) k x env standing st = close.use' _ standing _
  asked_close true ToOuter k x env standing st =
      stood_close p limit le standing st _ _ (λ st1.
      handle_close _ _ _ _ (close.use' _ _ _) (λ o s. close_itself (outer_after p n st.next standing o s)) (λ s. refl) (λ t o s h. outer_end_from other m grows t st.next standing o s h))
  asked_close false ToOuter k x env standing st = close.use' _ standing _

  wait_close : (w : Wait) (k : ℕ) (x : Turn) (env : Env) (standing : List Mark) (o : Outcome) (st : State) → Close (wait_after p n w k x env standing o st) (wait_after other m w k x env standing o st)
  wait_close w k x env standing (Answer v) st = asked_close (is_true v) w k x env standing st
  wait_close w k x env standing (Go g v) st = refl
  wait_close w k x env standing (Stop l) st = close_itself (Yields (Stop l) st)

  resignal_close : (a b : Bool) (x : Turn) (f : ℕ) (v : Value) (env : Env) (standing : List Mark) (st : State) → Close (resignal p n a b x f v env standing st) (resignal other m a b x f v env standing st)
  resignal_close false b x f v env standing st = close.use' _ standing st
  resignal_close true true x f v env standing st = close.use' _ standing st
  resignal_close true false x f v env standing st = refl

  resignal_as_close : (x : Turn) (v : Value) (env : Env) (standing : List Mark) (st : State) → Close (resignal_as p n x v env standing st) (resignal_as other m x v env standing st)
  resignal_as_close x (Object f) env standing st =
      subst (λ a. Close (resignal_as p n x (Object f) env standing st) (resignal other m a (is_live f standing) x f (Object f) env standing st))
      (is_exception_same p limit st.store (Object f))
      (resignal_close (is_exception p st.store (Object f)) (is_live f standing) x f (Object f) env standing st)
  resignal_as_close x v env standing st = close.use' _ standing st

  control_by_close : (c : Control) (v : Value) (k : ℕ) (x : Turn) (entry : Entry) (env : Env) (standing : List Mark) (st : State) → Close (control_by p n c v k x entry env standing st) (control_by other m c v k x entry env standing st)
  control_by_close Control.Return v k x entry env standing st = refl
  control_by_close Control.Retry v k x entry env standing st = refl
  control_by_close Control.RetryUsing v k x entry env standing st = refl
  control_by_close Control.Resume v k x entry env standing st = close.use' _ standing st
  control_by_close Control.Pass v k x entry env standing st = close.use' _ standing _
  control_by_close Control.Outer v k x entry env standing st = close.use' _ standing st
  control_by_close Control.ResignalAs v k x entry env standing st = resignal_as_close x v env standing st
  control_by_close Control.IsNested v k x entry env standing st = close.use' _ standing _

  control_without_close : (c : Control) (v : Value) (k : ℕ) (x : Turn) (env : Env) (standing : List Mark) (st : State) → Close (control_without p n c v k x env standing st) (control_without other m c v k x env standing st)
  control_without_close Control.Resume v k x env standing st = close.use' _ standing st
  control_without_close c v k x env standing st = close.use' _ standing st

  control_in_close : (entry : Option Entry) (c : Control) (v : Value) (k : ℕ) (x : Turn) (env : Env) (standing : List Mark) (st : State) → Close (control_in p n entry c v k x env standing st) (control_in other m entry c v k x env standing st)
  control_in_close (Some entry) c v k x env standing st = control_by_close c v k x entry env standing st
  control_in_close None c v k x env standing st = control_without_close c v k x env standing st

  control_close : (f : FoundTurn) (c : Control) (v : Value) (env : Env) (standing : List Mark) (st : State) → Close (control p n f c v env standing st) (control other m f c v env standing st)
  control_close NoTurn c v env standing st = close.use' _ standing st
  control_close (TurnAt k x) c v env standing st = control_in_close x.entry c v k x env standing st

  protect_close : (d : Verdict) (entry : Entry) (env : Env) (standing : List Mark) (st : State) → Close (protect_by p n d entry env standing st) (protect_by other m d entry env standing st)
  protect_close (Leaves o) entry env standing st = close_itself (Yields o (ended entry.number o st))
  protect_close (Again receiver) entry env standing st = close.use' _ standing _

  ensure_close : (i : ℕ) (block : Value) (env : Env) (standing : List Mark) (o : Outcome) (st : State) → Close (ensure_after p n i block env standing o st) (ensure_after other m i block env standing o st)
  ensure_close i block env standing (Answer v) st = close.use' _ standing _
  ensure_close i block env standing (Go g v) st = close.use' _ standing _
  ensure_close i block env standing (Stop l) st = close_itself (Yields (Stop l) st)

  curtail_close : (i : ℕ) (block : Value) (env : Env) (standing : List Mark) (o : Outcome) (st : State) → Close (curtail_after p n i block env standing o st) (curtail_after other m i block env standing o st)
  curtail_close i block env standing (Answer v) st = refl
  curtail_close i block env standing (Go g v) st = close.use' _ standing _
  curtail_close i block env standing (Stop l) st = close_itself (Yields (Stop l) st)

  visit_after_close : (i : ℕ) (l : LoopState) (env : Env) (standing : List Mark) (o : Outcome) (st : State) → Close (visit_after p n i l env standing o st) (visit_after other m i l env standing o st)
  visit_after_close i l env standing (Answer v) st =
      subst (λ x. Close (n.use' (VisitBy i (next_visit p st.store l v) env) standing st) (m.use' (VisitBy i x env) standing st)) (next_visit_same p limit st.store l v) (close.use' _ standing st)
  visit_after_close i l env standing (Go g v) st = refl
  visit_after_close i l env standing (Stop x) st = close_itself (Yields (Stop x) st)

  visit_close : (i : ℕ) (v : Visit) (env : Env) (standing : List Mark) (st : State) → Close (visit p n i v env standing st) (visit other m i v env standing st)
  unfolding number_of
  visit_close i (Applies l v args) env standing st = handle_close _ _ _ _ (close.use' _ _ st) (λ o s. visit_after_close i l env standing o s) (λ s. refl) (λ t o s h. visit_after_from other m grows t i l env standing o s h)
  visit_close i (Compares l r v) env standing st = handle_close _ _ _ _ (close.use' _ _ st) (λ o s. visit_after_close i l env standing o s) (λ s. refl) (λ t o s h. visit_after_from other m grows t i l env standing o s h)
  visit_close i (Finishes v) env standing st = refl
  visit_close i (Lacks l) env standing st = handle_close _ _ _ _ (close.use' _ _ st) (λ o s. visit_after_close i l env standing o s) (λ s. refl) (λ t o s h. visit_after_from other m grows t i l env standing o s h)
  visit_close i (Charges cells s v) env standing st = used_close p limit le cells st _ _ (λ st1. visit_close i v env standing _)

  perform_close : (a : Action) (env : Env) (standing : List Mark) (st : State) → Close (perform p n a env standing st) (perform other m a env standing st)
  unfolding number_of
  perform_close (Gives v) env standing st = refl
  perform_close (Changes s v) env standing st = refl
  perform_close (Makes cells s v) env standing st = used_close p limit le cells st _ _ (λ st1. refl)
  perform_close (Writes text v) env standing st = refl
  perform_close (Fails trouble) env standing st = close.use' _ standing st
  perform_close (DividesByZero dividend) env standing st = close.use' _ standing st
  perform_close PassesIntegers env standing st = refl
  perform_close (BeginsWith v args) env standing st = close.use' _ standing st
  perform_close (Activates c args) env standing st = close.use' _ standing st
  perform_close (Sends selector r args) env standing st = close.use' _ standing st
  perform_close (Misses selector r args) env standing st =
      used_close p limit le (1 + length args) st _ _ (λ st1. used_close p limit le 3 _ _ _ (λ st3. close.use' _ standing _))
  perform_close (Enters code r args) env standing st = close.use' _ standing st
  perform_close (Guards receiver selector handler) env standing st = stood_close p limit le standing st _ _ (λ st1. close.use' _ standing _)
  perform_close (Ensures receiver block) env standing st =
      stood_close p limit le standing st _ _ (λ st1.
      handle_close _ _ _ _ (close.use' _ _ _) (λ o s. ensure_close st.next block env standing o s) (λ s. refl) (λ t o s h. ensure_from other m grows t st.next block env standing o s h))
  perform_close (Curtails receiver block) env standing st =
      stood_close p limit le standing st _ _ (λ st1.
      handle_close _ _ _ _ (close.use' _ _ _) (λ o s. curtail_close st.next block env standing o s) (λ s. refl) (λ t o s h. curtail_from other m grows t st.next block env standing o s h))
  perform_close (Iterates l) env standing st =
      stood_close p limit le standing st _ _ (λ st1.
      subst (λ x. Close (n.use' (VisitBy st.next (first_visit p st1.store l) env) standing st1) (m.use' (VisitBy st.next x env) standing st1)) (first_visit_same p limit st1.store l) (close.use' _ standing st1))
  perform_close (Raises s e) env standing st = close.use' _ standing _
  perform_close (RaisesNew c slots) env standing st = close.use' _ standing st
  perform_close (Controls c e v) env standing st = control_close (turn_of e standing) c v env standing st
  perform_close (Terminates v) env standing st = refl

  module _ (f : Frame) (env : Env) (standing : List Mark) where
    leave_close : (c : Kind) (d : Bool) (v : Value) (st : State) → Close (leave p n f env standing c d v st) (leave other m f env standing c d v st)
    leave_close InMethod d v st = refl
    leave_close InInitializer d v st = refl
    leave_close InBlock true v st = refl
    leave_close InBlock false v st = handle_close _ _ _ _ (close.use' _ standing _) (λ o s. close_itself (Yields (left_end f o) s)) (λ s. refl) (λ t o s h. h)

    args_close : (row : Trees) (vs : List Value) (k l : List Value → State → Result) (st : State) → ((ws : List Value) (st1 : State) → Close (k ws st1) (l ws st1)) → ((t : _) (ws : List Value) (st1 : State) → Since t st1 → From t (l ws st1)) → Close (eval_args p n f env standing row vs k st) (eval_args other m f env standing row vs l st)
    args_close no_trees vs k l st h g = h vs st
    args_close (more_trees e row) vs k l st h g = value_close _ _ _ _ (close.tree e f env standing st) (λ v st1. args_close row (v ∷ vs) k l st1 h g) (λ t v st1 h1. args_from other m grows t f env standing row (v ∷ vs) l st1 h1 (g t))

    messages_close : (to : ℕ → Value → List Value → Use) (row : Messages) (r v : Value) (st : State) → Close (eval_messages p n f env standing to row r v st) (eval_messages other m f env standing to row r v st)
    messages_close to no_messages r v st = refl
    messages_close to (more_messages selector args row) r v st =
        args_close args [] _ _ st
        (λ ws st1. value_close _ _ _ _ (close.use' _ standing st1) (λ w st2. messages_close to row r w st2) (λ t w st2 h. messages_from other m grows t f env standing to row r w st2 h))
        (λ t ws st1 h. value_from t _ _ (grows.use' t _ standing st1 h) (λ w st2 h2. messages_from other m grows t f env standing to row r w st2 h2))

    eval_close : (e : Tree) (st : State) → Close (eval p n f env standing e st) (eval other m f env standing e st)
    unfolding read_place write_place class_at
    eval_close (Constant v) st = refl
    eval_close Self st = refl
    eval_close (Variable place) st = refl
    eval_close (Assign place e) st = value_close _ _ _ _ (close.tree e f env standing st) (λ v st1. refl) (λ t v st1 h. written_since other t f st1 place v h)
    eval_close (Block code) st = used_close p limit le 2 st _ _ (λ st1. refl)
    eval_close (Send selector e args) st =
        value_close _ _ _ _ (close.tree e f env standing st) (λ r st1. args_close args [] _ _ st1 (λ ws st2. close.use' _ standing st2) (λ t ws st2 h. grows.use' t _ standing st2 h)) (λ t r st1 h. args_from other m grows t f env standing args [] _ st1 h (λ ws st2 h2. grows.use' t _ standing st2 h2))
    eval_close (SuperSend selector args) st = args_close args [] _ _ st (λ ws st1. close.use' _ standing st1) (λ t ws st1 h. grows.use' t _ standing st1 h)
    eval_close (Cascade e messages) st =
        value_close _ _ _ _ (close.tree e f env standing st) (λ r st1. messages_close (λ selector r' args. SendTo selector r' args env) messages r r st1) (λ t r st1 h. messages_from other m grows t f env standing (λ selector r' args. SendTo selector r' args env) messages r r st1 h)
    eval_close (SuperCascade messages) st = messages_close (λ selector r args. SuperTo f.class selector r args env) messages f.self f.self st

    body_close : (row : List Statement) (v : Value) (st : State) → Close (eval_body p n f env standing row v st) (eval_body other m f env standing row v st)
    body_close [] v st = refl
    body_close (Plain e ∷ row) v st = value_close _ _ _ _ (close.tree e f env standing st) (λ w st1. body_close row w st1) (λ t w st1 h. body_from other m grows t f env standing row w st1 h)
    body_close (Return e ∷ row) v st = value_close _ _ _ _ (close.tree e f env standing st) (λ w st1. leave_close f.kind (stands f.home standing) w st1) (λ t w st1 h. leave_from other m grows t f env standing f.kind (stands f.home standing) w st1 h)

  rule_close : (u : Use) (standing : List Mark) (st : State) → Close (rule p n u standing st) (rule other m u standing st)
  unfolding number_of closure_for body_at
  rule_close (Apply v args env) standing st = close.use' _ standing st
  rule_close (Activate c args env) standing st = step_close p limit le st _ _ (λ st1. opened_close _ standing st1) (λ t st1 h. opened_from other m grows t _ standing st1 h)
  rule_close (Enter code r args env) standing st = opened_close _ standing st
  rule_close (SendTo selector r args env) standing st =
      step_close p limit le st _ _ (λ st1.
      subst (λ a. Close (n.use' (Perform (send_action p st1.store selector r args) env) standing st1) (m.use' (Perform a env) standing st1)) (send_same p limit st1.store selector r args) (close.use' _ standing st1)) (λ t st1 h. grows.use' t _ standing st1 h)
  rule_close (SuperTo c selector r args env) standing st =
      step_close p limit le st _ _ (λ st1.
      subst (λ a. Close (n.use' (Perform (super_action p st1.store c selector r args) env) standing st1) (m.use' (Perform a env) standing st1)) (super_same p limit st1.store c selector r args) (close.use' _ standing st1)) (λ t st1 h. grows.use' t _ standing st1 h)
  rule_close (Perform a env) standing st = perform_close a env standing st
  rule_close (Raise e env) standing st = raise_close (is_live e standing) e env standing st
  rule_close (RaiseNew c slots env) standing st = raise_new_close c slots env standing st
  rule_close (SignalPoint i e env) standing st = handle_close _ _ _ _ (close.use' _ _ _) (λ o s. signal_by_close i e (signal_end i o) env standing s) (λ s. refl) (λ t o s h. signal_by_from other m grows t i e (signal_end i o) env standing s h)
  rule_close (Resignaled i e f env) standing st = handle_close _ _ _ _ (close.use' _ _ _) (λ o s. signal_by_close i e (signal_end i o) env standing s) (λ s. refl) (λ t o s h. signal_by_from other m grows t i e (signal_end i o) env standing s h)
  rule_close (SearchIn x rest) standing st = search_close x rest standing st
  rule_close (TurnBy x entry outside) standing st = turn_close (asks_nested x) x entry outside standing st
  rule_close (Ask w k x env) standing st =
      stood_close p limit le standing st _ _ (λ st1.
      handle_close _ _ _ _ (close.use' _ _ st1) (λ o s. wait_close w k x env standing o s) (λ s. refl) (λ t o s h. wait_from other m grows t w k x env standing o s h))
  rule_close (Protect receiver entry env) standing st = handle_close _ _ _ _ (close.use' _ _ st) (λ o s. protect_close (protect_end entry.number receiver o) entry env standing s) (λ s. refl) (λ t o s h. protect_from other m grows t (protect_end entry.number receiver o) entry env standing s h)
  rule_close (Finish i block held env) standing st = handle_close _ _ _ _ (close.use' _ _ st) (λ o s. close_itself (Yields (action_end held o) (ended i (action_end held o) s))) (λ s. refl) (λ t o s h. action_end_from other m grows t i held o s h)
  rule_close (VisitBy i v env) standing st = visit_close i v env standing st
  rule_close (RunBody f env) standing st = handle_close _ _ _ _ (body_close f env (BodyMark f.own ∷ standing) (body_at p f.code).statements Nil st) (λ o s. close_itself (Yields (body_end f o) s)) (λ s. refl) (λ t o s h. h)

  pub run_close : (xs : List Initializer) (st : State) → Close (run_from p n xs st) (run_from other m xs st)
  unfolding body_at
  run_close [] st = refl
  run_close (x ∷ xs) st = value_close _ _ _ _ (opened_close (initializer_opening p x st.next) [] st) (λ v st1. run_close xs (kept_value x.target v st1)) (λ t v st1 h. run_grows other m grows t xs (kept_value x.target v st1) (kept_since t x.target v st1 h))

pub close_at : (p : Program) (limit : ℕ) → p.step_limit ≤ limit → (i : ℕ) → Closer (at_index p i) (at_index (with_step_limit p limit) i)
unfolding at_index
close_at p limit le zero = record { use' = λ u standing st. tt; tree = λ t f env standing st. tt }
close_at p limit le (suc i) =
    let close = close_at p limit le i in
    record {
      use' = λ u standing st. rule_close p limit le (at_index p i) (at_index (with_step_limit p limit) i) close (grows_at (with_step_limit p limit) i) u standing st;
      tree = λ t f env standing st. eval_close p limit le (at_index p i) (at_index (with_step_limit p limit) i) close (grows_at (with_step_limit p limit) i) f env standing t st;
    }
