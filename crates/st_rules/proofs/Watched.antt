-- The target of every unwinding stands, or the unwinding ends the program: a law for each rule. So rules that give up where a target doesn't stand do what the rules do.
use Rattle.std.proofs.Common.{◌≡◌, ℕ, zero, suc, ◌+◌, ◌≤◌, inl, inr, length, List, [], ◌∷◌, Option, Some, None, Bool, true, false, refl, sym, ap, subst, arith, ◌∙◌, max, eq-eqb, nat_lt, nat_le, if◌then◌else◌}
use Rattle.object_heap.specs.declared.value.Value.{Value}
use Rattle.object_heap.specs.declared.value.Value.TheVariants.{Nil, Object}
use Rattle.object_heap.specs.declared.value.Closure.{Closure}
use Rattle.object_heap.specs.declared.trouble.Trouble.{Trouble}
use Rattle.object_heap.specs.Store.{object_at}
use Rattle.st_code.specs.Program.{Tree, Constant, Self, Variable, Assign, Block, Send, SuperSend, Cascade, SuperCascade, Trees, no_trees, more_trees, Messages, no_messages, more_messages, Statement, Plain, Return, Kind, InMethod, InBlock, InInitializer, Program, body_at, Initializer, Place}
use Rattle.st_code.specs.Messages.{Control}
use Rattle.st_code.specs.Lookup.{is_plain, fits, is_exception}
use Rattle.st_collections.specs.Actions.{Action, Gives, Changes, Makes, Writes, Fails, DividesByZero, PassesIntegers, Begins, Activates, Sends, Misses, Enters, Guards, Ensures, Curtails, Iterates, Raises, RaisesNew, Controls, Terminates, LoopState, Visit, Applies, Compares, Finishes, Lacks, Charges, with_new}
use Rattle.st_collections.specs.Kinds.{is_true}
use Rattle.st_collections.specs.Loops.{first_visit, next_visit}
use Rattle.st_rules.specs.State.{State, Entry, Env, Target, Home, Protected, Retry, RetryWith, Resume, Resignal, Terminate, Outcome, Answer, Go, Stop, step_made, stood, used, Turn, Mark, BodyMark, ProtectMark, ActionMark, LoopMark, WaitMark, OuterMark, SignalMark, TurnMark, Frame, number_of_mark, is_at_signal, scope_cells, with_scope, stands, is_live, FoundTurn, NoTurn, TurnAt, turn_of}
use Rattle.st_rules.specs.Ends.{Result, Yields, NoIndex, charged, handle, then_value, ended, write_place, with_block, with_arguments, with_message, with_opened, Opening, block_opening, method_opening, initializer_opening, SignalVerdict, Ends, Signals, signal_end, Verdict, Leaves, Again, protect_end, action_end, turn_end, outer_end, left_end, Search, Purpose, ForPass, ForOuter, ForNested, signal_search, turn_search, turn_for, asks_nested, Wait, ToResume, ToOuter, onto}
use Rattle.st_rules.specs.Rules.{Use, Apply, Activate, Enter, SendTo, SuperTo, Perform, Raise, RaiseNew, SignalPoint, Resignaled, SearchIn, TurnBy, Ask, Protect, Finish, VisitBy, RunBody, Next, closure_for, fail, apply_by, handler_by, with_exception, exception_cells, opened, signal_by, signal_after, raise, raise_new, tried, handles_after, judged, search, turn_by, turn_after, outer_after, pass, asked, wait_after, resignal, resignal_as, control_by, control_without, control_in, control, protect_by, finish, ensure_after, curtail_after, visit_after, visit, perform, leave, eval_args, eval_messages, eval, eval_body, rule, at_index}
use Rattle.st_rules.specs.Runs.{run_from, first_state, kept_value}
use Rattle.st_rules.proofs.SameVisits.{next_visit_free, first_visit_free}
use Rattle.st_rules.proofs.FlatControl.{visit_held}
use Rattle.st_rules.specs.Unwindings.{Stands, In, IsBody, IsProtect, IsPoint, IsSource}
use Rattle.st_rules.proofs.Targets.{AimedAt, EnvOk, EntryOk, TurnOk, MarkOk, Under, Ok, NumberOk, env_more, turn_more, homes_new, ok_later, ok_push, ok_body, ok_drop, number_next, number_again, home_stands, FoundOk, turn_found, Passes, passed_on, body_ends, outer_ends, SignalAimed, signal_ends, ProtectAimed, protect_ends}
use Rattle.st_rules.proofs.AimedActions.{ActionOk, There', there_for, send_fine, super_fine}
use Rattle.st_rules.specs.Watched.{any_mark, is_body, is_protect, is_point, is_source, target_stands, watched_result, watched_index, RulesTargetsStand}
use Rattle.st_rules.proofs.AimedResults.{Aimed, Fit}
use Rattle.st_rules.proofs.Aims.{PurposeOk, SearchOk, VisitOk, visit_ok, BodyOk, UseOk, FrameOk, fresh_home, turn_begun, there_more, if_default, place_kept}

-- two results that are one, which is aimed
abbrev pub Same : ℕ → List Mark → Result → Result → Type 0
Same b s x y = (x ≡ y) × Aimed b s x

later_same : (n m : ℕ) (s : List Mark) (x y : Result) → n ≤ m → Same m s x y → Same n s x y
later_same n m s (Yields o st) y le h = (h.0, (h.1.0, h.1.1, omega (arith, h.1.2, le)))
later_same n m s NoIndex y le h = (h.0, tt)

handle_same : (n : ℕ) (inner outer : List Mark) (x y : Result) (k k' : Outcome → State → Result) → Same n inner x y → ((o : Outcome) (st : State) → AimedAt o inner → Fit inner st → n ≤ st.next → Same n outer (k o st) (k' o st)) → Same n outer (handle x k) (handle y k')
handle_same n inner outer (Yields o st) y k k' h on = subst (λ z. Same n outer (k o st) (handle z k')) h.0 (on o st h.1.0 h.1.1 h.1.2)
handle_same n inner outer NoIndex y k k' h on = subst (λ z. Same n outer NoIndex (handle z k')) h.0 (refl, tt)

value_same : (n : ℕ) (s : List Mark) (x y : Result) (k k' : Value → State → Result) → Same n s x y → ((v : Value) (st : State) → Fit s st → n ≤ st.next → Same n s (k v st) (k' v st)) → Same n s (then_value x k) (then_value y k')
value_same n s (Yields (Answer v) st) y k k' h on = subst (λ z. Same n s (k v st) (then_value z k')) h.0 (on v st h.1.1 h.1.2)
value_same n s (Yields (Go t v) st) y k k' h on = subst (λ z. Same n s (Yields (Go t v) st) (then_value z k')) h.0 (refl, h.1)
value_same n s (Yields (Stop l) st) y k k' h on = subst (λ z. Same n s (Yields (Stop l) st) (then_value z k')) h.0 (refl, h.1)
value_same n s NoIndex y k k' h on = subst (λ z. Same n s NoIndex (then_value z k')) h.0 (refl, tt)

told_same : (n i : ℕ) (s : List Mark) (o : Outcome) (st : State) → AimedAt o s → Fit s st → n ≤ st.next → Same n s (Yields o (ended i o st)) (Yields o (ended i o st))
told_same n i s (Answer v) st a h le = (refl, (a, h, le))
told_same n i s (Go t v) st a h le = (refl, (a, h, le))
told_same n i s (Stop l) st a h le = (refl, (a, h, le))

module _ (p : Program) where
  step_same : (n : ℕ) (s : List Mark) (st : State) (r : Result) (k k' : State → Result) → Aimed n s r → ((m : ℕ) → Same n s (k (record st { steps = m })) (k' (record st { steps = m }))) → Same n s (charged (step_made p st) r k) (charged (step_made p st) r k')
  unfolding step_made
  step_same n s st r k k' stop on = go (nat_lt st.steps p.step_limit)
    where
      go : (c : Bool) → Same n s (charged (if c then Some (record st { steps = st.steps + 1 }) else None) r k) (charged (if c then Some (record st { steps = st.steps + 1 }) else None) r k')
      go true = on _
      go false = (refl, stop)

  stood_same : (n : ℕ) (s standing : List Mark) (st : State) (r : Result) (k k' : State → Result) → Aimed n s r → ((d : ℕ) → Same n s (k (record st { depth = d; next = st.next + 1 })) (k' (record st { depth = d; next = st.next + 1 }))) → Same n s (charged (stood p standing st) r k) (charged (stood p standing st) r k')
  unfolding stood
  stood_same n s standing st r k k' stop on = go (nat_le (length standing + 1) p.depth_limit)
    where
      go : (c : Bool) → Same n s (charged (if c then Some (record st { depth = max st.depth (length standing + 1); next = st.next + 1 }) else None) r k) (charged (if c then Some (record st { depth = max st.depth (length standing + 1); next = st.next + 1 }) else None) r k')
      go true = on _
      go false = (refl, stop)

  used_same : (n : ℕ) (s : List Mark) (cells : ℕ) (st : State) (r : Result) (k k' : State → Result) → Aimed n s r → ((c : ℕ) → Same n s (k (record st { cells = c })) (k' (record st { cells = c }))) → Same n s (charged (used p cells st) r k) (charged (used p cells st) r k')
  unfolding used
  used_same n s cells st r k k' stop on = go (nat_le (st.cells + cells) p.cell_limit)
    where
      go : (c : Bool) → Same n s (charged (if c then Some (record st { cells = st.cells + cells }) else None) r k) (charged (if c then Some (record st { cells = st.cells + cells }) else None) r k')
      go true = on _
      go false = (refl, stop)

-- rules that agree wherever a use is as it should be
pub record Agree (n m : Next) : Type 0 where
  pub use' : (u : Use) (s : List Mark) (st : State) → Fit s st → UseOk s st.next st.store.closures u → Same st.next s (n.use' u s st) (m.use' u s st)
  pub tree : (e : Tree) (f : Frame) (env : Env) (s : List Mark) (st : State) → Fit s st → EnvOk env s → FrameOk f s st.next → Same st.next s (n.tree e f env s st) (m.tree e f env s st)

module _ (p : Program) (n m : Next) (aims : Agree n m) where
  -- a use in the state that an outcome left, or after charges
  after : (b : ℕ) (u : Use) (s : List Mark) (st : State) → b ≤ st.next → Fit s st → UseOk s st.next st.store.closures u → Same b s (n.use' u s st) (m.use' u s st)
  after b u s st le h k = later_same b st.next s _ _ le (aims.use' u s st h k)

  -- with the next number taken
  taken : (s : List Mark) (next : ℕ) (cs : List Closure) → Ok s next cs → Ok s (next + 1) cs
  taken s next cs h = ok_later s next (next + 1) cs (omega arith) h

  pushed_next : (m : Mark) (s : List Mark) (next : ℕ) (cs : List Closure) → Ok s next cs → number_of_mark m ≡ next → MarkOk m s → Ok (m ∷ s) (next + 1) cs
  pushed_next m s next cs h e i = ok_push m s (next + 1) cs (taken s next cs h) (subst (λ k. NumberOk k s (next + 1) cs) (sym e) (number_next s next cs h)) i

  opened_same : (x : Opening) (s : List Mark) (st : State) → Fit s st → BodyOk x.own x.home x.env s (st.next + 1) → Same st.next s (opened p n x s st) (opened p m x s st)
  unfolding with_opened with_scope
  opened_same x s st h b =
      stood_same p st.next s s st _ _ _ (tt, h, omega arith) (λ d.
      used_same p st.next s (scope_cells (body_at p x.code)) _ _ _ _ (tt, taken s st.next st.store.closures h, omega arith) (λ c.
      after st.next (RunBody _ x.env) s _ (omega arith) (taken s st.next st.store.closures h) b))

  signal_by_same : (b i e : ℕ) (d : SignalVerdict) (env : Env) (s : List Mark) (st : State) → b ≤ st.next → SignalAimed d s → Fit s st → EnvOk env s → NumberOk i s st.next st.store.closures → Same b s (signal_by p n i e d env s st) (signal_by p m i e d env s st)
  signal_by_same b i e (Ends o) env s st le a h v k = told_same b i s o st a h le
  signal_by_same b i e (Signals f) env s st le a h v k = after b (Resignaled i e f env) s st le h (v, k)

  -- what a signal point makes of an outcome
  signal_takes : (b i e : ℕ) (env : Env) (s : List Mark) → EnvOk env s → Under i s → (o : Outcome) (st : State) → AimedAt o (SignalMark i e ∷ s) → Fit (SignalMark i e ∷ s) st → b ≤ st.next → Same b s (signal_after p n i e env s o st) (signal_after p m i e env s o st)
  signal_takes b i e env s v above o st a h le =
      signal_by_same b i e (signal_end i o) env s st le (signal_ends i e o s a) (ok_drop (SignalMark i e) s st.next st.store.closures h) v (number_again (SignalMark i e) s st.next st.store.closures h above (λ k x. x))

  raise_same : (live : Bool) (e : ℕ) (env : Env) (s : List Mark) (st : State) → Fit s st → EnvOk env s → Same st.next s (raise p n live e env s st) (raise p m live e env s st)
  raise_same true e env s st h v = aims.use' _ s st h v
  raise_same false e env s st h v =
      stood_same p st.next s s st _ _ _ (tt, h, omega arith) (λ d.
      after st.next (SignalPoint st.next e env) s _ (omega arith) (taken s st.next st.store.closures h) (v, number_next s st.next st.store.closures h))

  raise_new_same : (c : ℕ) (slots : List Value) (env : Env) (s : List Mark) (st : State) → Fit s st → EnvOk env s → Same st.next s (raise_new p n c slots env s st) (raise_new p m c slots env s st)
  unfolding with_exception with_new
  raise_new_same c slots env s st h v =
      stood_same p st.next s s st _ _ _ (tt, h, omega arith) (λ d.
      used_same p st.next s (exception_cells p c) _ _ _ _ (tt, taken s st.next st.store.closures h, omega arith) (λ u.
      after st.next (SignalPoint st.next _ env) s _ (omega arith) (taken s st.next st.store.closures h) (v, number_next s st.next st.store.closures h)))

  tried_same : (b : ℕ) (a : Bool) (x : Search) (entry : Entry) (rest : Env) (s : List Mark) (st : State) → b ≤ st.next → Fit s st → In (IsProtect entry.number) s → EnvOk rest s → SearchOk x s → Same b s (tried p n a x entry rest s st) (tried p m a x entry rest s st)
  tried_same b true x entry rest s st le h e v k = after b (TurnBy x (Some entry) rest) s _ le h (e, v, k)
  tried_same b false x entry rest s st le h e v k = after b (SearchIn x rest) s _ le h (v, k)

  passes_wait : (i : ℕ) → Passes (WaitMark i)
  passes_wait i m = (λ x. x, λ x. x, λ x. x, λ x. x)

  passes_turn : (i : ℕ) (t : Turn) → Passes (TurnMark i t)
  passes_turn i t m = (λ x. x, λ x. x, λ x. x, λ x. x)

  passes_action : (i : ℕ) → Passes (ActionMark i)
  passes_action i m = (λ x. x, λ x. x, λ x. x, λ x. x)

  passes_loop : (i : ℕ) → Passes (LoopMark i)
  passes_loop i m = (λ x. x, λ x. x, λ x. x, λ x. x)

  handles_same : (b i : ℕ) (x : Search) (entry : Entry) (rest : Env) (s : List Mark) → In (IsProtect entry.number) s → EnvOk rest s → SearchOk x s → (o : Outcome) (st : State) → AimedAt o (WaitMark i ∷ s) → Fit (WaitMark i ∷ s) st → b ≤ st.next → Same b s (handles_after p n i x entry rest s o st) (handles_after p m i x entry rest s o st)
  handles_same b i x entry rest s e v k (Answer w) st a h le = tried_same b (is_true w) x entry rest s _ le (ok_drop (WaitMark i) s st.next st.store.closures h) e v k
  handles_same b i x entry rest s e v k (Go t w) st a h le = (refl, (passed_on (WaitMark i) t s (passes_wait i) a, ok_drop (WaitMark i) s st.next st.store.closures h, le))
  handles_same b i x entry rest s e v k (Stop l) st a h le = (refl, (tt, ok_drop (WaitMark i) s st.next st.store.closures h, le))

  judged_same : (a : Bool) (x : Search) (entry : Entry) (rest : Env) (s : List Mark) (st : State) → Fit s st → In (IsProtect entry.number) s → EnvOk rest s → SearchOk x s → Same st.next s (judged p n a x entry rest s st) (judged p m a x entry rest s st)
  judged_same true x entry rest s st h e v k = tried_same st.next (fits p st.store entry.selector (object_at x.exception st.store).class) x entry rest s st (omega arith) h e v k
  judged_same false x entry rest s st h e v k =
      stood_same p st.next s s st _ _ _ (tt, h, omega arith) (λ d.
      handle_same st.next (WaitMark st.next ∷ s) s _ _ _ _ (after st.next (SendTo _ entry.selector _ rest) (WaitMark st.next ∷ s) _ (omega arith) (pushed_next (WaitMark st.next) s st.next st.store.closures h refl tt) (env_more rest (WaitMark st.next) s v)) (handles_same st.next st.next x entry rest s e v k))

  search_same : (x : Search) (rest : Env) (s : List Mark) (st : State) → Fit s st → EnvOk rest s → SearchOk x s → Same st.next s (search p n x rest s st) (search p m x rest s st)
  search_same x [] s st h v k = aims.use' (TurnBy x None x.whole) s st h (tt, k.whole, k)
  search_same x (entry ∷ rest) s st h v k = judged_same (is_plain p st.store entry.selector) x entry rest s st h v.0 v.1 k

  handler_same : (b : ℕ) (o : Option Closure) (handler : Value) (e : ℕ) (env : Env) (s : List Mark) (st : State) → b ≤ st.next → Fit s st → EnvOk env s → There' o s st.next → Same b s (n.use' (handler_by o handler e env) s st) (m.use' (handler_by o handler e env) s st)
  handler_same b None handler e env s st le h v t = after b (Apply handler _ env) s st le h v
  handler_same b (Some c) handler e env s st le h v t = after b (Activate c [] env) s st le h (v, t.0, t.1)

  turn_takes : (b i : ℕ) (t : Turn) (s : List Mark) → EntryOk t.entry s → In (IsPoint t.resume_point) s → (o : Outcome) (st : State) → AimedAt o (TurnMark i t ∷ s) → Fit (TurnMark i t ∷ s) st → b ≤ st.next → Same b s (turn_after p n i t s o st) (turn_after p m i t s o st)
  turn_takes b i t s e r (Answer v) st a h le = told_same b i s (turn_end t s (Answer v)) st (turn_aimed t.entry e v) (ok_drop (TurnMark i t) s st.next st.store.closures h) le
    where
      default_aimed : (c : Bool) (v : Value) → AimedAt (if_default c t.resume_point v) s
      default_aimed true v = tt
      default_aimed false v = r

      turn_aimed : (entry : Option Entry) → EntryOk entry s → (v : Value) → AimedAt (elim entry [ Some x ↦ Go (Target.Protected x.number) v | None ↦ if_default (is_at_signal t.signal s) t.resume_point v ]) s
      turn_aimed None e v = default_aimed (is_at_signal t.signal s) v
      turn_aimed (Some x) e v = e
  turn_takes b i t s e r (Go g v) st a h le = told_same b i s (Go g v) st (passed_on (TurnMark i t) g s (passes_turn i t) a) (ok_drop (TurnMark i t) s st.next st.store.closures h) le
  turn_takes b i t s e r (Stop l) st a h le = told_same b i s (Stop l) st tt (ok_drop (TurnMark i t) s st.next st.store.closures h) le

  turn_by_same : (a : Bool) (x : Search) (entry : Option Entry) (outside : Env) (s : List Mark) (st : State) → asks_nested x ≡ a → Fit s st → EntryOk entry s → EnvOk outside s → SearchOk x s → Same st.next s (turn_by p n a x entry outside s st) (turn_by p m a x entry outside s st)
  turn_by_same true x None outside s st q h e v k = (refl, (tt, h, omega arith))
  turn_by_same true x (Some entry) outside s st q h e v k = (refl, (tt, h, omega arith))
  turn_by_same false x None outside s st q h e v k =
      let t = turn_for x None outside in
      let t_ok = turn_begun x.exception x.who x.whole x.purpose None outside s k.purpose e v q in
      stood_same p st.next s s st _ _ _ (tt, h, omega arith) (λ d.
      handle_same st.next (TurnMark st.next t ∷ s) s _ _ _ _ (after st.next (SendTo _ (Object x.exception) [] outside) (TurnMark st.next t ∷ s) _ (omega arith) (pushed_next (TurnMark st.next t) s st.next st.store.closures h refl t_ok) (env_more outside (TurnMark st.next t) s v)) (turn_takes st.next st.next t s t_ok.entry t_ok.resume))
  turn_by_same false x (Some entry) outside s st q h e v k =
      let t = turn_for x (Some entry) outside in
      let t_ok = turn_begun x.exception x.who x.whole x.purpose (Some entry) outside s k.purpose e v q in
      let found = there_for p s st.next st.store h.homes entry.handler 0 in
      stood_same p st.next s s st _ _ _ (tt, h, omega arith) (λ d.
      handle_same st.next (TurnMark st.next t ∷ s) s _ _ _ _ (handler_same st.next (closure_for p st.store entry.handler 0) entry.handler x.exception outside (TurnMark st.next t ∷ s) _ (omega arith) (pushed_next (TurnMark st.next t) s st.next st.store.closures h refl t_ok) (env_more outside (TurnMark st.next t) s v) (there_more (closure_for p st.store entry.handler 0) (TurnMark st.next t) s st.next refl found)) (turn_takes st.next st.next t s t_ok.entry t_ok.resume))

  -- ---- exception actions

  pass_same : (b k e : ℕ) (t : Turn) (purpose : Purpose) (s : List Mark) (st : State) → b ≤ st.next → Fit s st → TurnOk t s → PurposeOk purpose k s → Same b s (pass p n k e t purpose s st) (pass p m k e t purpose s st)
  pass_same b k e t purpose s st le h t_ok q = after b (SearchIn (turn_search k e t purpose) t.outside) s _ le h (t_ok.outside, record { whole = t_ok.outside; purpose = q })

  outer_takes : (b i : ℕ) (s : List Mark) (o : Outcome) (st : State) → AimedAt o (OuterMark i ∷ s) → Fit (OuterMark i ∷ s) st → b ≤ st.next → Same b s (outer_after p n i s o st) (outer_after p m i s o st)
  outer_takes b i s o st a h le = told_same b i s (outer_end i o) st (outer_ends i o s a) (ok_drop (OuterMark i) s st.next st.store.closures h) le

  asked_same : (b : ℕ) (a : Bool) (w : Wait) (k : ℕ) (t : Turn) (env : Env) (s : List Mark) (st : State) → b ≤ st.next → Fit s st → EnvOk env s → TurnOk t s → Same b s (asked p n a w k t env s st) (asked p m a w k t env s st)
  asked_same b true (ToResume v) k t env s st le h e t_ok = (refl, (t_ok.resume, h, le))
  asked_same b false (ToResume v) k t env s st le h e t_ok = after b (RaiseNew _ _ env) s st le h e
  asked_same b true ToOuter k t env s st le h e t_ok =
      stood_same p b s s st _ _ _ (tt, h, le) (λ d.
      handle_same b (OuterMark st.next ∷ s) s _ _ _ _ (pass_same b k t.exception t (ForOuter t st.next) (OuterMark st.next ∷ s) _ (omega (arith, le)) (pushed_next (OuterMark st.next) s st.next st.store.closures h refl tt) (turn_more t (OuterMark st.next) s t_ok) (turn_more t (OuterMark st.next) s t_ok, inl refl)) (outer_takes b st.next s))
  asked_same b false ToOuter k t env s st le h e t_ok = pass_same b k t.exception t (ForPass t) s st le h t_ok t_ok

  wait_takes : (b i : ℕ) (w : Wait) (k : ℕ) (t : Turn) (env : Env) (s : List Mark) → EnvOk env s → TurnOk t s → (o : Outcome) (st : State) → AimedAt o (WaitMark i ∷ s) → Fit (WaitMark i ∷ s) st → b ≤ st.next → Same b s (wait_after p n w k t env s o st) (wait_after p m w k t env s o st)
  wait_takes b i w k t env s e t_ok (Answer v) st a h le = asked_same b (is_true v) w k t env s st le (ok_drop (WaitMark i) s st.next st.store.closures h) e t_ok
  wait_takes b i w k t env s e t_ok (Go g v) st a h le = (refl, (passed_on (WaitMark i) g s (passes_wait i) a, ok_drop (WaitMark i) s st.next st.store.closures h, le))
  wait_takes b i w k t env s e t_ok (Stop l) st a h le = (refl, (tt, ok_drop (WaitMark i) s st.next st.store.closures h, le))

  fails : (env : Env) (trouble : Trouble) (s : List Mark) (st : State) → Fit s st → EnvOk env s → Same st.next s (n.use' (fail p trouble env) s st) (m.use' (fail p trouble env) s st)
  fails env trouble s st h e = aims.use' (fail p trouble env) s st h e

  resignal_same : (a live : Bool) (t : Turn) (f : ℕ) (v : Value) (env : Env) (s : List Mark) (st : State) → Fit s st → EnvOk env s → TurnOk t s → Same st.next s (resignal p n a live t f v env s st) (resignal p m a live t f v env s st)
  resignal_same false live t f v env s st h e t_ok = aims.use' _ s st h e
  resignal_same true true t f v env s st h e t_ok = aims.use' _ s st h e
  resignal_same true false t f v env s st h e t_ok = (refl, (t_ok.signal, h, omega arith))

  resignal_as_same : (t : Turn) (v : Value) (env : Env) (s : List Mark) (st : State) → Fit s st → EnvOk env s → TurnOk t s → Same st.next s (resignal_as p n t v env s st) (resignal_as p m t v env s st)
  resignal_as_same t (Object f) env s st h e t_ok = resignal_same (is_exception p st.store (Object f)) (is_live f s) t f (Object f) env s st h e t_ok
  resignal_as_same t v env s st h e t_ok = aims.use' _ s st h e

  control_by_same : (c : Control) (v : Value) (k : ℕ) (t : Turn) (entry : Entry) (env : Env) (s : List Mark) (st : State) → Fit s st → EnvOk env s → TurnOk t s → In (IsProtect entry.number) s → Same st.next s (control_by p n c v k t entry env s st) (control_by p m c v k t entry env s st)
  control_by_same Control.Return v k t entry env s st h e t_ok i = (refl, (i, h, omega arith))
  control_by_same Control.Retry v k t entry env s st h e t_ok i = (refl, (i, h, omega arith))
  control_by_same Control.RetryUsing v k t entry env s st h e t_ok i = (refl, (i, h, omega arith))
  control_by_same Control.Resume v k t entry env s st h e t_ok i = aims.use' (Ask (ToResume v) k t env) s st h (e, t_ok)
  control_by_same Control.Pass v k t entry env s st h e t_ok i = pass_same st.next k t.exception t (ForPass t) s st (omega arith) h t_ok t_ok
  control_by_same Control.Outer v k t entry env s st h e t_ok i = aims.use' (Ask ToOuter k t env) s st h (e, t_ok)
  control_by_same Control.ResignalAs v k t entry env s st h e t_ok i = resignal_as_same t v env s st h e t_ok
  control_by_same Control.IsNested v k t entry env s st h e t_ok i = pass_same st.next k t.exception t ForNested s st (omega arith) h t_ok tt

  control_without_same : (c : Control) (v : Value) (k : ℕ) (t : Turn) (env : Env) (s : List Mark) (st : State) → Fit s st → EnvOk env s → TurnOk t s → Same st.next s (control_without p n c v k t env s st) (control_without p m c v k t env s st)
  control_without_same Control.Resume v k t env s st h e t_ok = aims.use' (Ask (ToResume v) k t env) s st h (e, t_ok)
  control_without_same c v k t env s st h e t_ok = aims.use' _ s st h e

  control_in_same : (entry : Option Entry) (c : Control) (v : Value) (k : ℕ) (t : Turn) (env : Env) (s : List Mark) (st : State) → Fit s st → EnvOk env s → TurnOk t s → EntryOk entry s → Same st.next s (control_in p n entry c v k t env s st) (control_in p m entry c v k t env s st)
  control_in_same (Some entry) c v k t env s st h e t_ok i = control_by_same c v k t entry env s st h e t_ok i
  control_in_same None c v k t env s st h e t_ok i = control_without_same c v k t env s st h e t_ok

  control_same : (f : FoundTurn) (c : Control) (v : Value) (env : Env) (s : List Mark) (st : State) → Fit s st → EnvOk env s → FoundOk f s → Same st.next s (control p n f c v env s st) (control p m f c v env s st)
  control_same NoTurn c v env s st h e t_ok = aims.use' _ s st h e
  control_same (TurnAt k t) c v env s st h e t_ok = control_in_same t.entry c v k t env s st h e t_ok t_ok.entry

  -- ---- protection

  protect_by_same : (b : ℕ) (d : Verdict) (entry : Entry) (env : Env) (s : List Mark) (st : State) → b ≤ st.next → ProtectAimed d s → Fit s st → EnvOk env s → NumberOk entry.number s st.next st.store.closures → Same b s (protect_by p n d entry env s st) (protect_by p m d entry env s st)
  protect_by_same b (Leaves o) entry env s st le a h e k = told_same b entry.number s o st a h le
  protect_by_same b (Again receiver) entry env s st le a h e k = after b (Protect receiver entry env) s _ le h (e, k)

  protect_takes : (b : ℕ) (receiver : Value) (entry : Entry) (env : Env) (s : List Mark) → EnvOk env s → Under entry.number s → (o : Outcome) (st : State) → AimedAt o (ProtectMark entry.number ∷ s) → Fit (ProtectMark entry.number ∷ s) st → b ≤ st.next → Same b s (protect_by p n (protect_end entry.number receiver o) entry env s st) (protect_by p m (protect_end entry.number receiver o) entry env s st)
  protect_takes b receiver entry env s e above o st a h le =
      protect_by_same b (protect_end entry.number receiver o) entry env s st le (protect_ends entry.number receiver o s a) (ok_drop (ProtectMark entry.number) s st.next st.store.closures h) e (number_again (ProtectMark entry.number) s st.next st.store.closures h above (λ k x. x))

  finish_same : (b i : ℕ) (block : Value) (held : Outcome) (env : Env) (s : List Mark) (st : State) → b ≤ st.next → Fit (ActionMark i ∷ s) st → EnvOk env s → Under i s → AimedAt held s → Same b s (finish p n i block held env s st) (finish p m i block held env s st)
  finish_same b i block held env s st le h e above a =
      after b (Finish i block held env) s _ le (ok_drop (ActionMark i) s st.next st.store.closures h) (e, number_again (ActionMark i) s st.next st.store.closures h above (λ k x. x), a)

  ensure_takes : (b i : ℕ) (block : Value) (env : Env) (s : List Mark) → EnvOk env s → Under i s → (o : Outcome) (st : State) → AimedAt o (ActionMark i ∷ s) → Fit (ActionMark i ∷ s) st → b ≤ st.next → Same b s (ensure_after p n i block env s o st) (ensure_after p m i block env s o st)
  ensure_takes b i block env s e above (Answer v) st a h le = finish_same b i block (Answer v) env s st le h e above tt
  ensure_takes b i block env s e above (Go t v) st a h le = finish_same b i block (Go t v) env s st le h e above (passed_on (ActionMark i) t s (passes_action i) a)
  ensure_takes b i block env s e above (Stop l) st a h le = (refl, (tt, ok_drop (ActionMark i) s st.next st.store.closures h, le))

  curtail_takes : (b i : ℕ) (block : Value) (env : Env) (s : List Mark) → EnvOk env s → Under i s → (o : Outcome) (st : State) → AimedAt o (ActionMark i ∷ s) → Fit (ActionMark i ∷ s) st → b ≤ st.next → Same b s (curtail_after p n i block env s o st) (curtail_after p m i block env s o st)
  curtail_takes b i block env s e above (Answer v) st a h le = (refl, (tt, ok_drop (ActionMark i) s st.next st.store.closures h, le))
  curtail_takes b i block env s e above (Go t v) st a h le = finish_same b i block (Go t v) env s st le h e above (passed_on (ActionMark i) t s (passes_action i) a)
  curtail_takes b i block env s e above (Stop l) st a h le = (refl, (tt, ok_drop (ActionMark i) s st.next st.store.closures h, le))

  action_takes : (b i : ℕ) (held : Outcome) (s : List Mark) → AimedAt held s → (o : Outcome) (st : State) → AimedAt o (ActionMark i ∷ s) → Fit (ActionMark i ∷ s) st → b ≤ st.next → Same b s (Yields (action_end held o) (ended i (action_end held o) st)) (Yields (action_end held o) (ended i (action_end held o) st))
  action_takes b i held s k (Answer v) st a h le = told_same b i s held st k (ok_drop (ActionMark i) s st.next st.store.closures h) le
  action_takes b i held s k (Go t v) st a h le = told_same b i s (Go t v) st (passed_on (ActionMark i) t s (passes_action i) a) (ok_drop (ActionMark i) s st.next st.store.closures h) le
  action_takes b i held s k (Stop l) st a h le = told_same b i s (Stop l) st tt (ok_drop (ActionMark i) s st.next st.store.closures h) le

  -- ---- loops

  visit_takes : (b i : ℕ) (l : LoopState) (env : Env) (s : List Mark) → EnvOk env s → Under i s → (o : Outcome) (st : State) → AimedAt o (LoopMark i ∷ s) → Fit (LoopMark i ∷ s) st → b ≤ st.next → Same b s (visit_after p n i l env s o st) (visit_after p m i l env s o st)
  visit_takes b i l env s e above (Answer v) st a h le =
      let next = visit_ok p st.store.closures st.store.scopes (next_visit p st.store l v) (visit_held p st.store.closures st.store.scopes (next_visit p st.store l v) (next_visit_free p st.store st.store.closures st.store.scopes l v)) in
      after b (VisitBy i (next_visit p st.store l v) env) s st le (ok_drop (LoopMark i) s st.next st.store.closures h) (e, number_again (LoopMark i) s st.next st.store.closures h above (λ k x. x), next)
  visit_takes b i l env s e above (Go t v) st a h le = (refl, (passed_on (LoopMark i) t s (passes_loop i) a, ok_drop (LoopMark i) s st.next st.store.closures h, le))
  visit_takes b i l env s e above (Stop x) st a h le = (refl, (tt, ok_drop (LoopMark i) s st.next st.store.closures h, le))

  visit_same : (i : ℕ) (v : Visit) (env : Env) (s : List Mark) (st : State) → Fit s st → EnvOk env s → NumberOk i s st.next st.store.closures → VisitOk st.store.closures v → Same st.next s (visit p n i v env s st) (visit p m i v env s st)
  visit_same i (Applies l v args) env s st h e k q =
      handle_same st.next (LoopMark i ∷ s) s _ _ _ _ (aims.use' (Apply v args env) (LoopMark i ∷ s) st (ok_push (LoopMark i) s st.next st.store.closures h k tt) (env_more env (LoopMark i) s e)) (visit_takes st.next i l env s e k.above)
  visit_same i (Compares l r v) env s st h e k q =
      handle_same st.next (LoopMark i ∷ s) s _ _ _ _ (aims.use' (SendTo _ r (v ∷ []) env) (LoopMark i ∷ s) st (ok_push (LoopMark i) s st.next st.store.closures h k tt) (env_more env (LoopMark i) s e)) (visit_takes st.next i l env s e k.above)
  visit_same i (Finishes v) env s st h e k q = (refl, (tt, h, omega arith))
  visit_same i (Lacks l) env s st h e k q =
      handle_same st.next (LoopMark i ∷ s) s _ _ _ _ (aims.use' _ (LoopMark i ∷ s) st (ok_push (LoopMark i) s st.next st.store.closures h k tt) (env_more env (LoopMark i) s e)) (visit_takes st.next i l env s e k.above)
  visit_same i (Charges cells t v) env s st h e k q =
      used_same p st.next s cells st _ _ _ (tt, h, omega arith) (λ c.
      visit_same i v env s (record st { cells = c; store = t }) (subst (λ cs. Ok s st.next cs) (sym q.0) h) e (subst (λ cs. NumberOk i s st.next cs) (sym q.0) k) (subst (λ cs. VisitOk cs v) (sym q.0) q.1))

  -- ---- what a message does at once

  pushes : (m : Mark) (s : List Mark) (st : State) → Fit s st → number_of_mark m ≡ st.next → MarkOk m s → Ok (m ∷ s) (st.next + 1) st.store.closures
  pushes m s st h e i = pushed_next m s st.next st.store.closures h e i

  perform_same : (a : Action) (env : Env) (s : List Mark) (st : State) → Fit s st → EnvOk env s → ActionOk s st.next st.store.closures a → Same st.next s (perform p n a env s st) (perform p m a env s st)
  unfolding with_arguments with_message with_new
  perform_same (Gives v) env s st h e k = (refl, (tt, h, omega arith))
  perform_same (Changes t v) env s st h e k = (refl, (tt, subst (λ cs. Ok s st.next cs) (sym k) h, omega arith))
  perform_same (Makes cells t v) env s st h e k = used_same p st.next s cells st _ _ _ (tt, h, omega arith) (λ c. (refl, (tt, record { sound = h.sound; under = h.under; homes = k }, omega arith)))
  perform_same (Writes text v) env s st h e k = (refl, (tt, h, omega arith))
  perform_same (Fails trouble) env s st h e k = aims.use' _ s st h e
  perform_same (DividesByZero dividend) env s st h e k = aims.use' _ s st h e
  perform_same PassesIntegers env s st h e k = (refl, (tt, h, omega arith))
  perform_same (Begins v args) env s st h e k = aims.use' (Apply v args env) s st h e
  perform_same (Activates c args) env s st h e k = aims.use' (Activate c args env) s st h (e, k.0, k.1)
  perform_same (Sends selector r args) env s st h e k = aims.use' (SendTo selector r args env) s st h e
  perform_same (Misses selector r args) env s st h e k =
      used_same p st.next s (1 + length args) st _ _ _ (tt, h, omega arith) (λ c. used_same p st.next s 3 _ _ _ _ (tt, h, omega arith) (λ d. after st.next (SendTo _ r _ env) s _ (omega arith) h e))
  perform_same (Enters code r args) env s st h e k = aims.use' (Enter code r args env) s st h e
  perform_same (Guards receiver selector handler) env s st h e k =
      stood_same p st.next s s st _ _ _ (tt, h, omega arith) (λ d. after st.next (Protect receiver _ env) s _ (omega arith) (taken s st.next st.store.closures h) (e, number_next s st.next st.store.closures h))
  perform_same (Ensures receiver block) env s st h e k =
      stood_same p st.next s s st _ _ _ (tt, h, omega arith) (λ d.
      handle_same st.next (ActionMark st.next ∷ s) s _ _ _ _ (after st.next (Apply receiver [] env) (ActionMark st.next ∷ s) _ (omega arith) (pushes (ActionMark st.next) s st h refl tt) (env_more env (ActionMark st.next) s e)) (ensure_takes st.next st.next block env s e h.under))
  perform_same (Curtails receiver block) env s st h e k =
      stood_same p st.next s s st _ _ _ (tt, h, omega arith) (λ d.
      handle_same st.next (ActionMark st.next ∷ s) s _ _ _ _ (after st.next (Apply receiver [] env) (ActionMark st.next ∷ s) _ (omega arith) (pushes (ActionMark st.next) s st h refl tt) (env_more env (ActionMark st.next) s e)) (curtail_takes st.next st.next block env s e h.under))
  perform_same (Iterates l) env s st h e k =
      let first = visit_ok p st.store.closures st.store.scopes (first_visit p st.store l) (visit_held p st.store.closures st.store.scopes (first_visit p st.store l) (first_visit_free p st.store st.store.closures st.store.scopes l)) in
      stood_same p st.next s s st _ _ _ (tt, h, omega arith) (λ d. after st.next (VisitBy st.next (first_visit p st.store l) env) s _ (omega arith) (taken s st.next st.store.closures h) (e, number_next s st.next st.store.closures h, first))
  perform_same (Raises t x) env s st h e k = after st.next (Raise x env) s _ (omega arith) (subst (λ cs. Ok s st.next cs) (sym k) h) e
  perform_same (RaisesNew class slots) env s st h e k = aims.use' (RaiseNew class slots env) s st h e
  perform_same (Controls c x v) env s st h e k = control_same (turn_of x s) c v env s st h e (turn_found x s h.sound)
  perform_same (Terminates v) env s st h e k = (refl, (tt, h, omega arith))

  -- ---- expressions

  frame_later : (f : Frame) (s : List Mark) (a b : ℕ) → a ≤ b → FrameOk f s a → FrameOk f s b
  frame_later f s a b le k = record { home_ok = k.home_ok; home_taken = omega (arith, k.home_taken, le); own_stands = k.own_stands }

  module _ (f : Frame) (env : Env) (s : List Mark) (e : EnvOk env s) (b : ℕ) (frame : FrameOk f s b) where
    -- in a state that comes after
    abbrev Goes : State → Type 0
    Goes st = Fit s st × (b ≤ st.next)

    left_takes : (o : Outcome) (st : State) → AimedAt o s → Fit s st → b ≤ st.next → Same b s (Yields (left_end f o) st) (Yields (left_end f o) st)
    left_takes (Answer v) st a h le = (refl, (frame.own_stands, h, le))
    left_takes (Go t v) st a h le = (refl, (a, h, le))
    left_takes (Stop l) st a h le = (refl, (tt, h, le))

    leave_same : (c : Kind) (d : Bool) (v : Value) (st : State) → stands f.home s ≡ d → Goes st → Same b s (leave p n f env s c d v st) (leave p m f env s c d v st)
    leave_same InMethod d v st x g = (refl, (frame.own_stands, g.0, g.1))
    leave_same InInitializer d v st x g = (refl, (frame.own_stands, g.0, g.1))
    leave_same InBlock true v st x g = (refl, (home_stands f.home s frame.home_ok x, g.0, g.1))
    leave_same InBlock false v st x g = handle_same b s s _ _ _ _ (after b _ s st g.1 g.0 e) left_takes

    -- an expression, and what is done with its value
    then_same : (t : Tree) (st : State) → Goes st → (k k' : Value → State → Result) → ((v : Value) (st1 : State) → Goes st1 → Same b s (k v st1) (k' v st1)) → Same b s (then_value (n.tree t f env s st) k) (then_value (m.tree t f env s st) k')
    then_same t st g k k' on = value_same b s _ _ k k' (later_same b st.next s _ _ g.1 (aims.tree t f env s st g.0 e (frame_later f s b st.next g.1 frame))) (λ v st1 h le. on v st1 (h, le))

    args_same : (row : Trees) (vs : List Value) (k k' : List Value → State → Result) (st : State) → Goes st → ((ws : List Value) (st1 : State) → Goes st1 → Same b s (k ws st1) (k' ws st1)) → Same b s (eval_args p n f env s row vs k st) (eval_args p m f env s row vs k' st)
    args_same no_trees vs k k' st g on = on vs st g
    args_same (more_trees t row) vs k k' st g on = then_same t st g _ _ (λ v st1 g1. args_same row (v ∷ vs) k k' st1 g1 on)

    messages_same : (to : ℕ → Value → List Value → Use) → ((selector : ℕ) (r : Value) (ws : List Value) (st : State) → Goes st → Same b s (n.use' (to selector r ws) s st) (m.use' (to selector r ws) s st)) → (row : Messages) (r v : Value) (st : State) → Goes st → Same b s (eval_messages p n f env s to row r v st) (eval_messages p m f env s to row r v st)
    messages_same to sends no_messages r v st g = (refl, (tt, g.0, g.1))
    messages_same to sends (more_messages selector args row) r v st g =
        args_same args [] _ _ st g (λ ws st1 g1. value_same b s _ _ _ _ (sends selector r (onto ws []) st1 g1) (λ w st2 h le. messages_same to sends row r w st2 (h, le)))

    -- a send, and one to super
    send_same : (selector : ℕ) (r : Value) (ws : List Value) (st : State) → Goes st → Same b s (n.use' (SendTo selector r ws env) s st) (m.use' (SendTo selector r ws env) s st)
    send_same selector r ws st g = after b (SendTo selector r ws env) s st g.1 g.0 e

    super_same : (selector : ℕ) (r : Value) (ws : List Value) (st : State) → Goes st → Same b s (n.use' (SuperTo f.class selector r ws env) s st) (m.use' (SuperTo f.class selector r ws env) s st)
    super_same selector r ws st g = after b (SuperTo f.class selector r ws env) s st g.1 g.0 e

    written_same : (st : State) (place : Place) (v : Value) → Goes st → Same b s (Yields (Answer v) (write_place p f st place v)) (Yields (Answer v) (write_place p f st place v))
    written_same st place v g =
        let k = place_kept p f st place v in
        (refl, (tt, subst (λ cs. Ok s (write_place p f st place v).next cs) (sym k.0) (subst (λ i. Ok s i st.store.closures) (sym k.1) g.0), omega (arith, k.1, g.1)))

    eval_same : (t : Tree) (st : State) → Goes st → Same b s (eval p n f env s t st) (eval p m f env s t st)
    unfolding with_block
    eval_same (Constant v) st g = (refl, (tt, g.0, g.1))
    eval_same Self st g = (refl, (tt, g.0, g.1))
    eval_same (Variable place) st g = (refl, (tt, g.0, g.1))
    eval_same (Assign place t) st g = then_same t st g _ _ (λ v st1 g1. written_same st1 place v g1)
    eval_same (Block code) st g =
        let c : Closure = record { code = code; class = f.class; receiver = f.self; scope = f.scope; home = f.home } in
        used_same p b s 2 st _ _ _ (tt, g.0, g.1) (λ u. (refl, (tt, record { sound = g.0.sound; under = g.0.under; homes = homes_new s st.next st.store.closures c g.0.homes frame.home_ok (omega (arith, frame.home_taken, g.1)) }, g.1)))
    eval_same (Send selector t args) st g = then_same t st g _ _ (λ r st1 g1. args_same args [] _ _ st1 g1 (λ ws st2 g2. send_same selector r (onto ws []) st2 g2))
    eval_same (SuperSend selector args) st g = args_same args [] _ _ st g (λ ws st1 g1. super_same selector f.self (onto ws []) st1 g1)
    eval_same (Cascade t messages) st g = then_same t st g _ _ (λ r st1 g1. messages_same (λ selector r' ws. SendTo selector r' ws env) send_same messages r r st1 g1)
    eval_same (SuperCascade messages) st g = messages_same (λ selector r ws. SuperTo f.class selector r ws env) super_same messages f.self f.self st g

    body_same : (row : List Statement) (v : Value) (st : State) → Goes st → Same b s (eval_body p n f env s row v st) (eval_body p m f env s row v st)
    body_same [] v st g = (refl, (tt, g.0, g.1))
    body_same (Plain t ∷ row) v st g = then_same t st g _ _ (λ w st1 g1. body_same row w st1 g1)
    body_same (Return t ∷ row) v st g = then_same t st g _ _ (λ w st1 g1. leave_same f.kind (stands f.home s) w st1 refl g1)

  apply_same : (o : Option Closure) (v : Value) (args : List Value) (env : Env) (s : List Mark) (st : State) → Fit s st → EnvOk env s → There' o s st.next → Same st.next s (n.use' (apply_by p o v args env) s st) (m.use' (apply_by p o v args env) s st)
  apply_same None v args env s st h e t = aims.use' (SendTo _ v args env) s st h e
  apply_same (Some c) v args env s st h e t = aims.use' (Activate c args env) s st h (e, t.0, t.1)

  -- ---- the rules

  run_body_same : (f : Frame) (env : Env) (s : List Mark) (st : State) → Fit s st → BodyOk f.own f.home env s st.next → Same st.next s (rule p n (RunBody f env) s st) (rule p m (RunBody f env) s st)
  run_body_same f env s st h b =
      let here = BodyMark f.own ∷ s in
      let inside : Ok here st.next st.store.closures = ok_body f.own s st.next st.store.closures h b.own_taken in
      let frame : FrameOk f here st.next = record { home_ok = b.home_ok; home_taken = b.home_taken; own_stands = inl refl } in
      handle_same st.next here s _ _ _ _ (body_same f env here (env_more env (BodyMark f.own) s b.env_ok) st.next frame (body_at p f.code).statements Nil st (inside, omega arith)) (λ o st' a h' le. (refl, (body_ends f o s a, ok_drop (BodyMark f.own) s st'.next st'.store.closures h', le)))

  rule_same : (u : Use) (s : List Mark) (st : State) → Fit s st → UseOk s st.next st.store.closures u → Same st.next s (rule p n u s st) (rule p m u s st)
  rule_same (Apply v args env) s st h u = apply_same (closure_for p st.store v (length args)) v args env s st h u (there_for p s st.next st.store h.homes v (length args))
  rule_same (Activate c args env) s st h u =
      step_same p st.next s st _ _ _ (tt, h, omega arith) (λ m.
      opened_same (block_opening c args env st.next) s (record st { steps = m }) h (record { env_ok = u.0; above = h.under; own_taken = omega arith; home_ok = (λ e. sym e, u.1); home_taken = omega (arith, u.2) }))
  rule_same (Enter code r args env) s st h u =
      opened_same (method_opening p code r args env st.next) s st h (record { env_ok = u; above = h.under; own_taken = omega arith; home_ok = (λ e. sym e, fresh_home st.next s h.under); home_taken = omega arith })
  rule_same (SendTo selector r args env) s st h u =
      step_same p st.next s st _ _ _ (tt, h, omega arith) (λ m. aims.use' (Perform _ env) s (record st { steps = m }) h (u, send_fine p s st.next st.store h.homes selector r args))
  rule_same (SuperTo class selector r args env) s st h u =
      step_same p st.next s st _ _ _ (tt, h, omega arith) (λ m. aims.use' (Perform _ env) s (record st { steps = m }) h (u, super_fine p s st.next st.store h.homes class selector r args))
  rule_same (Perform a env) s st h u = perform_same a env s st h u.0 u.1
  rule_same (Raise e env) s st h u = raise_same (is_live e s) e env s st h u
  rule_same (RaiseNew class slots env) s st h u = raise_new_same class slots env s st h u
  rule_same (SignalPoint i e env) s st h u =
      handle_same st.next (SignalMark i e ∷ s) s _ _ _ _ (after st.next (SearchIn (signal_search i e env) env) (SignalMark i e ∷ s) _ (omega arith) (ok_push (SignalMark i e) s st.next st.store.closures h u.1 tt) (env_more env (SignalMark i e) s u.0, record { whole = env_more env (SignalMark i e) s u.0; purpose = (inl refl, inl refl) })) (signal_takes st.next i e env s u.0 u.1.above)
  rule_same (Resignaled i e f env) s st h u =
      handle_same st.next (SignalMark i e ∷ s) s _ _ _ _ (aims.use' (Raise f env) (SignalMark i e ∷ s) st (ok_push (SignalMark i e) s st.next st.store.closures h u.1 tt) (env_more env (SignalMark i e) s u.0)) (signal_takes st.next i e env s u.0 u.1.above)
  rule_same (SearchIn x rest) s st h u = search_same x rest s st h u.0 u.1
  rule_same (TurnBy x entry outside) s st h u = turn_by_same (asks_nested x) x entry outside s st refl h u.0 u.1 u.2
  rule_same (Ask w k t env) s st h u =
      stood_same p st.next s s st _ _ _ (tt, h, omega arith) (λ d.
      handle_same st.next (WaitMark st.next ∷ s) s _ _ _ _ (after st.next (SendTo _ (Object t.exception) [] env) (WaitMark st.next ∷ s) _ (omega arith) (pushes (WaitMark st.next) s st h refl tt) (env_more env (WaitMark st.next) s u.0)) (wait_takes st.next st.next w k t env s u.0 u.1))
  rule_same (Protect receiver entry env) s st h u =
      handle_same st.next (ProtectMark entry.number ∷ s) s _ _ _ _ (aims.use' (Apply receiver [] (entry ∷ env)) (ProtectMark entry.number ∷ s) st (ok_push (ProtectMark entry.number) s st.next st.store.closures h u.1 tt) (inl refl, env_more env (ProtectMark entry.number) s u.0)) (protect_takes st.next receiver entry env s u.0 u.1.above)
  rule_same (Finish i block held env) s st h u =
      handle_same st.next (ActionMark i ∷ s) s _ _ _ _ (aims.use' (Apply block [] env) (ActionMark i ∷ s) st (ok_push (ActionMark i) s st.next st.store.closures h u.1 tt) (env_more env (ActionMark i) s u.0)) (action_takes st.next i held s u.2)
  rule_same (VisitBy i v env) s st h u = visit_same i v env s st h u.0 u.1 u.2
  rule_same (RunBody f env) s st h u = run_body_same f env s st h u

-- ---- the watch

any_is : (P : Mark → Type 0) (test : Mark → Bool) → ((m : Mark) → P m → test m ≡ true) → (s : List Mark) → In P s → any_mark test s ≡ true
any_is P test tells [] x = absurd x
any_is P test tells (m ∷ s) (inl x) = ap (λ b. if b then true else any_mark test s) (tells m x)
any_is P test tells (m ∷ s) (inr y) = go (test m) (any_is P test tells s y)
  where
    go : (b : Bool) → any_mark test s ≡ true → (if b then true else any_mark test s) ≡ true
    go true h = refl
    go false h = h

body_tells : (n : ℕ) (m : Mark) → IsBody n m → is_body n m ≡ true
body_tells n (BodyMark k) e = eq-eqb n k e
body_tells n m e = absurd e

protect_tells : (n : ℕ) (m : Mark) → IsProtect n m → is_protect n m ≡ true
protect_tells n (ProtectMark k) e = eq-eqb n k e
protect_tells n m e = absurd e

point_tells : (n : ℕ) (m : Mark) → IsPoint n m → is_point n m ≡ true
point_tells n (SignalMark k x) e = eq-eqb n k e
point_tells n (OuterMark k) e = eq-eqb n k e
point_tells n m e = absurd e

source_tells : (n : ℕ) (m : Mark) → IsSource n m → is_source n m ≡ true
source_tells n (SignalMark k x) e = eq-eqb n k e
source_tells n m e = absurd e

target_tells : (t : Target) (s : List Mark) → Stands t s → target_stands t s ≡ true
target_tells (Home n) s h = any_is (IsBody n) (is_body n) (body_tells n) s h
target_tells (Protected n) s h = any_is (IsProtect n) (is_protect n) (protect_tells n) s h
target_tells (Retry n) s h = any_is (IsProtect n) (is_protect n) (protect_tells n) s h
target_tells (RetryWith n) s h = any_is (IsProtect n) (is_protect n) (protect_tells n) s h
target_tells (Resume n) s h = any_is (IsPoint n) (is_point n) (point_tells n) s h
target_tells (Resignal n f) s h = any_is (IsSource n) (is_source n) (source_tells n) s h
target_tells Terminate s h = refl

-- what is aimed passes the watch
passed : (b : ℕ) (s : List Mark) (x y : Result) → Same b s x y → Same b s x (watched_result s y)
passed b s (Yields (Answer v) st) y h = subst (λ z. Same b s (Yields (Answer v) st) (watched_result s z)) h.0 (refl, h.1)
passed b s (Yields (Stop l) st) y h = subst (λ z. Same b s (Yields (Stop l) st) (watched_result s z)) h.0 (refl, h.1)
passed b s (Yields (Go t v) st) y h =
    let e : (if target_stands t s then Yields (Go t v) st else NoIndex) ≡ Yields (Go t v) st = ap (λ c. if c then Yields (Go t v) st else NoIndex) (target_tells t s h.1.0) in
    subst (λ z. Same b s (Yields (Go t v) st) (watched_result s z)) h.0 (sym e, h.1)
passed b s NoIndex y h = subst (λ z. Same b s NoIndex (watched_result s z)) h.0 (refl, tt)

pub agree_at : (p : Program) (i : ℕ) → Agree (at_index p i) (watched_index p i)
unfolding at_index watched_index
agree_at p zero = record { use' = λ u s st h k. (refl, tt); tree = λ t f env s st h e k. (refl, tt) }
agree_at p (suc i) =
    record {
      use' = λ u s st h k. passed st.next s _ _ (rule_same p (at_index p i) (watched_index p i) (agree_at p i) u s st h k);
      tree = λ t f env s st h e k. passed st.next s _ _ (eval_same p (at_index p i) (watched_index p i) (agree_at p i) f env s e st.next k t st (h, omega arith));
    }

kept_ok : (target : Option ℕ) (v : Value) (st : State) → Fit [] st → Fit [] (kept_value target v st)
kept_ok None v st h = h
kept_ok (Some place) v st h = h

pub run_same : (p : Program) (n m : Next) → Agree n m → (xs : List Initializer) (st : State) → Fit [] st → Same 0 [] (run_from p n xs st) (run_from p m xs st)
run_same p n m aims [] st h = (refl, (tt, h, omega arith))
run_same p n m aims (x ∷ xs) st h =
    value_same 0 [] _ _ _ _ (later_same 0 st.next [] _ _ (omega arith) (opened_same p n m aims (initializer_opening p x st.next) [] st h (record { env_ok = tt; above = tt; own_taken = omega arith; home_ok = (λ e. sym e, tt); home_taken = omega arith }))) (λ v st1 h1 le. run_same p n m aims xs (kept_value x.target v st1) (kept_ok x.target v st1 h1))

pub first_ok : (p : Program) → Ok [] (first_state p).next (first_state p).store.closures
unfolding first_state
first_ok p = record { sound = tt; under = tt; homes = tt }

pub rules_targets_stand : RulesTargetsStand
rules_targets_stand p e st r =
    let a = run_same p (at_index p r.index) (watched_index p r.index) (agree_at p r.index) p.initializers (first_state p) (first_ok p) in
    record { index = r.index; outcome = r.outcome; run = sym a.0 ∙ r.run; ends = r.ends }
