-- Between two instructions each small step makes a step, or leaves less to be done.
use Rattle.std.proofs.Common.{◌≡◌, ℕ, ◌+◌, ◌-◌, ◌<◌, ◌≤◌, ◌⊎◌, inl, inr, max, length, List, [], ◌∷◌, Option, Some, None, Bool, true, false, refl, arith, nat_lt, nat_le, nat_eq, ltb-true, if◌then◌else◌}
use Rattle.object_heap.specs.declared.value.Value.{Value}
use Rattle.object_heap.specs.declared.value.Value.TheVariants.{Object}
use Rattle.object_heap.specs.declared.value.Closure.{Closure}
use Rattle.object_heap.specs.Store.{object_at}
use Rattle.st_code.specs.Program.{Program, body_at}
use Rattle.st_code.specs.Messages.{Control}
use Rattle.st_code.specs.Lookup.{is_plain, fits, is_exception}
use Rattle.st_collections.specs.Actions.{Action, Gives, Changes, Makes, Writes, Fails, DividesByZero, PassesIntegers, Begins, Activates, Sends, Misses, Enters, Guards, Ensures, Curtails, Iterates, Raises, RaisesNew, Controls, Terminates, Visit, Applies, Compares, Finishes, Lacks, Charges}
use Rattle.st_collections.specs.Kinds.{is_true}
use Rattle.st_rules.specs.State.{State, Entry, Env, Target, Outcome, Answer, Go, Stop, Turn, Mark, FoundTurn, NoTurn, TurnAt, turn_of, is_live, step_made, stood, used, scope_cells}
use Rattle.st_rules.specs.Ends.{charged, ended, Opening, block_opening, method_opening, turn_end, outer_end, SignalVerdict, Ends, Signals, signal_end, Verdict, Leaves, Again, protect_end, Search, Purpose, turn_search, asks_nested, Wait, ToResume, ToOuter}
use Rattle.st_rules.specs.Rules.{Use, Apply, Activate, Enter, SendTo, SuperTo, Perform, Raise, RaiseNew, SignalPoint, Resignaled, SearchIn, TurnBy, Ask, Protect, Finish, VisitBy, RunBody, closure_for, apply_by, handler_by, exception_cells}
use Rattle.st_rules.specs.Machine.{Act, BodyAct, Leaving, ProtectAct, EnsureOn, CurtailOn, ActionOff, SignalAct, HandlerRun, OuterAct, ResumeWait, HandlesWait, LoopAct, Mach, Settle, Bodies, marks, open_act, raise_act, raise_new_act, tried_act, judged_act, search_act, turn_act, pass_act, asked_act, resignal_act, resignal_as_act, control_by_act, control_without_act, control_in_act, control_act, visit_act, perform_act, begin, protect_verdict, signal_verdict, give, unwind, step}
use Rattle.st_rules.specs.SoFar.{state_of}
use Rattle.st_rules.specs.TurnsEnd.{act_weight, acts_weight, found_weight, use_weight, mach_weight}

module _ {B : Type 0} where
  -- as many steps are made, and less is to be done than this
  abbrev pub Less : State → ℕ → Mach B → Type 0
  Less st w m = ((state_of m).steps ≡ st.steps) × (mach_weight m < w)

  -- or one more step is made
  abbrev pub Down : Program → State → ℕ → Mach B → Type 0
  Down p st w m = Less st w m ⊎ (p.step_limit - (state_of m).steps < p.step_limit - st.steps)

  module _ (p : Program) where
    stood_less : (standing : List Mark) (st : State) (w : ℕ) (m : Mach B) (k : State → Mach B) → Less st w m → ((d n : ℕ) → Less st w (k (record st { depth = d; next = n }))) → Less st w (charged (stood p standing st) m k)
    unfolding stood
    stood_less standing st w m k stop on = go (nat_le (length standing + 1) p.depth_limit)
      where
        go : (c : Bool) → Less st w (charged (if c then Some (record st { depth = max st.depth (length standing + 1); next = st.next + 1 }) else None) m k)
        go true = on _ _
        go false = stop

    used_less : (cells : ℕ) (st st0 : State) (w : ℕ) (m : Mach B) (k : State → Mach B) → Less st0 w m → ((c : ℕ) → Less st0 w (k (record st { cells = c }))) → Less st0 w (charged (used p cells st) m k)
    unfolding used
    used_less cells st st0 w m k stop on = go (nat_le (st.cells + cells) p.cell_limit)
      where
        go : (c : Bool) → Less st0 w (charged (if c then Some (record st { cells = st.cells + cells }) else None) m k)
        go true = on _
        go false = stop

    step_down : (st : State) (w : ℕ) (m : Mach B) (k : State → Mach B) → Less st w m → ((n : ℕ) → (state_of (k (record st { steps = n }))).steps ≡ n) → Down p st w (charged (step_made p st) m k)
    unfolding step_made
    step_down st w m k stop on = go (nat_lt st.steps p.step_limit) refl
      where
        go : (c : Bool) → nat_lt st.steps p.step_limit ≡ c → Down p st w (charged (if c then Some (record st { steps = st.steps + 1 }) else None) m k)
        go true e = let l = ltb-true st.steps p.step_limit e in let s = on (st.steps + 1) in inr (omega (arith, l, s))
        go false e = inl stop

  module _ (b : Bodies B) (p : Program) where
    -- the turn that is found keeps an environment that is counted
    abbrev found_outside : FoundTurn → ℕ
    found_outside NoTurn = 0
    found_outside (TurnAt n t) = length t.outside

    found_counts : (e : ℕ) (acts : List (Act B)) → found_outside (turn_of e (marks b.number acts)) ≤ acts_weight acts
    unfolding turn_of
    found_counts e [] = omega arith
    found_counts e (HandlerRun n t ∷ acts) = let h = found_counts e acts in go (nat_eq e t.exception) h
      where
        go : (c : Bool) → found_outside (turn_of e (marks b.number acts)) ≤ acts_weight acts → found_outside (if c then TurnAt n t else turn_of e (marks b.number acts)) ≤ 1 + length t.outside + acts_weight acts
        go true h = omega arith
        go false h = omega (arith, h)
    found_counts e (BodyAct x ∷ acts) = let h = found_counts e acts in omega (arith, h)
    found_counts e (Leaving x ∷ acts) = let h = found_counts e acts in omega (arith, h)
    found_counts e (ProtectAct receiver entry env ∷ acts) = let h = found_counts e acts in omega (arith, h)
    found_counts e (EnsureOn n block env ∷ acts) = let h = found_counts e acts in omega (arith, h)
    found_counts e (CurtailOn n block env ∷ acts) = let h = found_counts e acts in omega (arith, h)
    found_counts e (ActionOff n held ∷ acts) = let h = found_counts e acts in omega (arith, h)
    found_counts e (SignalAct n x env ∷ acts) = let h = found_counts e acts in omega (arith, h)
    found_counts e (OuterAct n ∷ acts) = let h = found_counts e acts in omega (arith, h)
    found_counts e (ResumeWait n w k t env ∷ acts) = let h = found_counts e acts in omega (arith, h)
    found_counts e (HandlesWait n x entry rest ∷ acts) = let h = found_counts e acts in omega (arith, h)
    found_counts e (LoopAct n l env ∷ acts) = let h = found_counts e acts in omega (arith, h)

    -- ---- outcomes

    ended_less : (n : ℕ) (o : Outcome) (acts : List (Act B)) (st : State) (w : ℕ) → 2 + acts_weight acts < w → Less st w (Settle o acts (ended n o st))
    ended_less n (Answer v) acts st w l = (refl, l)
    ended_less n (Go t v) acts st w l = (refl, l)
    ended_less n (Stop x) acts st w l = (refl, omega (arith, l))

    pub open_less : (x : Opening) (acts : List (Act B)) (st : State) → Less st 2 (open_act b p x acts st)
    open_less x acts st = stood_less p (marks b.number acts) st 2 _ _ (refl, omega arith) (λ d n. used_less p (scope_cells (body_at p x.code)) _ st 2 _ _ (refl, omega arith) (λ c. (refl, omega arith)))

    -- ---- signals, searches and turns

    raise_less : (live : Bool) (e : ℕ) (env : Env) (acts : List (Act B)) (st : State) → Less st (8 + length env) (raise_act b p live e env acts st)
    raise_less true e env acts st = (refl, omega arith)
    raise_less false e env acts st = stood_less p (marks b.number acts) st _ _ _ (refl, omega arith) (λ d n. (refl, omega arith))

    raise_new_less : (c : ℕ) (slots : List Value) (env : Env) (acts : List (Act B)) (st : State) → Less st (7 + length env) (raise_new_act b p c slots env acts st)
    raise_new_less c slots env acts st = stood_less p (marks b.number acts) st _ _ _ (refl, omega arith) (λ d n. used_less p (exception_cells p c) _ st _ _ _ (refl, omega arith) (λ u. (refl, omega arith)))

    tried_less : (a : Bool) (x : Search) (entry : Entry) (rest : Env) (acts : List (Act B)) (st : State) → Less st (3 + length rest + found_weight (asks_nested x) acts) (tried_act b p a x entry rest acts st)
    tried_less true x entry rest acts st = (refl, omega arith)
    tried_less false x entry rest acts st = (refl, omega arith)

    judged_less : (a : Bool) (x : Search) (entry : Entry) (rest : Env) (acts : List (Act B)) (st : State) → Less st (3 + length rest + found_weight (asks_nested x) acts) (judged_act b p a x entry rest acts st)
    judged_less true x entry rest acts st = tried_less (fits p st.store entry.selector (object_at x.exception st.store).class) x entry rest acts st
    judged_less false x entry rest acts st = stood_less p (marks b.number acts) st _ _ _ (refl, omega arith) (λ d n. (refl, omega arith))

    search_less : (x : Search) (rest : Env) (acts : List (Act B)) (st : State) → Less st (2 + length rest + found_weight (asks_nested x) acts) (search_act b p x rest acts st)
    search_less x [] acts st = (refl, omega arith)
    search_less x (entry ∷ rest) acts st = let h = judged_less (is_plain p st.store entry.selector) x entry rest acts st in (h.0, omega (arith, h.1))

    handler_weighs : (o : Option Closure) (handler : Value) (e : ℕ) (env : Env) (acts : List (Act B)) → use_weight (handler_by o handler e env) acts < 4
    handler_weighs None handler e env acts = omega arith
    handler_weighs (Some c) handler e env acts = omega arith

    turn_less : (a : Bool) (x : Search) (entry : Option Entry) (outside : Env) (acts : List (Act B)) (st : State) → Less st (1 + found_weight a acts) (turn_act b p a x entry outside acts st)
    turn_less true x None outside acts st = (refl, omega arith)
    turn_less true x (Some entry) outside acts st = (refl, omega arith)
    turn_less false x None outside acts st = stood_less p (marks b.number acts) st _ _ _ (refl, omega arith) (λ d n. (refl, omega arith))
    turn_less false x (Some entry) outside acts st =
        stood_less p (marks b.number acts) st _ _ _ (refl, omega arith) (λ d n. (refl, handler_weighs (closure_for p st.store entry.handler 0) entry.handler x.exception outside _))

    -- ---- exception actions

    pass_less : (k e : ℕ) (t : Turn) (purpose : Purpose) (acts : List (Act B)) (st : State) (w : ℕ) → 2 + length t.outside + found_weight (asks_nested (turn_search k e t purpose)) acts < w → Less st w (pass_act b p k e t purpose acts st)
    pass_less k e t purpose acts st w l = (refl, l)

    asked_less : (a : Bool) (x : Wait) (k : ℕ) (t : Turn) (env : Env) (acts : List (Act B)) (st : State) → Less st (9 + length env + length t.outside + acts_weight acts) (asked_act b p a x k t env acts st)
    asked_less true (ToResume v) k t env acts st = (refl, omega arith)
    asked_less false (ToResume v) k t env acts st = (refl, omega arith)
    asked_less true ToOuter k t env acts st = stood_less p (marks b.number acts) st _ _ _ (refl, omega arith) (λ d n. (refl, omega arith))
    asked_less false ToOuter k t env acts st = (refl, omega arith)

    resignal_less : (a live : Bool) (t : Turn) (f : ℕ) (v : Value) (env : Env) (acts : List (Act B)) (st : State) → Less st (9 + length env + acts_weight acts) (resignal_act b p a live t f v env acts st)
    resignal_less false live t f v env acts st = (refl, omega arith)
    resignal_less true true t f v env acts st = (refl, omega arith)
    resignal_less true false t f v env acts st = (refl, omega arith)

    resignal_as_less : (t : Turn) (v : Value) (env : Env) (acts : List (Act B)) (st : State) → Less st (9 + length env + acts_weight acts) (resignal_as_act b p t v env acts st)
    resignal_as_less t (Object f) env acts st = resignal_less (is_exception p st.store (Object f)) (is_live f (marks b.number acts)) t f (Object f) env acts st
    resignal_as_less t v env acts st = (refl, omega arith)

    control_by_less : (c : Control) (v : Value) (k : ℕ) (t : Turn) (entry : Entry) (env : Env) (acts : List (Act B)) (st : State) → Less st (9 + length env + acts_weight acts + length t.outside) (control_by_act b p c v k t entry env acts st)
    control_by_less Control.Return v k t entry env acts st = (refl, omega arith)
    control_by_less Control.Retry v k t entry env acts st = (refl, omega arith)
    control_by_less Control.RetryUsing v k t entry env acts st = (refl, omega arith)
    control_by_less Control.Resume v k t entry env acts st = (refl, omega arith)
    control_by_less Control.Pass v k t entry env acts st = (refl, omega arith)
    control_by_less Control.Outer v k t entry env acts st = (refl, omega arith)
    control_by_less Control.ResignalAs v k t entry env acts st = let h = resignal_as_less t v env acts st in (h.0, omega (arith, h.1))
    control_by_less Control.IsNested v k t entry env acts st = (refl, omega arith)

    control_without_less : (c : Control) (v : Value) (k : ℕ) (t : Turn) (env : Env) (acts : List (Act B)) (st : State) → Less st (9 + length env + acts_weight acts + length t.outside) (control_without_act b p c v k t env acts st)
    control_without_less Control.Resume v k t env acts st = (refl, omega arith)
    control_without_less c v k t env acts st = (refl, omega arith)

    control_in_less : (entry : Option Entry) (c : Control) (v : Value) (k : ℕ) (t : Turn) (env : Env) (acts : List (Act B)) (st : State) → Less st (9 + length env + acts_weight acts + length t.outside) (control_in_act b p entry c v k t env acts st)
    control_in_less (Some entry) c v k t env acts st = control_by_less c v k t entry env acts st
    control_in_less None c v k t env acts st = control_without_less c v k t env acts st

    control_less : (f : FoundTurn) (c : Control) (v : Value) (env : Env) (acts : List (Act B)) (st : State) → found_outside f ≤ acts_weight acts → Less st (9 + length env + acts_weight acts + acts_weight acts) (control_act b p f c v env acts st)
    control_less NoTurn c v env acts st l = (refl, omega arith)
    control_less (TurnAt k t) c v env acts st l = let h = control_in_less t.entry c v k t env acts st in (h.0, omega (arith, h.1, l))

    -- ---- loops

    visit_less : (n : ℕ) (v : Visit) (env : Env) (acts : List (Act B)) (st st0 : State) → st.steps ≡ st0.steps → Less st0 (8 + length env + acts_weight acts) (visit_act b p n v env acts st)
    visit_less n (Applies l v args) env acts st st0 e = (e, omega arith)
    visit_less n (Compares l r v) env acts st st0 e = (e, omega arith)
    visit_less n (Finishes v) env acts st st0 e = (e, omega arith)
    visit_less n (Lacks l) env acts st st0 e = (e, omega arith)
    visit_less n (Charges cells s v) env acts st st0 e = used_less p cells st st0 _ _ _ (e, omega arith) (λ c. visit_less n v env acts (record st { cells = c; store = s }) st0 e)

    -- ---- what a message does at once

    perform_less : (a : Action) (env : Env) (acts : List (Act B)) (st : State) → Less st (9 + length env + acts_weight acts + acts_weight acts) (perform_act b p a env acts st)
    perform_less (Gives v) env acts st = (refl, omega arith)
    perform_less (Changes s v) env acts st = (refl, omega arith)
    perform_less (Makes cells s v) env acts st = used_less p cells st st _ _ _ (refl, omega arith) (λ c. (refl, omega arith))
    perform_less (Writes text v) env acts st = (refl, omega arith)
    perform_less (Fails trouble) env acts st = (refl, omega arith)
    perform_less (DividesByZero dividend) env acts st = (refl, omega arith)
    perform_less PassesIntegers env acts st = (refl, omega arith)
    perform_less (Begins v args) env acts st = (refl, omega arith)
    perform_less (Activates c args) env acts st = (refl, omega arith)
    perform_less (Sends selector r args) env acts st = (refl, omega arith)
    perform_less (Misses selector r args) env acts st = used_less p (1 + length args) st st _ _ _ (refl, omega arith) (λ c. used_less p 3 _ st _ _ _ (refl, omega arith) (λ d. (refl, omega arith)))
    perform_less (Enters code r args) env acts st = (refl, omega arith)
    perform_less (Guards receiver selector handler) env acts st = stood_less p (marks b.number acts) st _ _ _ (refl, omega arith) (λ d n. (refl, omega arith))
    perform_less (Ensures receiver block) env acts st = stood_less p (marks b.number acts) st _ _ _ (refl, omega arith) (λ d n. (refl, omega arith))
    perform_less (Curtails receiver block) env acts st = stood_less p (marks b.number acts) st _ _ _ (refl, omega arith) (λ d n. (refl, omega arith))
    perform_less (Iterates l) env acts st = stood_less p (marks b.number acts) st _ _ _ (refl, omega arith) (λ d n. (refl, omega arith))
    perform_less (Raises s e) env acts st = (refl, omega arith)
    perform_less (RaisesNew class slots) env acts st = (refl, omega arith)
    perform_less (Controls c e v) env acts st = control_less (turn_of e (marks b.number acts)) c v env acts st (found_counts e acts)
    perform_less (Terminates v) env acts st = (refl, omega arith)

    -- ---- the beginning of a use

    apply_weighs : (o : Option Closure) (v : Value) (args : List Value) (env : Env) (acts : List (Act B)) → use_weight (apply_by p o v args env) acts < 3
    apply_weighs None v args env acts = omega arith
    apply_weighs (Some c) v args env acts = omega arith

    opened_steps : (x : Opening) (acts : List (Act B)) (st : State) → (state_of (open_act b p x acts st)).steps ≡ st.steps
    opened_steps x acts st = (open_less x acts st).0

    pub begin_down : (u : Use) (acts : List (Act B)) (st : State) → Down p st (use_weight u acts) (begin b p u acts st)
    begin_down (Apply v args env) acts st = inl (refl, apply_weighs (closure_for p st.store v (length args)) v args env acts)
    begin_down (Activate c args env) acts st = step_down p st _ _ _ (refl, omega arith) (λ n. opened_steps (block_opening c args env st.next) acts (record st { steps = n }))
    begin_down (Enter code r args env) acts st = inl (open_less (method_opening p code r args env st.next) acts st)
    begin_down (SendTo selector r args env) acts st = step_down p st _ _ _ (refl, omega arith) (λ n. refl)
    begin_down (SuperTo class selector r args env) acts st = step_down p st _ _ _ (refl, omega arith) (λ n. refl)
    begin_down (Perform a env) acts st = inl (perform_less a env acts st)
    begin_down (Raise e env) acts st = inl (raise_less (is_live e (marks b.number acts)) e env acts st)
    begin_down (RaiseNew class slots env) acts st = inl (raise_new_less class slots env acts st)
    begin_down (SignalPoint n e env) acts st = inl (refl, omega arith)
    begin_down (Resignaled n e f env) acts st = inl (refl, omega arith)
    begin_down (SearchIn x rest) acts st = inl (search_less x rest acts st)
    begin_down (TurnBy x entry outside) acts st = inl (turn_less (asks_nested x) x entry outside acts st)
    begin_down (Ask w k t env) acts st = inl (stood_less p (marks b.number acts) st _ _ _ (refl, omega arith) (λ d n. (refl, omega arith)))
    begin_down (Protect receiver entry env) acts st = inl (refl, omega arith)
    begin_down (Finish n block held env) acts st = inl (refl, omega arith)
    begin_down (VisitBy n v env) acts st = inl (visit_less n v env acts st st refl)
    begin_down (RunBody f env) acts st = inl (refl, omega arith)

    -- ---- an outcome at an activation

    protect_less : (d : Verdict) (entry : Entry) (env : Env) (acts : List (Act B)) (st : State) → Less st (5 + acts_weight acts) (protect_verdict b p d entry env acts st)
    protect_less (Leaves o) entry env acts st = ended_less entry.number o acts st _ (omega arith)
    protect_less (Again receiver) entry env acts st = (refl, omega arith)

    signal_less : (n e : ℕ) (d : SignalVerdict) (env : Env) (acts : List (Act B)) (st : State) → Less st (10 + length env + acts_weight acts) (signal_verdict b p n e d env acts st)
    signal_less n e (Ends o) env acts st = ended_less n o acts st _ (omega arith)
    signal_less n e (Signals f) env acts st = (refl, omega arith)

    found_most : (a : Bool) (acts : List (Act B)) → found_weight a acts ≤ 3 + acts_weight acts
    found_most true acts = omega arith
    found_most false acts = omega arith

    settled_less : (o : Outcome) (acts : List (Act B)) (st : State) (w : ℕ) → 2 + acts_weight acts < w → Less st w (Settle o acts st)
    settled_less (Answer v) acts st w l = (refl, l)
    settled_less (Go t v) acts st w l = (refl, l)
    settled_less (Stop x) acts st w l = (refl, omega (arith, l))

    give_less : (v : Value) (a : Act B) (acts : List (Act B)) (st : State) → Less st (2 + act_weight a + acts_weight acts) (give b p v a acts st)
    give_less v (BodyAct x) acts st = (refl, omega arith)
    give_less v (Leaving x) acts st = (refl, omega arith)
    give_less v (ProtectAct receiver entry env) acts st = protect_less (protect_end entry.number receiver (Answer v)) entry env acts st
    give_less v (EnsureOn n block env) acts st = (refl, omega arith)
    give_less v (CurtailOn n block env) acts st = (refl, omega arith)
    give_less v (ActionOff n held) acts st = ended_less n held acts st _ (omega arith)
    give_less v (SignalAct n e env) acts st = let h = signal_less n e (signal_end n (Answer v)) env acts st in (h.0, omega (arith, h.1))
    give_less v (HandlerRun n t) acts st = ended_less n (turn_end t (marks b.number acts) (Answer v)) acts st _ (omega arith)
    give_less v (OuterAct n) acts st = (refl, omega arith)
    give_less v (ResumeWait n w k t env) acts st = let h = asked_less (is_true v) w k t env acts st in (h.0, omega (arith, h.1))
    give_less v (HandlesWait n x entry rest) acts st =
        let h = tried_less (is_true v) x entry rest acts (ended n (Answer v) st) in let m = found_most (asks_nested x) acts in (h.0, omega (arith, h.1, m))
    give_less v (LoopAct n l env) acts st = (refl, omega arith)

    unwind_less : (t : Target) (v : Value) (a : Act B) (acts : List (Act B)) (st : State) → Less st (2 + act_weight a + acts_weight acts) (unwind b p t v a acts st)
    unwind_less t v (BodyAct x) acts st = settled_less _ acts st _ (omega arith)
    unwind_less t v (Leaving x) acts st = settled_less _ acts st _ (omega arith)
    unwind_less t v (ProtectAct receiver entry env) acts st = protect_less (protect_end entry.number receiver (Go t v)) entry env acts st
    unwind_less t v (EnsureOn n block env) acts st = (refl, omega arith)
    unwind_less t v (CurtailOn n block env) acts st = (refl, omega arith)
    unwind_less t v (ActionOff n held) acts st = (refl, omega arith)
    unwind_less t v (SignalAct n e env) acts st = let h = signal_less n e (signal_end n (Go t v)) env acts st in (h.0, omega (arith, h.1))
    unwind_less t v (HandlerRun n turn) acts st = (refl, omega arith)
    unwind_less t v (OuterAct n) acts st = ended_less n (outer_end n (Go t v)) acts st _ (omega arith)
    unwind_less t v (ResumeWait n w k turn env) acts st = (refl, omega arith)
    unwind_less t v (HandlesWait n x entry rest) acts st = (refl, omega arith)
    unwind_less t v (LoopAct n l env) acts st = (refl, omega arith)

    pub settle_down : (o : Outcome) (acts : List (Act B)) (st : State) → Less st (mach_weight (Settle o acts st)) (step b p (Settle o acts st))
    settle_down (Answer v) [] st = (refl, omega arith)
    settle_down (Answer v) (a ∷ acts) st = let h = give_less v a acts st in (h.0, omega (arith, h.1))
    settle_down (Go t v) [] st = (refl, omega arith)
    settle_down (Go t v) (a ∷ acts) st = let h = unwind_less t v a acts st in (h.0, omega (arith, h.1))
    settle_down (Stop l) acts st = (refl, omega arith)
