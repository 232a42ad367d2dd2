-- Sends fit their selectors: a law for each small step of the flat machine.
use Rattle.std.proofs.Common.{◌≡◌, ℕ, ◌+◌, ◌≤◌, max, nat_eq, length, List, [], ◌∷◌, Option, Some, None, Bool, true, false, eqb-true, refl, sym, arith, nat_lt, nat_le, if◌then◌else◌}
use Rattle.object_heap.specs.declared.value.Value.{Value}
use Rattle.object_heap.specs.declared.value.Value.TheVariants.{Object}
use Rattle.object_heap.specs.declared.value.Closure.{Closure}
use Rattle.object_heap.specs.Store.{Store, object_at}
use Rattle.st_code.specs.Lookup.{is_plain, fits, is_exception}
use Rattle.st_code.specs.Messages.{Control}
use Rattle.st_code.specs.Program.{Program, body_at}
use Rattle.st_collections.specs.Actions.{Action, Gives, Changes, Makes, Writes, Fails, DividesByZero, PassesIntegers, Begins, Activates, Sends, Misses, Enters, Guards, Ensures, Curtails, Iterates, Raises, RaisesNew, Controls, Terminates, Visit, Applies, Compares, Finishes, Lacks, Charges}
use Rattle.st_collections.specs.Kinds.{is_true}
use Rattle.st_rules.specs.Ends.{charged, ended, Opening, block_opening, method_opening, turn_end, outer_end, SignalVerdict, Ends, Signals, signal_end, Verdict, Leaves, Again, protect_end, Search, asks_nested, Wait, ToResume, ToOuter}
use Rattle.st_rules.specs.Flat.{FlatBody, flat_number}
use Rattle.st_rules.specs.Flattened.{flat_of}
use Rattle.st_rules.specs.Machine.{Act, BodyAct, Leaving, ProtectAct, EnsureOn, CurtailOn, ActionOff, SignalAct, HandlerRun, OuterAct, ResumeWait, HandlesWait, LoopAct, Mach, Settle, Bodies, marks, open_act, raise_act, raise_new_act, tried_act, judged_act, search_act, turn_act, asked_act, resignal_act, resignal_as_act, control_by_act, control_without_act, control_in_act, control_act, visit_act, perform_act, begin, protect_verdict, signal_verdict, give, unwind, step}
use Rattle.st_rules.specs.Rules.{Use, Apply, Activate, Enter, SendTo, SuperTo, Perform, Raise, RaiseNew, SignalPoint, Resignaled, SearchIn, TurnBy, Ask, Protect, Finish, VisitBy, RunBody, closure_for, apply_by, handler_by, exception_cells}
use Rattle.st_rules.specs.State.{State, Entry, Env, Target, Outcome, Answer, Go, Stop, Turn, Mark, FoundTurn, NoTurn, TurnAt, turn_of, is_live, step_made, stood, used, scope_cells}
use Rattle.st_rules.specs.ExceptionRows.{closure_of}
use Rattle.st_sends.specs.Arguments.{ActionPasses, VisitPasses}
use Rattle.st_sends.specs.SendsFit.{UseFits, ActsFit, MachFits}
use Rattle.st_sends.proofs.PassingSends.{sends_pass, super_sends_pass}
use Rattle.st_sends.proofs.PassingVisits.{first_visit_passes, next_visit_passes}
use Rattle.st_sends.proofs.SelectorNames.{equal_takes, default_takes, resumable_takes, handles_takes, not_understood_takes, value_takes}

-- a closure takes so many values, if there is one
abbrev ClosureFits : Program → ℕ → Option Closure → Type 0
ClosureFits p count None = Unit {0}
ClosureFits p count (Some c) = count ≡ (body_at p c.code).parameters

abbrev that_takes : Program → Option Closure → ℕ → Option Closure
that_takes p None count = None
that_takes p (Some c) count = elim (nat_eq (body_at p c.code).parameters count) [ true ↦ Some c | false ↦ None ]

taking_fits : (p : Program) (o : Option Closure) (count : ℕ) → ClosureFits p count (that_takes p o count)
taking_fits p None count = tt
taking_fits p (Some c) count = go (nat_eq (body_at p c.code).parameters count) refl
  where
    go : (b : Bool) → nat_eq (body_at p c.code).parameters count ≡ b → ClosureFits p count (elim b [ true ↦ Some c | false ↦ None ])
    go true e = sym (eqb-true (body_at p c.code).parameters count e)
    go false e = tt

closure_for_fits : (p : Program) (s : Store) (v : Value) (count : ℕ) → ClosureFits p count (closure_for p s v count)
unfolding closure_for
closure_for_fits p s v count = taking_fits p (closure_of s v) count

module _ (p : Program) where
  -- ---- charges

  step_fits : (st : State) (m : Mach FlatBody) (k : State → Mach FlatBody) → MachFits p m → ((n : ℕ) → MachFits p (k (record st { steps = n }))) → MachFits p (charged (step_made p st) m k)
  unfolding step_made
  step_fits st m k stop on = go (nat_lt st.steps p.step_limit)
    where
      go : (c : Bool) → MachFits p (charged (if c then Some (record st { steps = st.steps + 1 }) else None) m k)
      go true = on _
      go false = stop

  stood_fits : (standing : List Mark) (st : State) (m : Mach FlatBody) (k : State → Mach FlatBody) → MachFits p m → ((d n : ℕ) → MachFits p (k (record st { depth = d; next = n }))) → MachFits p (charged (stood p standing st) m k)
  unfolding stood
  stood_fits standing st m k stop on = go (nat_le (length standing + 1) p.depth_limit)
    where
      go : (c : Bool) → MachFits p (charged (if c then Some (record st { depth = max st.depth (length standing + 1); next = st.next + 1 }) else None) m k)
      go true = on _ _
      go false = stop

  pub used_fits : (cells : ℕ) (st : State) (m : Mach FlatBody) (k : State → Mach FlatBody) → MachFits p m → ((c : ℕ) → MachFits p (k (record st { cells = c }))) → MachFits p (charged (used p cells st) m k)
  unfolding used
  used_fits cells st m k stop on = go (nat_le (st.cells + cells) p.cell_limit)
    where
      go : (c : Bool) → MachFits p (charged (if c then Some (record st { cells = st.cells + cells }) else None) m k)
      go true = on _
      go false = stop

  abbrev F : Bodies FlatBody
  F = flat_of p

  abbrev M : List (Act FlatBody) → List Mark
  M acts = marks flat_number acts

  pub open_fits : (x : Opening) (acts : List (Act FlatBody)) (st : State) → ActsFit p acts → MachFits p (open_act F p x acts st)
  open_fits x acts st r = stood_fits (M acts) st _ _ r (λ d n. used_fits (scope_cells (body_at p x.code)) _ _ _ r (λ c. r))

  raise_fits : (live : Bool) (e : ℕ) (env : Env) (acts : List (Act FlatBody)) (st : State) → ActsFit p acts → MachFits p (raise_act F p live e env acts st)
  raise_fits true e env acts st r = (tt, r)
  raise_fits false e env acts st r = stood_fits (M acts) st _ _ r (λ d n. (tt, r))

  raise_new_fits : (c : ℕ) (slots : List Value) (env : Env) (acts : List (Act FlatBody)) (st : State) → ActsFit p acts → MachFits p (raise_new_act F p c slots env acts st)
  raise_new_fits c slots env acts st r = stood_fits (M acts) st _ _ r (λ d i. used_fits (exception_cells p c) _ _ _ r (λ u. (tt, r)))

  tried_fits : (a : Bool) (x : Search) (entry : Entry) (rest : Env) (acts : List (Act FlatBody)) (st : State) → ActsFit p acts → MachFits p (tried_act F p a x entry rest acts st)
  tried_fits true x entry rest acts st r = (tt, r)
  tried_fits false x entry rest acts st r = (tt, r)

  judged_fits : (a : Bool) (x : Search) (entry : Entry) (rest : Env) (acts : List (Act FlatBody)) (st : State) → ActsFit p acts → MachFits p (judged_act F p a x entry rest acts st)
  judged_fits true x entry rest acts st r = tried_fits (fits p st.store entry.selector (object_at x.exception st.store).class) x entry rest acts st r
  judged_fits false x entry rest acts st r = stood_fits (M acts) st _ _ r (λ d n. (handles_takes p, (tt, r)))

  search_fits : (x : Search) (rest : Env) (acts : List (Act FlatBody)) (st : State) → ActsFit p acts → MachFits p (search_act F p x rest acts st)
  search_fits x [] acts st r = (tt, r)
  search_fits x (entry ∷ rest) acts st r = judged_fits (is_plain p st.store entry.selector) x entry rest acts st r

  handler_fits : (o : Option Closure) (handler : Value) (e : ℕ) (env : Env) → ClosureFits p 0 o → UseFits p (handler_by o handler e env)
  handler_fits None handler e env g = omega arith
  handler_fits (Some c) handler e env g = g

  turn_fits : (a : Bool) (x : Search) (entry : Option Entry) (outside : Env) (acts : List (Act FlatBody)) (st : State) → ActsFit p acts → MachFits p (turn_act F p a x entry outside acts st)
  turn_fits true x None outside acts st r = r
  turn_fits true x (Some entry) outside acts st r = r
  turn_fits false x None outside acts st r = stood_fits (M acts) st _ _ r (λ d n. (default_takes p, (tt, r)))
  turn_fits false x (Some entry) outside acts st r =
      stood_fits (M acts) st _ _ r (λ d n. (handler_fits (closure_for p st.store entry.handler 0) entry.handler x.exception outside (closure_for_fits p st.store entry.handler 0), (tt, r)))

  asked_fits : (a : Bool) (w : Wait) (k : ℕ) (t : Turn) (env : Env) (acts : List (Act FlatBody)) (st : State) → ActsFit p acts → MachFits p (asked_act F p a w k t env acts st)
  asked_fits true (ToResume v) k t env acts st r = r
  asked_fits false (ToResume v) k t env acts st r = (tt, r)
  asked_fits true ToOuter k t env acts st r = stood_fits (M acts) st _ _ r (λ d n. (tt, (tt, r)))
  asked_fits false ToOuter k t env acts st r = (tt, r)

  resignal_fits : (a live : Bool) (t : Turn) (f : ℕ) (v : Value) (env : Env) (acts : List (Act FlatBody)) (st : State) → ActsFit p acts → MachFits p (resignal_act F p a live t f v env acts st)
  resignal_fits false live t f v env acts st r = (tt, r)
  resignal_fits true true t f v env acts st r = (tt, r)
  resignal_fits true false t f v env acts st r = r

  resignal_as_fits : (t : Turn) (v : Value) (env : Env) (acts : List (Act FlatBody)) (st : State) → ActsFit p acts → MachFits p (resignal_as_act F p t v env acts st)
  resignal_as_fits t (Object f) env acts st r = resignal_fits (is_exception p st.store (Object f)) (is_live f (M acts)) t f (Object f) env acts st r
  resignal_as_fits t v env acts st r = (tt, r)

  control_by_fits : (c : Control) (v : Value) (k : ℕ) (t : Turn) (entry : Entry) (env : Env) (acts : List (Act FlatBody)) (st : State) → ActsFit p acts → MachFits p (control_by_act F p c v k t entry env acts st)
  control_by_fits Control.Return v k t entry env acts st r = r
  control_by_fits Control.Retry v k t entry env acts st r = r
  control_by_fits Control.RetryUsing v k t entry env acts st r = r
  control_by_fits Control.Resume v k t entry env acts st r = (tt, r)
  control_by_fits Control.Pass v k t entry env acts st r = (tt, r)
  control_by_fits Control.Outer v k t entry env acts st r = (tt, r)
  control_by_fits Control.ResignalAs v k t entry env acts st r = resignal_as_fits t v env acts st r
  control_by_fits Control.IsNested v k t entry env acts st r = (tt, r)

  control_without_fits : (c : Control) (v : Value) (k : ℕ) (t : Turn) (env : Env) (acts : List (Act FlatBody)) (st : State) → ActsFit p acts → MachFits p (control_without_act F p c v k t env acts st)
  control_without_fits Control.Resume v k t env acts st r = (tt, r)
  control_without_fits c v k t env acts st r = (tt, r)

  control_in_fits : (entry : Option Entry) (c : Control) (v : Value) (k : ℕ) (t : Turn) (env : Env) (acts : List (Act FlatBody)) (st : State) → ActsFit p acts → MachFits p (control_in_act F p entry c v k t env acts st)
  control_in_fits (Some entry) c v k t env acts st r = control_by_fits c v k t entry env acts st r
  control_in_fits None c v k t env acts st r = control_without_fits c v k t env acts st r

  control_fits : (f : FoundTurn) (c : Control) (v : Value) (env : Env) (acts : List (Act FlatBody)) (st : State) → ActsFit p acts → MachFits p (control_act F p f c v env acts st)
  control_fits NoTurn c v env acts st r = (tt, r)
  control_fits (TurnAt k t) c v env acts st r = control_in_fits t.entry c v k t env acts st r

  -- ---- loops, and what a message does at once

  visit_fits : (n : ℕ) (v : Visit) (env : Env) (acts : List (Act FlatBody)) (st : State) → VisitPasses v → ActsFit p acts → MachFits p (visit_act F p n v env acts st)
  visit_fits n (Applies l v args) env acts st f r = (f.1, (f.0, r))
  visit_fits n (Compares l x v) env acts st f r = (equal_takes p, (f, r))
  visit_fits n (Finishes v) env acts st f r = r
  visit_fits n (Lacks l) env acts st f r = (tt, (f, r))
  visit_fits n (Charges cells s v) env acts st f r = used_fits cells st _ _ r (λ c. visit_fits n v env acts (record st { cells = c; store = s }) f r)

  missed_fits : (selector : ℕ) (x : Value) (args : List Value) (env : Env) (acts : List (Act FlatBody)) (st : State) → ActsFit p acts → MachFits p (perform_act F p (Misses selector x args) env acts st)
  missed_fits selector x args env acts st r = used_fits (1 + length args) st _ _ r (λ c. used_fits 3 _ _ _ r (λ d. (not_understood_takes p, r)))

  perform_fits : (n : ℕ) (a : Action) (env : Env) (acts : List (Act FlatBody)) (st : State) → ActsFit p acts → ActionPasses p n a → MachFits p (perform_act F p a env acts st)
  perform_fits n (Gives v) env acts st r f = r
  perform_fits n (Changes s v) env acts st r f = r
  perform_fits n (Makes cells s v) env acts st r f = used_fits cells st _ _ r (λ c. r)
  perform_fits n (Writes text v) env acts st r f = r
  perform_fits n (Fails trouble) env acts st r f = (tt, r)
  perform_fits n (DividesByZero dividend) env acts st r f = (tt, r)
  perform_fits n PassesIntegers env acts st r f = r
  perform_fits n (Begins v args) env acts st r f = (f, r)
  perform_fits n (Activates c args) env acts st r f = (f, r)
  perform_fits n (Sends selector x args) env acts st r f = (f.0, r)
  perform_fits n (Misses selector x args) env acts st r f = missed_fits selector x args env acts st r
  perform_fits n (Enters code x args) env acts st r f = (tt, r)
  perform_fits n (Guards receiver selector handler) env acts st r f = stood_fits (M acts) st _ _ r (λ d k. (tt, r))
  perform_fits n (Ensures receiver block) env acts st r f = stood_fits (M acts) st _ _ r (λ d k. (omega arith, (tt, r)))
  perform_fits n (Curtails receiver block) env acts st r f = stood_fits (M acts) st _ _ r (λ d k. (omega arith, (tt, r)))
  perform_fits n (Iterates l) env acts st r f = stood_fits (M acts) st _ _ r (λ d k. ((first_visit_passes p st.store l f).passes, r))
  perform_fits n (Raises s x) env acts st r f = (tt, r)
  perform_fits n (RaisesNew class slots) env acts st r f = (tt, r)
  perform_fits n (Controls c x v) env acts st r f = control_fits (turn_of x (M acts)) c v env acts st r
  perform_fits n (Terminates v) env acts st r f = r

  -- ---- the beginning of a use

  apply_fits : (o : Option Closure) (v : Value) (args : List Value) (env : Env) → length args ≤ 2 → ClosureFits p (length args) o → UseFits p (apply_by p o v args env)
  apply_fits None v args env l g = value_takes p (length args) l
  apply_fits (Some c) v args env l g = g

  pub begin_fits : (u : Use) (acts : List (Act FlatBody)) (st : State) → ActsFit p acts → UseFits p u → MachFits p (begin F p u acts st)
  begin_fits (Apply v args env) acts st r f = (apply_fits (closure_for p st.store v (length args)) v args env f (closure_for_fits p st.store v (length args)), r)
  begin_fits (Activate c args env) acts st r f = step_fits st _ _ r (λ n. open_fits (block_opening c args env st.next) acts (record st { steps = n }) r)
  begin_fits (Enter code x args env) acts st r f = open_fits (method_opening p code x args env st.next) acts st r
  begin_fits (SendTo selector x args env) acts st r f = step_fits st _ _ r (λ n. ((length args, sends_pass p st.store selector x args f), r))
  begin_fits (SuperTo class selector x args env) acts st r f = step_fits st _ _ r (λ n. ((length args, super_sends_pass p st.store class selector x args f), r))
  begin_fits (Perform a env) acts st r f = perform_fits f.0 a env acts st r f.1
  begin_fits (Raise e env) acts st r f = raise_fits (is_live e (M acts)) e env acts st r
  begin_fits (RaiseNew class slots env) acts st r f = raise_new_fits class slots env acts st r
  begin_fits (SignalPoint n e env) acts st r f = (tt, (tt, r))
  begin_fits (Resignaled n e x env) acts st r f = (tt, (tt, r))
  begin_fits (SearchIn x rest) acts st r f = search_fits x rest acts st r
  begin_fits (TurnBy x entry outside) acts st r f = turn_fits (asks_nested x) x entry outside acts st r
  begin_fits (Ask w k t env) acts st r f = stood_fits (M acts) st _ _ r (λ d n. (resumable_takes p, (tt, r)))
  begin_fits (Protect receiver entry env) acts st r f = (omega arith, (tt, r))
  begin_fits (Finish n block held env) acts st r f = (omega arith, (tt, r))
  begin_fits (VisitBy n v env) acts st r f = visit_fits n v env acts st f r
  begin_fits (RunBody x env) acts st r f = tt

  -- ---- an outcome at an activation

  ended_fits : (n : ℕ) (o : Outcome) (acts : List (Act FlatBody)) (st : State) → ActsFit p acts → MachFits p (Settle o acts (ended n o st))
  ended_fits n (Answer v) acts st r = r
  ended_fits n (Go t v) acts st r = r
  ended_fits n (Stop l) acts st r = r

  protect_fits : (d : Verdict) (entry : Entry) (env : Env) (acts : List (Act FlatBody)) (st : State) → ActsFit p acts → MachFits p (protect_verdict F p d entry env acts st)
  protect_fits (Leaves o) entry env acts st r = ended_fits entry.number o acts st r
  protect_fits (Again receiver) entry env acts st r = (tt, r)

  signal_fits : (n e : ℕ) (d : SignalVerdict) (env : Env) (acts : List (Act FlatBody)) (st : State) → ActsFit p acts → MachFits p (signal_verdict F p n e d env acts st)
  signal_fits n e (Ends o) env acts st r = ended_fits n o acts st r
  signal_fits n e (Signals f) env acts st r = (tt, r)

  give_fits : (v : Value) (a : Act FlatBody) (acts : List (Act FlatBody)) (st : State) → ActsFit p (a ∷ acts) → MachFits p (give F p v a acts st)
  give_fits v (BodyAct x) acts st r = r.1
  give_fits v (Leaving x) acts st r = r.1
  give_fits v (ProtectAct receiver entry env) acts st r = protect_fits (protect_end entry.number receiver (Answer v)) entry env acts st r.1
  give_fits v (EnsureOn n block env) acts st r = (tt, r.1)
  give_fits v (CurtailOn n block env) acts st r = r.1
  give_fits v (ActionOff n held) acts st r = ended_fits n held acts st r.1
  give_fits v (SignalAct n e env) acts st r = signal_fits n e (signal_end n (Answer v)) env acts st r.1
  give_fits v (HandlerRun n t) acts st r = ended_fits n (turn_end t (M acts) (Answer v)) acts st r.1
  give_fits v (OuterAct n) acts st r = r.1
  give_fits v (ResumeWait n w k t env) acts st r = asked_fits (is_true v) w k t env acts st r.1
  give_fits v (HandlesWait n x entry rest) acts st r = tried_fits (is_true v) x entry rest acts (ended n (Answer v) st) r.1
  give_fits v (LoopAct n l env) acts st r = ((next_visit_passes p st.store l v r.0).passes, r.1)

  unwind_fits : (t : Target) (v : Value) (a : Act FlatBody) (acts : List (Act FlatBody)) (st : State) → ActsFit p (a ∷ acts) → MachFits p (unwind F p t v a acts st)
  unwind_fits t v (BodyAct x) acts st r = r.1
  unwind_fits t v (Leaving x) acts st r = r.1
  unwind_fits t v (ProtectAct receiver entry env) acts st r = protect_fits (protect_end entry.number receiver (Go t v)) entry env acts st r.1
  unwind_fits t v (EnsureOn n block env) acts st r = (tt, r.1)
  unwind_fits t v (CurtailOn n block env) acts st r = (tt, r.1)
  unwind_fits t v (ActionOff n held) acts st r = r.1
  unwind_fits t v (SignalAct n e env) acts st r = signal_fits n e (signal_end n (Go t v)) env acts st r.1
  unwind_fits t v (HandlerRun n turn) acts st r = r.1
  unwind_fits t v (OuterAct n) acts st r = ended_fits n (outer_end n (Go t v)) acts st r.1
  unwind_fits t v (ResumeWait n w k turn env) acts st r = r.1
  unwind_fits t v (HandlesWait n x entry rest) acts st r = r.1
  unwind_fits t v (LoopAct n l env) acts st r = r.1

  pub settle_fits : (o : Outcome) (acts : List (Act FlatBody)) (st : State) → ActsFit p acts → MachFits p (step F p (Settle o acts st))
  settle_fits (Answer v) [] st r = tt
  settle_fits (Answer v) (a ∷ acts) st r = give_fits v a acts st r
  settle_fits (Go t v) [] st r = tt
  settle_fits (Go t v) (a ∷ acts) st r = unwind_fits t v a acts st r
  settle_fits (Stop l) acts st r = tt
