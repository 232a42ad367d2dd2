-- Each unwinding that the scoped machine has in hand is aimed at what stands: a law for each small step.
use Rattle.std.proofs.Common.{◌≡◌, ℕ, ◌+◌, ◌<◌, ◌≤◌, inl, max, length, List, [], ◌∷◌, Option, Some, None, Bool, true, false, refl, sym, subst, arith, nat_lt, nat_le, if◌then◌else◌}
use Rattle.object_heap.specs.declared.value.Value.{Value}
use Rattle.object_heap.specs.declared.value.Value.TheVariants.{Object}
use Rattle.object_heap.specs.declared.value.Closure.{Closure}
use Rattle.object_heap.specs.Store.{object_at}
use Rattle.st_code.specs.Program.{Program, body_at}
use Rattle.st_code.specs.Messages.{Control}
use Rattle.st_code.specs.Lookup.{is_plain, fits, is_exception}
use Rattle.st_collections.specs.Actions.{Action, Gives, Changes, Makes, Writes, Fails, DividesByZero, PassesIntegers, Begins, Activates, Sends, Misses, Enters, Guards, Ensures, Curtails, Iterates, Raises, RaisesNew, Controls, Terminates, Visit, Applies, Compares, Finishes, Lacks, Charges, with_new}
use Rattle.st_collections.specs.Kinds.{is_true}
use Rattle.st_collections.specs.Loops.{first_visit, next_visit}
use Rattle.st_rules.specs.Events.{Event}
use Rattle.st_rules.specs.State.{State, Entry, Env, Target, Outcome, Answer, Go, Stop, Turn, Mark, BodyMark, ProtectMark, ActionMark, LoopMark, WaitMark, OuterMark, SignalMark, TurnMark, number_of_mark, told, is_at_signal, step_made, stood, used, scope_cells, with_scope, is_live, FoundTurn, NoTurn, TurnAt, turn_of}
use Rattle.st_rules.specs.Ends.{charged, ended, with_arguments, with_message, with_opened, Opening, block_opening, method_opening, SignalVerdict, Ends, Signals, signal_end, Verdict, Leaves, Again, protect_end, turn_end, outer_end, Search, Purpose, ForPass, ForOuter, ForNested, turn_for, asks_nested, Wait, ToResume, ToOuter}
use Rattle.st_rules.specs.Rules.{Use, Apply, Activate, Enter, SendTo, SuperTo, Perform, Raise, RaiseNew, SignalPoint, Resignaled, SearchIn, TurnBy, Ask, Protect, Finish, VisitBy, RunBody, closure_for, apply_by, handler_by, with_exception, exception_cells}
use Rattle.st_rules.specs.Machine.{Act, BodyAct, Leaving, ProtectAct, EnsureOn, CurtailOn, ActionOff, SignalAct, HandlerRun, OuterAct, ResumeWait, HandlesWait, LoopAct, Mach, Run, Settle, Begin, Over, Stuck, Bodies, mark_of, marks, open_act, raise_act, raise_new_act, tried_act, judged_act, search_act, turn_act, pass_act, asked_act, resignal_act, resignal_as_act, control_by_act, control_without_act, control_in_act, control_act, visit_act, perform_act, begin, protect_verdict, signal_verdict, give, unwind, step}
use Rattle.st_rules.specs.Scoped.{ScopedBody, scoped_number, scoped}
use Rattle.st_rules.specs.Unwindings.{In, IsBody, IsProtect, Stands}
use Rattle.st_rules.proofs.SameVisits.{next_visit_free, first_visit_free}
use Rattle.st_rules.proofs.FlatControl.{visit_held}
use Rattle.st_rules.proofs.Targets.{AimedAt, EnvOk, EntryOk, TurnOk, MarkOk, Under, HomeOk, Ok, NumberOk, env_more, turn_more, ok_later, ok_push, ok_drop, number_next, number_again, FoundOk, turn_found, Passes, passed_on, body_ends, outer_ends, SignalAimed, signal_ends, ProtectAimed, protect_ends}
use Rattle.st_rules.proofs.AimedActions.{ActionOk, There', there_for, send_fine, super_fine}
use Rattle.st_rules.proofs.Aims.{PurposeOk, SearchOk, VisitOk, visit_ok, UseOk, fresh_home, turn_begun, there_more, if_default}

-- ---- what holds of what stands

-- a body with what stands behind it
pub record BodyFits (own home : ℕ) (env : Env) (s : List Mark) (next : ℕ) : Type 0 where
  pub env_ok : EnvOk env s
  pub own_taken : own < next
  pub home_ok : HomeOk home (BodyMark own ∷ s)
  pub home_taken : home < next

body_later : (own home : ℕ) (env : Env) (s : List Mark) (a b : ℕ) → a ≤ b → BodyFits own home env s a → BodyFits own home env s b
body_later own home env s a b le h = record { env_ok = h.env_ok; own_taken = omega (arith, h.own_taken, le); home_ok = h.home_ok; home_taken = omega (arith, h.home_taken, le) }

abbrev pub ActFits : List Mark → ℕ → Act ScopedBody → Type 0
ActFits s next (BodyAct x) = BodyFits x.frame.own x.frame.home x.env s next
ActFits s next (Leaving x) = Unit {0}
ActFits s next (ProtectAct receiver entry env) = EnvOk env s × Under entry.number s
ActFits s next (EnsureOn n block env) = EnvOk env s × Under n s
ActFits s next (CurtailOn n block env) = EnvOk env s × Under n s
ActFits s next (ActionOff n held) = AimedAt held s
ActFits s next (SignalAct n e env) = EnvOk env s × Under n s
ActFits s next (HandlerRun n t) = Unit {0}
ActFits s next (OuterAct n) = Unit {0}
ActFits s next (ResumeWait n w k t env) = EnvOk env s × TurnOk t s
ActFits s next (HandlesWait n x entry rest) = In (IsProtect entry.number) s × EnvOk rest s × SearchOk x s
ActFits s next (LoopAct n l env) = EnvOk env s × Under n s

abbrev pub ActsFit : ℕ → List (Act ScopedBody) → Type 0
ActsFit next [] = Unit {0}
ActsFit next (a ∷ acts) = ActFits (marks scoped_number acts) next a × ActsFit next acts

act_later : (s : List Mark) (a b : ℕ) (x : Act ScopedBody) → a ≤ b → ActFits s a x → ActFits s b x
act_later s a b (BodyAct x) le h = body_later x.frame.own x.frame.home x.env s a b le h
act_later s a b (Leaving x) le h = h
act_later s a b (ProtectAct receiver entry env) le h = h
act_later s a b (EnsureOn n block env) le h = h
act_later s a b (CurtailOn n block env) le h = h
act_later s a b (ActionOff n held) le h = h
act_later s a b (SignalAct n e env) le h = h
act_later s a b (HandlerRun n t) le h = h
act_later s a b (OuterAct n) le h = h
act_later s a b (ResumeWait n w k t env) le h = h
act_later s a b (HandlesWait n x entry rest) le h = h
act_later s a b (LoopAct n l env) le h = h

acts_later : (a b : ℕ) (acts : List (Act ScopedBody)) → a ≤ b → ActsFit a acts → ActsFit b acts
acts_later a b [] le h = tt
acts_later a b (x ∷ acts) le h = (act_later (marks scoped_number acts) a b x le h.0, acts_later a b acts le h.1)

-- what stands with the next number and the closures
abbrev pub Held : List (Act ScopedBody) → ℕ → List Closure → Type 0
Held acts next cs = Ok (marks scoped_number acts) next cs × ActsFit next acts

abbrev pub HeldIn : List (Act ScopedBody) → State → Type 0
HeldIn acts st = Held acts st.next st.store.closures

abbrev pub OverFits : Outcome → State → Type 0
OverFits (Answer v) st = HeldIn [] st
OverFits (Go t v) st = Unit {0}
OverFits (Stop l) st = Unit {0}

abbrev pub MachFits : Mach ScopedBody → Type 0
MachFits (Run x acts st) = HeldIn acts st × BodyFits x.frame.own x.frame.home x.env (marks scoped_number acts) st.next
MachFits (Settle o acts st) = HeldIn acts st × AimedAt o (marks scoped_number acts)
MachFits (Begin u acts st) = HeldIn acts st × UseOk (marks scoped_number acts) st.next st.store.closures u
MachFits (Over o st) = OverFits o st
MachFits (Stuck st) = Unit {0}

-- ---- charges

module _ (p : Program) where
  pub step_fits : (st : State) (m : Mach ScopedBody) (k : State → Mach ScopedBody) → MachFits m → ((n : ℕ) → MachFits (k (record st { steps = n }))) → MachFits (charged (step_made p st) m k)
  unfolding step_made
  step_fits st m k stop on = go (nat_lt st.steps p.step_limit)
    where
      go : (c : Bool) → MachFits (charged (if c then Some (record st { steps = st.steps + 1 }) else None) m k)
      go true = on _
      go false = stop

  pub stood_fits : (standing : List Mark) (st : State) (m : Mach ScopedBody) (k : State → Mach ScopedBody) → MachFits m → ((d : ℕ) → MachFits (k (record st { depth = d; next = st.next + 1 }))) → MachFits (charged (stood p standing st) m k)
  unfolding stood
  stood_fits standing st m k stop on = go (nat_le (length standing + 1) p.depth_limit)
    where
      go : (c : Bool) → MachFits (charged (if c then Some (record st { depth = max st.depth (length standing + 1); next = st.next + 1 }) else None) m k)
      go true = on _
      go false = stop

  pub used_fits : (cells : ℕ) (st : State) (m : Mach ScopedBody) (k : State → Mach ScopedBody) → MachFits m → ((c : ℕ) → MachFits (k (record st { cells = c }))) → MachFits (charged (used p cells st) m k)
  unfolding used
  used_fits cells st m k stop on = go (nat_le (st.cells + cells) p.cell_limit)
    where
      go : (c : Bool) → MachFits (charged (if c then Some (record st { cells = st.cells + cells }) else None) m k)
      go true = on _
      go false = stop

-- ---- pushes and drops

-- with the next number taken
more : (acts : List (Act ScopedBody)) (next : ℕ) (cs : List Closure) → Held acts next cs → Held acts (next + 1) cs
more acts next cs h = (ok_later (marks scoped_number acts) next (next + 1) cs (omega arith) h.0, acts_later next (next + 1) acts (omega arith) h.1)

-- something with a number that is its own is pushed
push : (a : Act ScopedBody) (acts : List (Act ScopedBody)) (next : ℕ) (cs : List Closure) → Held acts next cs → NumberOk (number_of_mark (mark_of scoped_number a)) (marks scoped_number acts) next cs → MarkOk (mark_of scoped_number a) (marks scoped_number acts) → ActFits (marks scoped_number acts) next a → Held (a ∷ acts) next cs
push a acts next cs h n m f = (ok_push (mark_of scoped_number a) (marks scoped_number acts) next cs h.0 n m, (f, h.1))

-- and with the next number
push_next : (a : Act ScopedBody) (acts : List (Act ScopedBody)) (next : ℕ) (cs : List Closure) → Held acts next cs → number_of_mark (mark_of scoped_number a) ≡ next → MarkOk (mark_of scoped_number a) (marks scoped_number acts) → ActFits (marks scoped_number acts) (next + 1) a → Held (a ∷ acts) (next + 1) cs
push_next a acts next cs h e m f =
    push a acts (next + 1) cs (more acts next cs h) (subst (λ k. NumberOk k (marks scoped_number acts) (next + 1) cs) (sym e) (number_next (marks scoped_number acts) next cs h.0)) m f

drop_act : (a : Act ScopedBody) (acts : List (Act ScopedBody)) (next : ℕ) (cs : List Closure) → Held (a ∷ acts) next cs → Held acts next cs
drop_act a acts next cs h = (ok_drop (mark_of scoped_number a) (marks scoped_number acts) next cs h.0, h.1.1)

-- with other closures that are the same
same_closures : (acts : List (Act ScopedBody)) (next : ℕ) (cs ds : List Closure) → ds ≡ cs → Held acts next cs → Held acts next ds
same_closures acts next cs ds e h = subst (λ x. Held acts next x) (sym e) h

passes_wait : (i : ℕ) → Passes (WaitMark i)
passes_wait i m = (λ x. x, λ x. x, λ x. x, λ x. x)

passes_turn : (i : ℕ) (t : Turn) → Passes (TurnMark i t)
passes_turn i t m = (λ x. x, λ x. x, λ x. x, λ x. x)

passes_action : (i : ℕ) → Passes (ActionMark i)
passes_action i m = (λ x. x, λ x. x, λ x. x, λ x. x)

passes_loop : (i : ℕ) → Passes (LoopMark i)
passes_loop i m = (λ x. x, λ x. x, λ x. x, λ x. x)

module _ (p : Program) where
  abbrev S : Bodies ScopedBody
  S = scoped p

  abbrev M : List (Act ScopedBody) → List Mark
  M acts = marks scoped_number acts

  ended_fits : (n : ℕ) (o : Outcome) (acts : List (Act ScopedBody)) (st : State) → HeldIn acts st → AimedAt o (M acts) → MachFits (Settle o acts (ended n o st))
  ended_fits n (Answer v) acts st h a = (h, a)
  ended_fits n (Go t v) acts st h a = (h, a)
  ended_fits n (Stop l) acts st h a = (h, a)

  pub open_fits : (x : Opening) (acts : List (Act ScopedBody)) (st : State) → HeldIn acts st → BodyFits x.own x.home x.env (M acts) (st.next + 1) → MachFits (open_act S p x acts st)
  unfolding with_opened with_scope
  open_fits x acts st h b =
      stood_fits p (M acts) st _ _ (h, tt) (λ d. used_fits p (scope_cells (body_at p x.code)) _ _ _ (more acts st.next st.store.closures h, tt) (λ c. (more acts st.next st.store.closures h, b)))

  -- ---- signals, searches and turns

  raise_fits : (live : Bool) (e : ℕ) (env : Env) (acts : List (Act ScopedBody)) (st : State) → HeldIn acts st → EnvOk env (M acts) → MachFits (raise_act S p live e env acts st)
  raise_fits true e env acts st h v = (h, v)
  raise_fits false e env acts st h v =
      stood_fits p (M acts) st _ _ (h, tt) (λ d. (more acts st.next st.store.closures h, (v, number_next (M acts) st.next st.store.closures h.0)))

  raise_new_fits : (c : ℕ) (slots : List Value) (env : Env) (acts : List (Act ScopedBody)) (st : State) → HeldIn acts st → EnvOk env (M acts) → MachFits (raise_new_act S p c slots env acts st)
  unfolding with_exception with_new
  raise_new_fits c slots env acts st h v =
      stood_fits p (M acts) st _ _ (h, tt) (λ d. used_fits p (exception_cells p c) _ _ _ (more acts st.next st.store.closures h, tt) (λ u. (more acts st.next st.store.closures h, (v, number_next (M acts) st.next st.store.closures h.0))))

  tried_fits : (a : Bool) (x : Search) (entry : Entry) (rest : Env) (acts : List (Act ScopedBody)) (st : State) → HeldIn acts st → In (IsProtect entry.number) (M acts) → EnvOk rest (M acts) → SearchOk x (M acts) → MachFits (tried_act S p a x entry rest acts st)
  tried_fits true x entry rest acts st h e v k = (h, (e, v, k))
  tried_fits false x entry rest acts st h e v k = (h, (v, k))

  judged_fits : (a : Bool) (x : Search) (entry : Entry) (rest : Env) (acts : List (Act ScopedBody)) (st : State) → HeldIn acts st → In (IsProtect entry.number) (M acts) → EnvOk rest (M acts) → SearchOk x (M acts) → MachFits (judged_act S p a x entry rest acts st)
  judged_fits true x entry rest acts st h e v k = tried_fits (fits p st.store entry.selector (object_at x.exception st.store).class) x entry rest acts st h e v k
  judged_fits false x entry rest acts st h e v k =
      stood_fits p (M acts) st _ _ (h, tt) (λ d. (push_next (HandlesWait st.next x entry rest) acts st.next st.store.closures h refl tt (e, v, k), env_more rest (WaitMark st.next) (M acts) v))

  search_fits : (x : Search) (rest : Env) (acts : List (Act ScopedBody)) (st : State) → HeldIn acts st → EnvOk rest (M acts) → SearchOk x (M acts) → MachFits (search_act S p x rest acts st)
  search_fits x [] acts st h v k = (h, (tt, k.whole, k))
  search_fits x (entry ∷ rest) acts st h v k = judged_fits (is_plain p st.store entry.selector) x entry rest acts st h v.0 v.1 k

  handler_fits : (o : Option Closure) (handler : Value) (e : ℕ) (env : Env) (acts : List (Act ScopedBody)) (st : State) → HeldIn acts st → EnvOk env (M acts) → There' o (M acts) st.next → MachFits (Begin (handler_by o handler e env) acts st)
  handler_fits None handler e env acts st h v t = (h, v)
  handler_fits (Some c) handler e env acts st h v t = (h, (v, t.0, t.1))

  turn_fits : (a : Bool) (x : Search) (entry : Option Entry) (outside : Env) (acts : List (Act ScopedBody)) (st : State) → asks_nested x ≡ a → HeldIn acts st → EntryOk entry (M acts) → EnvOk outside (M acts) → SearchOk x (M acts) → MachFits (turn_act S p a x entry outside acts st)
  turn_fits true x None outside acts st q h e v k = (h, tt)
  turn_fits true x (Some entry) outside acts st q h e v k = (h, tt)
  turn_fits false x None outside acts st q h e v k =
      let t = turn_for x None outside in
      let t_ok = turn_begun x.exception x.who x.whole x.purpose None outside (M acts) k.purpose e v q in
      stood_fits p (M acts) st _ _ (h, tt) (λ d. (push_next (HandlerRun st.next t) acts st.next st.store.closures h refl t_ok tt, env_more outside (TurnMark st.next t) (M acts) v))
  turn_fits false x (Some entry) outside acts st q h e v k =
      let t = turn_for x (Some entry) outside in
      let t_ok = turn_begun x.exception x.who x.whole x.purpose (Some entry) outside (M acts) k.purpose e v q in
      let found = there_for p (M acts) st.next st.store h.0.homes entry.handler 0 in
      stood_fits p (M acts) st _ _ (h, tt) (λ d.
      handler_fits (closure_for p st.store entry.handler 0) entry.handler x.exception outside (HandlerRun st.next t ∷ acts) (told (Event.Handle st.next entry.number) (record st { depth = d; next = st.next + 1 })) (push_next (HandlerRun st.next t) acts st.next st.store.closures h refl t_ok tt) (env_more outside (TurnMark st.next t) (M acts) v) (there_more (closure_for p st.store entry.handler 0) (TurnMark st.next t) (M acts) st.next refl found))

  -- ---- exception actions

  pass_fits : (k e : ℕ) (t : Turn) (purpose : Purpose) (acts : List (Act ScopedBody)) (st : State) → HeldIn acts st → TurnOk t (M acts) → PurposeOk purpose k (M acts) → MachFits (pass_act S p k e t purpose acts st)
  pass_fits k e t purpose acts st h t_ok q = (h, (t_ok.outside, record { whole = t_ok.outside; purpose = q }))

  asked_fits : (a : Bool) (w : Wait) (k : ℕ) (t : Turn) (env : Env) (acts : List (Act ScopedBody)) (st : State) → HeldIn acts st → EnvOk env (M acts) → TurnOk t (M acts) → MachFits (asked_act S p a w k t env acts st)
  asked_fits true (ToResume v) k t env acts st h e t_ok = (h, t_ok.resume)
  asked_fits false (ToResume v) k t env acts st h e t_ok = (h, e)
  asked_fits true ToOuter k t env acts st h e t_ok =
      stood_fits p (M acts) st _ _ (h, tt) (λ d.
      pass_fits k t.exception t (ForOuter t st.next) (OuterAct st.next ∷ acts) (told (Event.Outer st.next) (record st { depth = d; next = st.next + 1 })) (push_next (OuterAct st.next) acts st.next st.store.closures h refl tt tt) (turn_more t (OuterMark st.next) (M acts) t_ok) (turn_more t (OuterMark st.next) (M acts) t_ok, inl refl))
  asked_fits false ToOuter k t env acts st h e t_ok = pass_fits k t.exception t (ForPass t) acts st h t_ok t_ok

  resignal_fits : (a live : Bool) (t : Turn) (f : ℕ) (v : Value) (env : Env) (acts : List (Act ScopedBody)) (st : State) → HeldIn acts st → EnvOk env (M acts) → TurnOk t (M acts) → MachFits (resignal_act S p a live t f v env acts st)
  resignal_fits false live t f v env acts st h e t_ok = (h, e)
  resignal_fits true true t f v env acts st h e t_ok = (h, e)
  resignal_fits true false t f v env acts st h e t_ok = (h, t_ok.signal)

  resignal_as_fits : (t : Turn) (v : Value) (env : Env) (acts : List (Act ScopedBody)) (st : State) → HeldIn acts st → EnvOk env (M acts) → TurnOk t (M acts) → MachFits (resignal_as_act S p t v env acts st)
  resignal_as_fits t (Object f) env acts st h e t_ok = resignal_fits (is_exception p st.store (Object f)) (is_live f (M acts)) t f (Object f) env acts st h e t_ok
  resignal_as_fits t v env acts st h e t_ok = (h, e)

  control_by_fits : (c : Control) (v : Value) (k : ℕ) (t : Turn) (entry : Entry) (env : Env) (acts : List (Act ScopedBody)) (st : State) → HeldIn acts st → EnvOk env (M acts) → TurnOk t (M acts) → In (IsProtect entry.number) (M acts) → MachFits (control_by_act S p c v k t entry env acts st)
  control_by_fits Control.Return v k t entry env acts st h e t_ok i = (h, i)
  control_by_fits Control.Retry v k t entry env acts st h e t_ok i = (h, i)
  control_by_fits Control.RetryUsing v k t entry env acts st h e t_ok i = (h, i)
  control_by_fits Control.Resume v k t entry env acts st h e t_ok i = (h, (e, t_ok))
  control_by_fits Control.Pass v k t entry env acts st h e t_ok i = pass_fits k t.exception t (ForPass t) acts st h t_ok t_ok
  control_by_fits Control.Outer v k t entry env acts st h e t_ok i = (h, (e, t_ok))
  control_by_fits Control.ResignalAs v k t entry env acts st h e t_ok i = resignal_as_fits t v env acts st h e t_ok
  control_by_fits Control.IsNested v k t entry env acts st h e t_ok i = pass_fits k t.exception t ForNested acts st h t_ok tt

  control_without_fits : (c : Control) (v : Value) (k : ℕ) (t : Turn) (env : Env) (acts : List (Act ScopedBody)) (st : State) → HeldIn acts st → EnvOk env (M acts) → TurnOk t (M acts) → MachFits (control_without_act S p c v k t env acts st)
  control_without_fits Control.Resume v k t env acts st h e t_ok = (h, (e, t_ok))
  control_without_fits c v k t env acts st h e t_ok = (h, e)

  control_in_fits : (entry : Option Entry) (c : Control) (v : Value) (k : ℕ) (t : Turn) (env : Env) (acts : List (Act ScopedBody)) (st : State) → HeldIn acts st → EnvOk env (M acts) → TurnOk t (M acts) → EntryOk entry (M acts) → MachFits (control_in_act S p entry c v k t env acts st)
  control_in_fits (Some entry) c v k t env acts st h e t_ok i = control_by_fits c v k t entry env acts st h e t_ok i
  control_in_fits None c v k t env acts st h e t_ok i = control_without_fits c v k t env acts st h e t_ok

  control_fits : (f : FoundTurn) (c : Control) (v : Value) (env : Env) (acts : List (Act ScopedBody)) (st : State) → HeldIn acts st → EnvOk env (M acts) → FoundOk f (M acts) → MachFits (control_act S p f c v env acts st)
  control_fits NoTurn c v env acts st h e t_ok = (h, e)
  control_fits (TurnAt k t) c v env acts st h e t_ok = control_in_fits t.entry c v k t env acts st h e t_ok t_ok.entry

  -- ---- loops

  visit_fits : (n : ℕ) (v : Visit) (env : Env) (acts : List (Act ScopedBody)) (st : State) → HeldIn acts st → EnvOk env (M acts) → NumberOk n (M acts) st.next st.store.closures → VisitOk st.store.closures v → MachFits (visit_act S p n v env acts st)
  visit_fits n (Applies l v args) env acts st h e k q = (push (LoopAct n l env) acts st.next st.store.closures h k tt (e, k.above), env_more env (LoopMark n) (M acts) e)
  visit_fits n (Compares l r v) env acts st h e k q = (push (LoopAct n l env) acts st.next st.store.closures h k tt (e, k.above), env_more env (LoopMark n) (M acts) e)
  visit_fits n (Finishes v) env acts st h e k q = (h, tt)
  visit_fits n (Lacks l) env acts st h e k q = (push (LoopAct n l env) acts st.next st.store.closures h k tt (e, k.above), env_more env (LoopMark n) (M acts) e)
  visit_fits n (Charges cells s v) env acts st h e k q =
      used_fits p cells st _ _ (h, tt) (λ c.
      visit_fits n v env acts (record st { cells = c; store = s }) (same_closures acts st.next st.store.closures s.closures q.0 h) e (subst (λ cs. NumberOk n (M acts) st.next cs) (sym q.0) k) (subst (λ cs. VisitOk cs v) (sym q.0) q.1))

  -- ---- what a message does at once

  perform_fits : (a : Action) (env : Env) (acts : List (Act ScopedBody)) (st : State) → HeldIn acts st → EnvOk env (M acts) → ActionOk (M acts) st.next st.store.closures a → MachFits (perform_act S p a env acts st)
  unfolding with_arguments with_message with_new
  perform_fits (Gives v) env acts st h e k = (h, tt)
  perform_fits (Changes s v) env acts st h e k = (same_closures acts st.next st.store.closures s.closures k h, tt)
  perform_fits (Makes cells s v) env acts st h e k = used_fits p cells st _ _ (h, tt) (λ c. ((record { sound = h.0.sound; under = h.0.under; homes = k }, h.1), tt))
  perform_fits (Writes text v) env acts st h e k = (h, tt)
  perform_fits (Fails trouble) env acts st h e k = (h, e)
  perform_fits (DividesByZero dividend) env acts st h e k = (h, e)
  perform_fits PassesIntegers env acts st h e k = (h, tt)
  perform_fits (Begins v args) env acts st h e k = (h, e)
  perform_fits (Activates c args) env acts st h e k = (h, (e, k.0, k.1))
  perform_fits (Sends selector r args) env acts st h e k = (h, e)
  perform_fits (Misses selector r args) env acts st h e k = used_fits p (1 + length args) st _ _ (h, tt) (λ c. used_fits p 3 _ _ _ (h, tt) (λ d. (h, e)))
  perform_fits (Enters code r args) env acts st h e k = (h, e)
  perform_fits (Guards receiver selector handler) env acts st h e k =
      stood_fits p (M acts) st _ _ (h, tt) (λ d. (more acts st.next st.store.closures h, (e, number_next (M acts) st.next st.store.closures h.0)))
  perform_fits (Ensures receiver block) env acts st h e k =
      stood_fits p (M acts) st _ _ (h, tt) (λ d. (push_next (EnsureOn st.next block env) acts st.next st.store.closures h refl tt (e, h.0.under), env_more env (ActionMark st.next) (M acts) e))
  perform_fits (Curtails receiver block) env acts st h e k =
      stood_fits p (M acts) st _ _ (h, tt) (λ d. (push_next (CurtailOn st.next block env) acts st.next st.store.closures h refl tt (e, h.0.under), env_more env (ActionMark st.next) (M acts) e))
  perform_fits (Iterates l) env acts st h e k =
      let first = visit_ok p st.store.closures st.store.scopes (first_visit p st.store l) (visit_held p st.store.closures st.store.scopes (first_visit p st.store l) (first_visit_free p st.store st.store.closures st.store.scopes l)) in
      stood_fits p (M acts) st _ _ (h, tt) (λ d. (more acts st.next st.store.closures h, (e, number_next (M acts) st.next st.store.closures h.0, first)))
  perform_fits (Raises s x) env acts st h e k = (same_closures acts st.next st.store.closures s.closures k h, e)
  perform_fits (RaisesNew class slots) env acts st h e k = (h, e)
  perform_fits (Controls c x v) env acts st h e k = control_fits (turn_of x (M acts)) c v env acts st h e (turn_found x (M acts) h.0.sound)
  perform_fits (Terminates v) env acts st h e k = (h, tt)

  -- ---- the beginning of a use

  apply_fits : (o : Option Closure) (v : Value) (args : List Value) (env : Env) (acts : List (Act ScopedBody)) (st : State) → HeldIn acts st → EnvOk env (M acts) → There' o (M acts) st.next → MachFits (Begin (apply_by p o v args env) acts st)
  apply_fits None v args env acts st h e t = (h, e)
  apply_fits (Some c) v args env acts st h e t = (h, (e, t.0, t.1))

  begin_fits : (u : Use) (acts : List (Act ScopedBody)) (st : State) → HeldIn acts st → UseOk (M acts) st.next st.store.closures u → MachFits (begin S p u acts st)
  begin_fits (Apply v args env) acts st h u = apply_fits (closure_for p st.store v (length args)) v args env acts st h u (there_for p (M acts) st.next st.store h.0.homes v (length args))
  begin_fits (Activate c args env) acts st h u =
      step_fits p st _ _ (h, tt) (λ n. open_fits (block_opening c args env st.next) acts (record st { steps = n }) h (record { env_ok = u.0; own_taken = omega arith; home_ok = (λ e. sym e, u.1); home_taken = omega (arith, u.2) }))
  begin_fits (Enter code r args env) acts st h u =
      open_fits (method_opening p code r args env st.next) acts st h (record { env_ok = u; own_taken = omega arith; home_ok = (λ e. sym e, fresh_home st.next (M acts) h.0.under); home_taken = omega arith })
  begin_fits (SendTo selector r args env) acts st h u = step_fits p st _ _ (h, tt) (λ n. (h, (u, send_fine p (M acts) st.next st.store h.0.homes selector r args)))
  begin_fits (SuperTo class selector r args env) acts st h u = step_fits p st _ _ (h, tt) (λ n. (h, (u, super_fine p (M acts) st.next st.store h.0.homes class selector r args)))
  begin_fits (Perform a env) acts st h u = perform_fits a env acts st h u.0 u.1
  begin_fits (Raise e env) acts st h u = raise_fits (is_live e (M acts)) e env acts st h u
  begin_fits (RaiseNew class slots env) acts st h u = raise_new_fits class slots env acts st h u
  begin_fits (SignalPoint n e env) acts st h u =
      (push (SignalAct n e env) acts st.next st.store.closures h u.1 tt (u.0, u.1.above), (env_more env (SignalMark n e) (M acts) u.0, record { whole = env_more env (SignalMark n e) (M acts) u.0; purpose = (inl refl, inl refl) }))
  begin_fits (Resignaled n e f env) acts st h u = (push (SignalAct n e env) acts st.next st.store.closures h u.1 tt (u.0, u.1.above), env_more env (SignalMark n e) (M acts) u.0)
  begin_fits (SearchIn x rest) acts st h u = search_fits x rest acts st h u.0 u.1
  begin_fits (TurnBy x entry outside) acts st h u = turn_fits (asks_nested x) x entry outside acts st refl h u.0 u.1 u.2
  begin_fits (Ask w k t env) acts st h u =
      stood_fits p (M acts) st _ _ (h, tt) (λ d. (push_next (ResumeWait st.next w k t env) acts st.next st.store.closures h refl tt (u.0, u.1), env_more env (WaitMark st.next) (M acts) u.0))
  begin_fits (Protect receiver entry env) acts st h u =
      (push (ProtectAct receiver entry env) acts st.next st.store.closures h u.1 tt (u.0, u.1.above), (inl refl, env_more env (ProtectMark entry.number) (M acts) u.0))
  begin_fits (Finish n block held env) acts st h u = (push (ActionOff n held) acts st.next st.store.closures h u.1 tt u.2, env_more env (ActionMark n) (M acts) u.0)
  begin_fits (VisitBy n v env) acts st h u = visit_fits n v env acts st h u.0 u.1 u.2
  begin_fits (RunBody f env) acts st h u = tt

  -- ---- an outcome at an activation

  -- the number of what is dropped, and isn't a body
  again : (a : Act ScopedBody) (acts : List (Act ScopedBody)) (st : State) → HeldIn (a ∷ acts) st → Under (number_of_mark (mark_of scoped_number a)) (M acts) → ((h : ℕ) → IsBody h (mark_of scoped_number a) → ⊥) → NumberOk (number_of_mark (mark_of scoped_number a)) (M acts) st.next st.store.closures
  again a acts st h above none = number_again (mark_of scoped_number a) (M acts) st.next st.store.closures h.0 above none

  protect_fits : (d : Verdict) (entry : Entry) (env : Env) (acts : List (Act ScopedBody)) (st : State) → HeldIn acts st → ProtectAimed d (M acts) → EnvOk env (M acts) → NumberOk entry.number (M acts) st.next st.store.closures → MachFits (protect_verdict S p d entry env acts st)
  protect_fits (Leaves o) entry env acts st h a e k = ended_fits entry.number o acts st h a
  protect_fits (Again receiver) entry env acts st h a e k = (h, (e, k))

  signal_fits : (n x : ℕ) (d : SignalVerdict) (env : Env) (acts : List (Act ScopedBody)) (st : State) → HeldIn acts st → SignalAimed d (M acts) → EnvOk env (M acts) → NumberOk n (M acts) st.next st.store.closures → MachFits (signal_verdict S p n x d env acts st)
  signal_fits n x (Ends o) env acts st h a e k = ended_fits n o acts st h a
  signal_fits n x (Signals f) env acts st h a e k = (h, (e, k))

  default_aimed : (c : Bool) (n : ℕ) (v : Value) (s : List Mark) → Stands (Target.Resume n) s → AimedAt (if_default c n v) s
  default_aimed true n v s r = tt
  default_aimed false n v s r = r

  turn_aimed : (t : Turn) (entry : Option Entry) (s : List Mark) (v : Value) → EntryOk entry s → Stands (Target.Resume t.resume_point) s → AimedAt (elim entry [ Some x ↦ Go (Target.Protected x.number) v | None ↦ if_default (is_at_signal t.signal s) t.resume_point v ]) s
  turn_aimed t None s v e r = default_aimed (is_at_signal t.signal s) t.resume_point v s r
  turn_aimed t (Some x) s v e r = e

  give_fits : (v : Value) (a : Act ScopedBody) (acts : List (Act ScopedBody)) (st : State) → HeldIn (a ∷ acts) st → MachFits (give S p v a acts st)
  give_fits v (BodyAct x) acts st h = (drop_act (BodyAct x) acts st.next st.store.closures h, h.1.0)
  give_fits v (Leaving x) acts st h = (drop_act (Leaving x) acts st.next st.store.closures h, tt)
  give_fits v (ProtectAct receiver entry env) acts st h =
      protect_fits (protect_end entry.number receiver (Answer v)) entry env acts st (drop_act (ProtectAct receiver entry env) acts st.next st.store.closures h) (protect_ends entry.number receiver (Answer v) (M acts) tt) h.1.0.0 (again (ProtectAct receiver entry env) acts st h h.1.0.1 (λ k x. x))
  give_fits v (EnsureOn n block env) acts st h = (drop_act (EnsureOn n block env) acts st.next st.store.closures h, (h.1.0.0, again (EnsureOn n block env) acts st h h.1.0.1 (λ k x. x), tt))
  give_fits v (CurtailOn n block env) acts st h = (drop_act (CurtailOn n block env) acts st.next st.store.closures h, tt)
  give_fits v (ActionOff n held) acts st h = ended_fits n held acts st (drop_act (ActionOff n held) acts st.next st.store.closures h) h.1.0
  give_fits v (SignalAct n e env) acts st h =
      signal_fits n e (signal_end n (Answer v)) env acts st (drop_act (SignalAct n e env) acts st.next st.store.closures h) (signal_ends n e (Answer v) (M acts) tt) h.1.0.0 (again (SignalAct n e env) acts st h h.1.0.1 (λ k x. x))
  give_fits v (HandlerRun n t) acts st h =
      ended_fits n (turn_end t (M acts) (Answer v)) acts st (drop_act (HandlerRun n t) acts st.next st.store.closures h) (turn_aimed t t.entry (M acts) v h.0.sound.0.entry h.0.sound.0.resume)
  give_fits v (OuterAct n) acts st h = ended_fits n (outer_end n (Answer v)) acts st (drop_act (OuterAct n) acts st.next st.store.closures h) tt
  give_fits v (ResumeWait n w k t env) acts st h = asked_fits (is_true v) w k t env acts st (drop_act (ResumeWait n w k t env) acts st.next st.store.closures h) h.1.0.0 h.1.0.1
  give_fits v (HandlesWait n x entry rest) acts st h = tried_fits (is_true v) x entry rest acts _ (drop_act (HandlesWait n x entry rest) acts st.next st.store.closures h) h.1.0.0 h.1.0.1 h.1.0.2
  give_fits v (LoopAct n l env) acts st h =
      let next = visit_ok p st.store.closures st.store.scopes (next_visit p st.store l v) (visit_held p st.store.closures st.store.scopes (next_visit p st.store l v) (next_visit_free p st.store st.store.closures st.store.scopes l v)) in
      (drop_act (LoopAct n l env) acts st.next st.store.closures h, (h.1.0.0, again (LoopAct n l env) acts st h h.1.0.1 (λ k x. x), next))

  unwind_fits : (t : Target) (v : Value) (a : Act ScopedBody) (acts : List (Act ScopedBody)) (st : State) → HeldIn (a ∷ acts) st → Stands t (mark_of scoped_number a ∷ M acts) → MachFits (unwind S p t v a acts st)
  unwind_fits t v (BodyAct x) acts st h g = (drop_act (BodyAct x) acts st.next st.store.closures h, body_ends x.frame (Go t v) (M acts) g)
  unwind_fits t v (Leaving x) acts st h g = (drop_act (Leaving x) acts st.next st.store.closures h, body_ends x.frame (Go t v) (M acts) g)
  unwind_fits t v (ProtectAct receiver entry env) acts st h g =
      protect_fits (protect_end entry.number receiver (Go t v)) entry env acts st (drop_act (ProtectAct receiver entry env) acts st.next st.store.closures h) (protect_ends entry.number receiver (Go t v) (M acts) g) h.1.0.0 (again (ProtectAct receiver entry env) acts st h h.1.0.1 (λ k x. x))
  unwind_fits t v (EnsureOn n block env) acts st h g =
      (drop_act (EnsureOn n block env) acts st.next st.store.closures h, (h.1.0.0, again (EnsureOn n block env) acts st h h.1.0.1 (λ k x. x), passed_on (ActionMark n) t (M acts) (passes_action n) g))
  unwind_fits t v (CurtailOn n block env) acts st h g =
      (drop_act (CurtailOn n block env) acts st.next st.store.closures h, (h.1.0.0, again (CurtailOn n block env) acts st h h.1.0.1 (λ k x. x), passed_on (ActionMark n) t (M acts) (passes_action n) g))
  unwind_fits t v (ActionOff n held) acts st h g = (drop_act (ActionOff n held) acts st.next st.store.closures h, passed_on (ActionMark n) t (M acts) (passes_action n) g)
  unwind_fits t v (SignalAct n e env) acts st h g =
      signal_fits n e (signal_end n (Go t v)) env acts st (drop_act (SignalAct n e env) acts st.next st.store.closures h) (signal_ends n e (Go t v) (M acts) g) h.1.0.0 (again (SignalAct n e env) acts st h h.1.0.1 (λ k x. x))
  unwind_fits t v (HandlerRun n turn) acts st h g = (drop_act (HandlerRun n turn) acts st.next st.store.closures h, passed_on (TurnMark n turn) t (M acts) (passes_turn n turn) g)
  unwind_fits t v (OuterAct n) acts st h g = ended_fits n (outer_end n (Go t v)) acts st (drop_act (OuterAct n) acts st.next st.store.closures h) (outer_ends n (Go t v) (M acts) g)
  unwind_fits t v (ResumeWait n w k turn env) acts st h g = (drop_act (ResumeWait n w k turn env) acts st.next st.store.closures h, passed_on (WaitMark n) t (M acts) (passes_wait n) g)
  unwind_fits t v (HandlesWait n x entry rest) acts st h g = (drop_act (HandlesWait n x entry rest) acts st.next st.store.closures h, passed_on (WaitMark n) t (M acts) (passes_wait n) g)
  unwind_fits t v (LoopAct n l env) acts st h g = (drop_act (LoopAct n l env) acts st.next st.store.closures h, passed_on (LoopMark n) t (M acts) (passes_loop n) g)

  pub settle_fits : (o : Outcome) (acts : List (Act ScopedBody)) (st : State) → MachFits (Settle o acts st) → MachFits (step S p (Settle o acts st))
  settle_fits (Answer v) [] st h = h.0
  settle_fits (Answer v) (a ∷ acts) st h = give_fits v a acts st h.0
  settle_fits (Go t v) [] st h = tt
  settle_fits (Go t v) (a ∷ acts) st h = unwind_fits t v a acts st h.0 h.1
  settle_fits (Stop l) acts st h = tt

  pub begins_fits : (u : Use) (acts : List (Act ScopedBody)) (st : State) → MachFits (Begin u acts st) → MachFits (step S p (Begin u acts st))
  begins_fits u acts st h = begin_fits u acts st h.0 h.1
