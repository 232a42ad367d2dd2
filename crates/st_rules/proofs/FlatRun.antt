-- The flat machine follows the scoped one: a law for each small step, and so for a whole run.
use Rattle.std.proofs.Common.{◌≡◌, ℕ, ◌<◌, List, [], ◌∷◌, length, Option, Some, None, refl, sym, ap, ◌∙◌, subst}
use Rattle.object_heap.specs.declared.value.Value.{Value}
use Rattle.object_heap.specs.Store.{Scope}
use Rattle.st_code.specs.Program.{Program, body_at}
use Rattle.st_code.specs.Code.{Instr}
use Rattle.st_code.specs.Compiled.{Compiled, compile_of}
use Rattle.st_rules.specs.State.{State, Env, Answer, Go, Stop, Frame, is_live}
use Rattle.st_rules.specs.Ends.{block_opening, method_opening, asks_nested}
use Rattle.st_rules.specs.Rules.{Use, Apply, Activate, Enter, SendTo, SuperTo, Perform, Raise, RaiseNew, SignalPoint, Resignaled, SearchIn, TurnBy, Ask, Protect, Finish, VisitBy, RunBody, closure_for}
use Rattle.st_rules.specs.Machine.{Act, BodyAct, Leaving, ProtectAct, EnsureOn, CurtailOn, ActionOff, SignalAct, HandlerRun, OuterAct, ResumeWait, HandlesWait, LoopAct, Mach, Run, Settle, Begin, Over, Stuck, Bodies, marks, raise_act, begin, give, step}
use Rattle.st_rules.specs.Scoped.{ScopedBody, scoped_body, scoped_number, scoped, next_instr}
use Rattle.st_rules.specs.Flat.{FlatBody, flat_instruct, flat_next, greatest_width}
use Rattle.st_rules.specs.Compilable.{Compilable}
use Rattle.st_rules.specs.Flattened.{flat_of}
use Rattle.st_rules.proofs.Flattening.{Places, scope_of, number_in, flat_store, flat_state, flat_act, flat_acts, running_body, flat_use, Chained, StoreHolds, BodyHolds, ActsHold, UseHolds, Follows, Goes, marks_same, behind}
use Rattle.st_rules.proofs.FlatControl.{Holds, stood_follows, both_for, apply_follows, raise_follows, raise_new_follows, search_follows, turn_follows, visit_follows, perform_follows, control_gives, unwinds}
use Rattle.st_rules.proofs.FlatSends.{send_same, super_same}
use Rattle.st_rules.proofs.FlatBodies.{body_gives, fetched, instr_law}
use Rattle.st_rules.proofs.FlatOpened.{step_goes, open_goes}

module _ (p : Program) (ok : Compilable p) where
  abbrev F : Bodies FlatBody
  F = flat_of p

  abbrev S : Bodies ScopedBody
  S = scoped p

  abbrev codes : List Compiled
  codes = compile_of p

  abbrev Fa : Places → State → List (Act ScopedBody) → List (Act FlatBody)
  Fa g st acts = flat_acts p st.store.scopes g.places acts

  -- ---- the beginning of a use

  -- what a body stands in
  chained_block : (ss : List Scope) (o outer : Option ℕ) (k : ℕ) → k < length ss → outer ≡ Some k → o ≡ Some (scope_of ss k).code → Chained p ss (length ss) o outer
  chained_block ss o outer k l e same = subst (λ x. Chained p ss (length ss) x outer) (sym same) (k, e, l, refl)

  pub chained_none : (ss : List Scope) (o : Option ℕ) → o ≡ None → Chained p ss (length ss) o None
  chained_none ss o same = subst (λ x. Chained p ss (length ss) x None) (sym same) refl

  begin_goes : (g : Places) (u : Use) (acts : List (Act ScopedBody)) (st : State) → Holds p g st acts → UseHolds p st.store.closures st.store.scopes u → Goes p (begin F p (flat_use p g st.store.closures u) (Fa g st acts) (flat_state g st)) (begin S p u acts st)
  begin_goes g (Apply v args env) acts st h u =
      (g, apply_follows p g (closure_for p st.store v (length args)) (closure_for p (flat_store g st.store) v (length args)) v args env acts st h (both_for p g st.store v (length args) h.0.closures))
  begin_goes g (Activate c args env) acts st h u =
      step_goes p g acts st _ _ (λ n. open_goes p g ok (block_opening c args env st.next) acts (record st { steps = n }) h (record { known = u.body.known; is_kind = u.body.is_kind; chained = chained_block st.store.scopes (body_at p c.code).outer c.scope u.scope u.there u.is_scope u.body.stands }))
  begin_goes g (Enter code r args env) acts st h u =
      open_goes p g ok (method_opening p code r args env st.next) acts st h (record { known = u.known; is_kind = u.is_kind; chained = chained_none st.store.scopes (body_at p code).outer u.stands })
  begin_goes g (SendTo selector r args env) acts st h u =
      step_goes p g acts st _ _ (λ n.
      let s = send_same p g st.store h.0 ok selector r args in
      (g, (ap (λ a. Begin (Perform a env) (Fa g st acts) (record (flat_state g st) { steps = n })) s.0, h.0, s.1, h.1)))
  begin_goes g (SuperTo class selector r args env) acts st h u =
      step_goes p g acts st _ _ (λ n.
      let s = super_same p g st.store h.0 ok class selector r args in
      (g, (ap (λ a. Begin (Perform a env) (Fa g st acts) (record (flat_state g st) { steps = n })) s.0, h.0, s.1, h.1)))
  begin_goes g (Perform a env) acts st h u = (g, perform_follows p g a env acts st h u)
  begin_goes g (Raise e env) acts st h u =
      (g, subst (λ ms. Follows p g (raise_act F p (is_live e ms) e env (Fa g st acts) (flat_state g st)) (begin S p (Raise e env) acts st)) (sym (marks_same p st.store.scopes g.places acts)) (raise_follows p g (is_live e (marks scoped_number acts)) e env acts st h))
  begin_goes g (RaiseNew class slots env) acts st h u = (g, raise_new_follows p g class slots env acts st h)
  begin_goes g (SignalPoint n e env) acts st h u = (g, (refl, h.0, tt, h.1))
  begin_goes g (Resignaled n e f env) acts st h u = (g, (refl, h.0, tt, h.1))
  begin_goes g (SearchIn x rest) acts st h u = (g, search_follows p g x rest acts st h)
  begin_goes g (TurnBy x entry outside) acts st h u = (g, turn_follows p g (asks_nested x) x entry outside acts st h)
  begin_goes g (Ask w k t env) acts st h u = (g, stood_follows p g acts st _ _ (λ d n. (refl, h.0, tt, h.1)))
  begin_goes g (Protect receiver entry env) acts st h u = (g, (refl, h.0, tt, h.1))
  begin_goes g (Finish n block held env) acts st h u = (g, (refl, h.0, tt, h.1))
  begin_goes g (VisitBy n v env) acts st h u = (g, visit_follows p g n v env acts st h u)
  begin_goes g (RunBody f env) acts st h u = (g, tt)

  -- ---- an instruction

  -- in the frame of a body whose scope is there
  runs_in : (g : Places) (fr : Frame) (env : Env) (ops : List Value) (rest : List Instr) (acts : List (Act ScopedBody)) (st : State) (n : ℕ) → StoreHolds p g st.store.scopes st.store.closures → n < length st.store.scopes → (scope_of st.store.scopes n).code < length p.bodies → ActsHold p st.store.scopes n acts → BodyHolds p st.store.scopes 0 (length ops) (scoped_body (record fr { code = (scope_of st.store.scopes n).code; scope = Some n }) env ops rest) → Goes p (flat_instruct p codes (greatest_width codes) (running_body p st.store.scopes g.places (scoped_body (record fr { code = (scope_of st.store.scopes n).code; scope = Some n }) env ops rest)) (Fa g st acts) (flat_state g st)) (next_instr p (record fr { code = (scope_of st.store.scopes n).code; scope = Some n }) env ops rest acts st)
  runs_in g fr env ops [] acts st n held there known stand h = (g, tt)
  runs_in g fr env ops (i ∷ rest) acts st n held there known stand h =
      let x = running_body p st.store.scopes g.places (scoped_body (record fr { code = (scope_of st.store.scopes n).code; scope = Some n }) env ops (i ∷ rest)) in
      subst (λ o. Goes p (flat_next p codes (greatest_width codes) o x (Fa g st acts) (flat_state g st)) (next_instr p (record fr { code = (scope_of st.store.scopes n).code; scope = Some n }) env ops (i ∷ rest) acts st))
      (sym (fetched p ok g st acts held n there fr.kind fr.self fr.class fr.own fr.home env known stand ops i rest h))
      (instr_law p ok g st acts held n there fr.kind fr.self fr.class fr.own fr.home env known stand i ops rest h)

  run_goes : (g : Places) (x : ScopedBody) (acts : List (Act ScopedBody)) (st : State) → StoreHolds p g st.store.scopes st.store.closures → BodyHolds p st.store.scopes 0 (length x.operands) x → ActsHold p st.store.scopes (number_in x.frame.scope) acts → Goes p (flat_instruct p codes (greatest_width codes) (running_body p st.store.scopes g.places x) (Fa g st acts) (flat_state g st)) (next_instr p x.frame x.env x.operands x.rest acts st)
  run_goes g x acts st held h stand =
      let fr : Frame = record x.frame { code = (scope_of st.store.scopes h.scope).code; scope = Some h.scope } in
      let same : fr ≡ x.frame = ap (λ c. record x.frame { code = c; scope = Some h.scope }) h.here ∙ ap (λ o. record x.frame { scope = o }) (sym h.is_scope) in
      let known : (scope_of st.store.scopes h.scope).code < length p.bodies = subst (λ c. c < length p.bodies) (sym h.here) h.known in
      let stand' : ActsHold p st.store.scopes h.scope acts = subst (λ n. ActsHold p st.store.scopes n acts) (ap number_in h.is_scope) stand in
      let h' : BodyHolds p st.store.scopes 0 (length x.operands) (scoped_body fr x.env x.operands x.rest) = subst (λ y. BodyHolds p st.store.scopes 0 (length x.operands) (scoped_body y x.env x.operands x.rest)) (sym same) h in
      subst (λ y. Goes p (flat_instruct p codes (greatest_width codes) (running_body p st.store.scopes g.places (scoped_body y x.env x.operands x.rest)) (Fa g st acts) (flat_state g st)) (next_instr p y x.env x.operands x.rest acts st)) same
      (runs_in g x.frame x.env x.operands x.rest acts st h.scope held h.there known stand' h')

  -- ---- a small step

  gives : (g : Places) (v : Value) (a : Act ScopedBody) (acts : List (Act ScopedBody)) (st : State) → StoreHolds p g st.store.scopes st.store.closures → ActsHold p st.store.scopes (length st.store.scopes) (a ∷ acts) → Follows p g (give F p v (flat_act p st.store.scopes g.places a) (Fa g st acts) (flat_state g st)) (give S p v a acts st)
  gives g v (BodyAct x) acts st held h = body_gives p g v x acts st held h.0 h.2
  gives g v (Leaving x) acts st held h = control_gives p g v (Leaving x) acts st (held, behind p st.store.scopes (length st.store.scopes) (Leaving x) acts h) tt
  gives g v (ProtectAct receiver entry env) acts st held h = control_gives p g v (ProtectAct receiver entry env) acts st (held, h) tt
  gives g v (EnsureOn n block env) acts st held h = control_gives p g v (EnsureOn n block env) acts st (held, h) tt
  gives g v (CurtailOn n block env) acts st held h = control_gives p g v (CurtailOn n block env) acts st (held, h) tt
  gives g v (ActionOff n o) acts st held h = control_gives p g v (ActionOff n o) acts st (held, h) tt
  gives g v (SignalAct n e env) acts st held h = control_gives p g v (SignalAct n e env) acts st (held, h) tt
  gives g v (HandlerRun n t) acts st held h = control_gives p g v (HandlerRun n t) acts st (held, h) tt
  gives g v (OuterAct n) acts st held h = control_gives p g v (OuterAct n) acts st (held, h) tt
  gives g v (ResumeWait n w k t env) acts st held h = control_gives p g v (ResumeWait n w k t env) acts st (held, h) tt
  gives g v (HandlesWait n x entry rest) acts st held h = control_gives p g v (HandlesWait n x entry rest) acts st (held, h) tt
  gives g v (LoopAct n l env) acts st held h = control_gives p g v (LoopAct n l env) acts st (held, h) tt

  pub step_law : (g : Places) (m' : Mach FlatBody) (m : Mach ScopedBody) → Follows p g m' m → Goes p (step F p m') (step S p m)
  step_law g m' (Run x acts st) h = subst (λ y. Goes p (step F p y) (step S p (Run x acts st))) (sym h.0) (run_goes g x acts st h.1 h.2 h.3)
  step_law g m' (Settle (Answer v) [] st) h = subst (λ y. Goes p (step F p y) (Over (Answer v) st)) (sym h.0) (g, (refl, h.1.0))
  step_law g m' (Settle (Answer v) (a ∷ acts) st) h = subst (λ y. Goes p (step F p y) (give S p v a acts st)) (sym h.0) (g, gives g v a acts st h.1.0 h.1.1)
  step_law g m' (Settle (Go t v) [] st) h = subst (λ y. Goes p (step F p y) (Over (Go t v) st)) (sym h.0) (g, (refl, tt))
  step_law g m' (Settle (Go t v) (a ∷ acts) st) h = subst (λ y. Goes p (step F p y) (step S p (Settle (Go t v) (a ∷ acts) st))) (sym h.0) (g, unwinds p g t v a acts st (h.1.0, behind p st.store.scopes (length st.store.scopes) a acts h.1.1))
  step_law g m' (Settle (Stop l) acts st) h = subst (λ y. Goes p (step F p y) (Over (Stop l) st)) (sym h.0) (g, (refl, tt))
  step_law g m' (Begin u acts st) h = subst (λ y. Goes p (step F p y) (begin S p u acts st)) (sym h.0) (begin_goes g u acts st (h.1, h.3) h.2)
  step_law g m' (Over o st) h = subst (λ y. Goes p (step F p y) (Over o st)) (sym h.0) (g, (refl, h.1))
  step_law g m' (Stuck st) h = (g, tt)
