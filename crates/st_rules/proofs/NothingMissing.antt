-- On compiled code nothing is missing: the laws of Present.antt at each moment of a run.
use Rattle.std.proofs.Common.{◌≡◌, ℕ, zero, suc, List, [], ◌∷◌, length, Option, None, refl, sym, subst}
use Rattle.object_heap.specs.declared.value.Value.{Value}
use Rattle.st_code.specs.Program.{Program, InBlock, InMethod, Initializer}
use Rattle.st_code.specs.Code.{Instr}
use Rattle.st_code.specs.Compiled.{instruction_of}
use Rattle.st_rules.specs.State.{State, Env, Answer, Go, Stop, Frame}
use Rattle.st_rules.specs.Rules.{Use, Apply, Activate, Enter, SendTo, SuperTo, Perform, Raise, RaiseNew, SignalPoint, Resignaled, SearchIn, TurnBy, Ask, Protect, Finish, VisitBy, RunBody}
use Rattle.st_rules.specs.Machine.{Act, BodyAct, Leaving, ProtectAct, EnsureOn, CurtailOn, ActionOff, SignalAct, HandlerRun, OuterAct, ResumeWait, HandlesWait, LoopAct, Mach, Run, Settle, Begin, Over, Stuck}
use Rattle.st_rules.specs.Scoped.{ScopedBody, scoped_body, scoped}
use Rattle.st_rules.specs.Flat.{FlatBody}
use Rattle.st_rules.specs.Turns.{Top, On, Ended, top_step, top_iter, opened_run}
use Rattle.st_rules.specs.Compilable.{Compilable}
use Rattle.st_rules.specs.Flattened.{flat_of}
use Rattle.st_rules.specs.NothingMissing.{InstructionHas, ValueHas, ActivationHas, InstructionsHave, ValuesHave, ActivationsHave}
use Rattle.st_rules.proofs.Flattening.{Places, running_body, flat_use, flat_state, UseHolds, flat_acts, StoreHolds, BodyHolds, ActsHold, Goes}
use Rattle.st_rules.proofs.FlatTop.{TopFollows}
use Rattle.st_rules.proofs.FlatCode.{most_least}
use Rattle.st_rules.proofs.AimedRun.{NotStuck, run_follows, run_never}
use Rattle.st_rules.proofs.Present.{code_there, is_code, has_room, fetched_here, ready, instruction_stands, closure_scope}

module _ (p : Program) (ok : Compilable p) where
  step_last : (n : ℕ) (t : Top ScopedBody) → top_iter (scoped p) p (suc n) t ≡ top_step (scoped p) p (top_iter (scoped p) p n t)
  step_last zero t = refl
  step_last (suc n) t = step_last n (top_step (scoped p) p t)

  run_never_next : (n : ℕ) → NotStuck p ok (top_step (scoped p) p (top_iter (scoped p) p n (opened_run (scoped p) p)))
  run_never_next n = subst (NotStuck p ok) (step_last n (opened_run (scoped p) p)) (run_never p ok (suc n))

  -- ---- an instruction

  running : (target : Option ℕ) (xs : List Initializer) (f : Frame) (env : Env) (ops : List Value) (is : List Instr) (acts : List (Act ScopedBody)) (st : State) (g : Places) → StoreHolds p g st.store.scopes st.store.closures → BodyHolds p st.store.scopes 0 (length ops) (scoped_body f env ops is) → NotStuck p ok (top_step (scoped p) p (On target xs (Run (scoped_body f env ops is) acts st))) → InstructionHas p (On target xs (Run (running_body p st.store.scopes g.places (scoped_body f env ops is)) (flat_acts p st.store.scopes g.places acts) (flat_state g st)))
  running target xs f env ops [] acts st g held h never = absurd never
  running target xs f env ops (i ∷ rest) acts st g held h never =
      let s = instruction_stands p g st held i 0 (length ops) (suc (length rest)) (scoped_body f env ops (i ∷ rest)) rest refl h in
      (code_there p f.code h.known, instruction_of p f.code i, fetched_here p g st held f env ops i rest h, ready p g st held ok target xs acts f env i ops rest h never, s.0, s.1)

  instruction_on : (target : Option ℕ) (xs : List Initializer) (m' : Mach FlatBody) (m : Mach ScopedBody) → Goes p m' m → NotStuck p ok (On target xs m) → NotStuck p ok (top_step (scoped p) p (On target xs m)) → InstructionHas p (On target xs m')
  instruction_on target xs m' (Run x acts st) g s never =
      subst (λ y. InstructionHas p (On target xs y)) (sym g.1.0) (running target xs x.frame x.env x.operands x.rest acts st g.0 g.1.1 g.1.2 never)
  instruction_on target xs m' (Settle o acts st) g s never = subst (λ y. InstructionHas p (On target xs y)) (sym g.1.0) tt
  instruction_on target xs m' (Begin u acts st) g s never = subst (λ y. InstructionHas p (On target xs y)) (sym g.1.0) tt
  instruction_on target xs m' (Over o st) g s never = subst (λ y. InstructionHas p (On target xs y)) (sym g.1.0) tt
  instruction_on target xs m' (Stuck st) g s never = absurd s

  instruction_top : (t' : Top FlatBody) (t : Top ScopedBody) → TopFollows p ok t' t → NotStuck p ok t → NotStuck p ok (top_step (scoped p) p t) → InstructionHas p t'
  instruction_top t' (On target xs m) f s never = subst (InstructionHas p) (sym f.1) (instruction_on target xs f.0 m f.2 s never)
  instruction_top t' (Ended e st) f s never = let x = f s in subst (InstructionHas p) (sym x.1) tt

  -- ---- a value

  valued : (target : Option ℕ) (xs : List Initializer) (v : Value) (acts : List (Act ScopedBody)) (st : State) (g : Places) → StoreHolds p g st.store.scopes st.store.closures → ActsHold p st.store.scopes (length st.store.scopes) acts → ValueHas p (On target xs (Settle (Answer v) (flat_acts p st.store.scopes g.places acts) (flat_state g st)))
  valued target xs v [] st g held h = tt
  valued target xs v (BodyAct x ∷ acts) st g held h =
      let l = most_least x.rest (suc (length x.operands)) in
      (code_there p x.frame.code h.0.known, has_room p g st held 1 (suc (length x.operands)) (suc (length x.rest)) (length x.operands) x h.0 refl l)
  valued target xs v (Leaving x ∷ acts) st g held h = tt
  valued target xs v (ProtectAct receiver entry env ∷ acts) st g held h = tt
  valued target xs v (EnsureOn n block env ∷ acts) st g held h = tt
  valued target xs v (CurtailOn n block env ∷ acts) st g held h = tt
  valued target xs v (ActionOff n o ∷ acts) st g held h = tt
  valued target xs v (SignalAct n e env ∷ acts) st g held h = tt
  valued target xs v (HandlerRun n t ∷ acts) st g held h = tt
  valued target xs v (OuterAct n ∷ acts) st g held h = tt
  valued target xs v (ResumeWait n w k t env ∷ acts) st g held h = tt
  valued target xs v (HandlesWait n x entry rest ∷ acts) st g held h = tt
  valued target xs v (LoopAct n l env ∷ acts) st g held h = tt

  value_on : (target : Option ℕ) (xs : List Initializer) (m' : Mach FlatBody) (m : Mach ScopedBody) → Goes p m' m → NotStuck p ok (On target xs m) → ValueHas p (On target xs m')
  value_on target xs m' (Run x acts st) g s = subst (λ y. ValueHas p (On target xs y)) (sym g.1.0) tt
  value_on target xs m' (Settle (Answer v) acts st) g s = subst (λ y. ValueHas p (On target xs y)) (sym g.1.0) (valued target xs v acts st g.0 g.1.1.0 g.1.1.1)
  value_on target xs m' (Settle (Go t v) acts st) g s = subst (λ y. ValueHas p (On target xs y)) (sym g.1.0) tt
  value_on target xs m' (Settle (Stop l) acts st) g s = subst (λ y. ValueHas p (On target xs y)) (sym g.1.0) tt
  value_on target xs m' (Begin u acts st) g s = subst (λ y. ValueHas p (On target xs y)) (sym g.1.0) tt
  value_on target xs m' (Over o st) g s = subst (λ y. ValueHas p (On target xs y)) (sym g.1.0) tt
  value_on target xs m' (Stuck st) g s = absurd s

  value_top : (t' : Top FlatBody) (t : Top ScopedBody) → TopFollows p ok t' t → NotStuck p ok t → ValueHas p t'
  value_top t' (On target xs m) f s = subst (ValueHas p) (sym f.1) (value_on target xs f.0 m f.2 s)
  value_top t' (Ended e st) f s = let x = f s in subst (ValueHas p) (sym x.1) tt

  -- ---- an activation

  activated : (target : Option ℕ) (xs : List Initializer) (u : Use) (acts : List (Act FlatBody)) (st : State) (g : Places) → StoreHolds p g st.store.scopes st.store.closures → UseHolds p st.store.closures st.store.scopes u → ActivationHas p (On target xs (Begin (flat_use p g st.store.closures u) acts (flat_state g st)))
  activated target xs (Apply v args env) acts st g held h = tt
  activated target xs (Activate c args env) acts st g held h = (is_code p c.code InBlock _ h.body, closure_scope p g st held c h)
  activated target xs (Enter code r args env) acts st g held h = is_code p code InMethod None h
  activated target xs (SendTo selector r args env) acts st g held h = tt
  activated target xs (SuperTo class selector r args env) acts st g held h = tt
  activated target xs (Perform a env) acts st g held h = tt
  activated target xs (Raise e env) acts st g held h = tt
  activated target xs (RaiseNew class slots env) acts st g held h = tt
  activated target xs (SignalPoint n e env) acts st g held h = tt
  activated target xs (Resignaled n e f env) acts st g held h = tt
  activated target xs (SearchIn x rest) acts st g held h = tt
  activated target xs (TurnBy x entry outside) acts st g held h = tt
  activated target xs (Ask w k t env) acts st g held h = tt
  activated target xs (Protect receiver entry env) acts st g held h = tt
  activated target xs (Finish n block o env) acts st g held h = tt
  activated target xs (VisitBy n v env) acts st g held h = tt
  activated target xs (RunBody f env) acts st g held h = tt

  activation_on : (target : Option ℕ) (xs : List Initializer) (m' : Mach FlatBody) (m : Mach ScopedBody) → Goes p m' m → NotStuck p ok (On target xs m) → ActivationHas p (On target xs m')
  activation_on target xs m' (Run x acts st) g s = subst (λ y. ActivationHas p (On target xs y)) (sym g.1.0) tt
  activation_on target xs m' (Settle o acts st) g s = subst (λ y. ActivationHas p (On target xs y)) (sym g.1.0) tt
  activation_on target xs m' (Begin u acts st) g s = subst (λ y. ActivationHas p (On target xs y)) (sym g.1.0) (activated target xs u (flat_acts p st.store.scopes g.0.places acts) st g.0 g.1.1 g.1.2)
  activation_on target xs m' (Over o st) g s = subst (λ y. ActivationHas p (On target xs y)) (sym g.1.0) tt
  activation_on target xs m' (Stuck st) g s = absurd s

  activation_top : (t' : Top FlatBody) (t : Top ScopedBody) → TopFollows p ok t' t → NotStuck p ok t → ActivationHas p t'
  activation_top t' (On target xs m) f s = subst (ActivationHas p) (sym f.1) (activation_on target xs f.0 m f.2 s)
  activation_top t' (Ended e st) f s = let x = f s in subst (ActivationHas p) (sym x.1) tt

  -- ---- at each moment

  abbrev scoped_at : ℕ → Top ScopedBody
  scoped_at n = top_iter (scoped p) p n (opened_run (scoped p) p)

  abbrev flat_at : ℕ → Top FlatBody
  flat_at n = top_iter (flat_of p) p n (opened_run (flat_of p) p)

  pub instructions_at : (n : ℕ) → InstructionHas p (flat_at n)
  instructions_at n = instruction_top (flat_at n) (scoped_at n) (run_follows p ok n) (run_never p ok n) (run_never_next n)

  pub values_at : (n : ℕ) → ValueHas p (flat_at n)
  values_at n = value_top (flat_at n) (scoped_at n) (run_follows p ok n) (run_never p ok n)

  pub activations_at : (n : ℕ) → ActivationHas p (flat_at n)
  activations_at n = activation_top (flat_at n) (scoped_at n) (run_follows p ok n) (run_never p ok n)

pub instructions_have : InstructionsHave
instructions_have p ok n = instructions_at p ok n

pub values_have : ValuesHave
values_have p ok n = values_at p ok n

pub activations_have : ActivationsHave
activations_have p ok n = activations_at p ok n
