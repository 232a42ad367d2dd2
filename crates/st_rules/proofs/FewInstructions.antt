-- A run makes boundedly many instructions: the laws of CodeLeft.antt over a whole run.
use Rattle.std.proofs.Common.{◌≡◌, ℕ, zero, suc, ◌+◌, ◌-◌, ◌*◌, ◌≤◌, length, List, [], ◌∷◌, Option, Some, None, refl, ap, ◌∙◌, subst, arith}
use Rattle.std.proofs.Math.Nat.{suc-mul, add-mul}
use Rattle.object_heap.specs.declared.value.Value.{Value}
use Rattle.st_code.specs.Program.{Program, Initializer}
use Rattle.st_code.specs.Code.{Instr}
use Rattle.st_rules.specs.State.{State, Env, Answer, Go, Stop, Frame}
use Rattle.st_rules.specs.Ends.{initializer_opening}
use Rattle.st_rules.specs.Runs.{first_state, kept_value}
use Rattle.st_rules.specs.Machine.{Act, Mach, Run, Settle, Begin, Over, Stuck, Bodies}
use Rattle.st_rules.specs.Scoped.{ScopedBody, scoped}
use Rattle.st_rules.specs.Flat.{FlatBody}
use Rattle.st_rules.specs.SoFar.{state_of}
use Rattle.st_rules.specs.Turns.{Top, On, Ended, open_next, top_step, top_iter, opened_run, runs_of, instructions}
use Rattle.st_rules.specs.Compilable.{Compilable, AllInitializers}
use Rattle.st_rules.specs.Flattened.{flat_of}
use Rattle.st_rules.specs.Instructions.{most_instructions, FewInstructions, FewInARun}
use Rattle.st_rules.proofs.Flattening.{Goes}
use Rattle.st_rules.proofs.FlatTop.{TopFollows, top_law, opened_law}
use Rattle.st_rules.proofs.AimedRun.{NotStuck, run_never}
use Rattle.st_rules.proofs.CodeLeft.{top_length, credit, acts_code, use_code, mach_code, open_within, begin_within, settle_within, instr_within}

module _ (p : Program) (ok : Compilable p) where
  abbrev S : Bodies ScopedBody
  S = scoped p

  abbrev F : Bodies FlatBody
  F = flat_of p

  -- with the initializers that are left
  abbrev top_code : Top ScopedBody → ℕ
  top_code (On target xs m) = mach_code p m + credit p (state_of m).steps + length xs * top_length p
  top_code (Ended e st) = 0

  kept_steps : (target : Option ℕ) (v : Value) (st : State) → (kept_value target v st).steps ≡ st.steps
  kept_steps None v st = refl
  kept_steps (Some place) v st = refl

  open_code : (xs : List Initializer) (st : State) → AllInitializers p xs → top_code (open_next S p xs st) ≤ credit p st.steps + length xs * top_length p
  open_code [] st all = omega arith
  open_code (x ∷ xs) st all =
      let h = open_within p (initializer_opening p x st.next) [] st (top_length p + credit p st.steps) all.0.known all.0.is_kind (omega arith) in
      let e = suc-mul (length xs) (top_length p) in
      omega (arith, h, e)

  -- ---- a small step

  instructed : (target : Option ℕ) (xs : List Initializer) (f : Frame) (env : Env) (ops : List Value) (rest : List Instr) (acts : List (Act ScopedBody)) (st : State) → NotStuck p ok (top_step S p (On target xs (Run (record { frame = f; env = env; operands = ops; rest = rest }) acts st))) → 1 + top_code (top_step S p (On target xs (Run (record { frame = f; env = env; operands = ops; rest = rest }) acts st))) ≤ top_code (On target xs (Run (record { frame = f; env = env; operands = ops; rest = rest }) acts st))
  instructed target xs f env ops [] acts st never = absurd never
  instructed target xs f env ops (i ∷ rest) acts st never =
      let h = instr_within p f env rest acts (length rest + acts_code p acts + credit p st.steps) i ops st (omega arith) in
      omega (arith, h)

  small_step : (target : Option ℕ) (xs : List Initializer) (m' : Mach FlatBody) (m : Mach ScopedBody) → Goes p m' m → AllInitializers p xs → NotStuck p ok (top_step S p (On target xs m)) → runs_of S p (On target xs m) + top_code (top_step S p (On target xs m)) ≤ top_code (On target xs m)
  small_step target xs m' (Run x acts st) g all never = instructed target xs x.frame x.env x.operands x.rest acts st never
  small_step target xs m' (Settle o acts st) g all never = let h = settle_within p o acts st (acts_code p acts + credit p st.steps) (omega arith) in omega (arith, h)
  small_step target xs m' (Begin u acts st) g all never = let h = begin_within p u acts st (use_code p u acts + credit p st.steps) st.store.closures st.store.scopes g.1.2 (omega arith) in omega (arith, h)
  small_step target xs m' (Over (Answer v) st) g all never =
      let h = open_code xs (kept_value target v st) all in
      let e = ap (credit p) (kept_steps target v st) in
      omega (arith, h, e)
  small_step target xs m' (Over (Go t v) st) g all never = omega arith
  small_step target xs m' (Over (Stop l) st) g all never = omega arith
  small_step target xs m' (Stuck st) g all never = omega arith

  -- ---- so many small steps

  runs_same : (target : Option ℕ) (xs : List Initializer) (m' : Mach FlatBody) (m : Mach ScopedBody) → Goes p m' m → NotStuck p ok (On target xs m) → runs_of F p (On target xs m') ≡ runs_of S p (On target xs m)
  runs_same target xs m' (Run x acts st) h never = ap (λ y. runs_of F p (On target xs y)) h.1.0
  runs_same target xs m' (Settle o acts st) h never = ap (λ y. runs_of F p (On target xs y)) h.1.0
  runs_same target xs m' (Begin u acts st) h never = ap (λ y. runs_of F p (On target xs y)) h.1.0
  runs_same target xs m' (Over o st) h never = ap (λ y. runs_of F p (On target xs y)) h.1.0
  runs_same target xs m' (Stuck st) h never = absurd never

  bounded : (n : ℕ) (t' : Top FlatBody) (t : Top ScopedBody) → TopFollows p ok t' t → ((k : ℕ) → NotStuck p ok (top_iter S p k t)) → instructions F p n t' ≤ top_code t
  bounded zero t' t h never = omega arith
  bounded (suc n) t' (On target xs m) h never =
      let a = bounded n (top_step F p t') (top_step S p (On target xs m)) (top_law p ok t' (On target xs m) h) (λ k. never (suc k)) in
      let b = small_step target xs h.0 m h.2 h.3 (never 1) in
      let c : runs_of F p t' ≡ runs_of S p (On target xs m) = ap (runs_of F p) h.1 ∙ runs_same target xs h.0 m h.2 (never 0) in
      omega (arith, a, b, c)
  bounded (suc n) t' (Ended e st) h never =
      let a = bounded n (top_step F p t') (Ended e st) (top_law p ok t' (Ended e st) h) (λ k. never (suc k)) in
      let c : runs_of F p t' ≡ 0 = ap (runs_of F p) (h (never 0)).1 in
      omega (arith, a, c)

  first_steps : (first_state p).steps ≡ 0
  unfolding first_state
  first_steps = refl

  few : (n : ℕ) → instructions F p n (opened_run F p) ≤ most_instructions p
  few n =
      let a = bounded n (opened_run F p) (opened_run S p) (opened_law p ok) (run_never p ok) in
      let b = open_code p.initializers (first_state p) ok.initializers in
      let c : credit p (first_state p).steps ≡ p.step_limit * top_length p = ap (credit p) first_steps ∙ ap (λ k. k * top_length p) (no_steps p.step_limit) in
      let d = add-mul p.step_limit (length p.initializers) (top_length p) in
      omega (arith, a, b, c, d)
    where
      no_steps : (k : ℕ) → k - 0 ≡ k
      no_steps k = omega arith

pub few_instructions : FewInstructions
few_instructions p ok n = few p ok n

pub few_in_a_run : FewInARun
few_in_a_run p ok e st count r = subst (λ k. k ≤ most_instructions p) r.counted (few p ok r.steps)
