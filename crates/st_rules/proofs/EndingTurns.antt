-- Each turn comes to its end: the measure of FallingSteps.antt over a whole run.
use Rattle.std.proofs.Common.{◌≡◌, ℕ, zero, suc, ◌+◌, ◌-◌, ◌≤◌, ◌⊎◌, inl, inr, List, [], ◌∷◌, Option, Some, None, refl, ap, ◌∙◌, arith}
use Rattle.object_heap.specs.declared.value.Value.{Value}
use Rattle.st_code.specs.Program.{Program, Initializer}
use Rattle.st_rules.specs.State.{State, Answer, Go, Stop}
use Rattle.st_rules.specs.Ends.{initializer_opening}
use Rattle.st_rules.specs.Runs.{kept_value}
use Rattle.st_rules.specs.Machine.{Mach, Run, Settle, Begin, Over, Stuck, Bodies}
use Rattle.st_rules.specs.SoFar.{state_of}
use Rattle.st_rules.specs.Turns.{Top, On, Ended, open_next, top_step, runs_of, AtRest, Turns}
use Rattle.st_rules.specs.TurnsEnd.{mach_weight, top_weight, steps_left, Falls, Between}
use Rattle.st_rules.proofs.FallingSteps.{Less, Down, open_less, begin_down, settle_down}

module _ {B : Type 0} (b : Bodies B) (p : Program) where
  -- ---- the measure falls

  less_falls : (target : Option ℕ) (xs : List Initializer) (m m' : Mach B) → Less (state_of m) (mach_weight m) m' → Falls p (On target xs m) (On target xs m')
  less_falls target xs m m' h = inr (ap (λ n. p.step_limit - n) h.0, omega (arith, h.1))

  down_falls : (target : Option ℕ) (xs : List Initializer) (m m' : Mach B) → Down p (state_of m) (mach_weight m) m' → Falls p (On target xs m) (On target xs m')
  down_falls target xs m m' (inl h) = less_falls target xs m m' h
  down_falls target xs m m' (inr l) = inl l

  kept_steps : (target : Option ℕ) (v : Value) (st : State) → (kept_value target v st).steps ≡ st.steps
  kept_steps None v st = refl
  kept_steps (Some place) v st = refl

  -- the next initializer
  next_falls : (target : Option ℕ) (xs : List Initializer) (v : Value) (st st1 : State) → st1.steps ≡ st.steps → Falls p (On target xs (Over (Answer v) st)) (open_next b p xs st1)
  next_falls target [] v st st1 e = inr (ap (λ n. p.step_limit - n) e, omega arith)
  next_falls target (x ∷ xs) v st st1 e =
      let h = open_less b p (initializer_opening p x st1.next) [] st1 in
      inr (ap (λ n. p.step_limit - n) (h.0 ∙ e), omega (arith, h.1))

  pub falls : (t : Top B) → Between t → Falls p t (top_step b p t)
  falls (On target xs (Run x acts st)) h = absurd h
  falls (On target xs (Settle o acts st)) h = less_falls target xs (Settle o acts st) _ (settle_down b p o acts st)
  falls (On target xs (Begin u acts st)) h = down_falls target xs (Begin u acts st) _ (begin_down b p u acts st)
  falls (On target xs (Over (Answer v) st)) h = next_falls target xs v st (kept_value target v st) (kept_steps target v st)
  falls (On target xs (Over (Go t v) st)) h = inr (refl, omega arith)
  falls (On target xs (Over (Stop l) st)) h = inr (refl, omega arith)
  falls (On target xs (Stuck st)) h = inr (refl, omega arith)
  falls (Ended e st) h = absurd h

  -- ---- and so a moment at rest is reached

  abbrev Rests : ℕ → Top B → Type 0
  Rests count t = (to : Top B) × Turns b p count t to

  -- a moment is at rest, or the measure falls
  abbrev Decided : Top B → Type 0
  Decided t = AtRest b p t ⊎ (Between t × Falls p t (top_step b p t))

  decided : (t : Top B) → Decided t
  decided (On target xs (Run x acts st)) = inl tt
  decided (On target xs (Settle o acts st)) = inr (tt, falls (On target xs (Settle o acts st)) tt)
  decided (On target xs (Begin u acts st)) = inr (tt, falls (On target xs (Begin u acts st)) tt)
  decided (On target xs (Over o st)) = inr (tt, falls (On target xs (Over o st)) tt)
  decided (On target xs (Stuck st)) = inr (tt, falls (On target xs (Stuck st)) tt)
  decided (Ended e st) = inl tt

  none_runs : (t : Top B) → Between t → runs_of b p t ≡ 0
  none_runs (On target xs (Run x acts st)) h = absurd h
  none_runs (On target xs (Settle o acts st)) h = refl
  none_runs (On target xs (Begin u acts st)) h = refl
  none_runs (On target xs (Over o st)) h = refl
  none_runs (On target xs (Stuck st)) h = refl
  none_runs (Ended e st) h = absurd h

  at_once : (t : Top B) → AtRest b p t → Rests 0 t
  at_once t h = (t, record { steps = 0; leads = refl; counted = refl; rests = h })

  one_more : (count : ℕ) (t : Top B) → Rests count (top_step b p t) → Rests (runs_of b p t + count) t
  one_more count t h = (h.0, record { steps = suc h.1.steps; leads = h.1.leads; counted = ap (λ n. runs_of b p t + n) h.1.counted; rests = h.1.rests })

  between_more : (t : Top B) → Between t → Rests 0 (top_step b p t) → Rests 0 t
  between_more t h r = let x = one_more 0 t r in let e : runs_of b p t + 0 ≡ 0 = omega (arith, none_runs t h) in (x.0, record { steps = x.1.steps; leads = x.1.leads; counted = omega (arith, x.1.counted, e); rests = x.1.rests })

  -- with at most so many steps left, and at most so much to be done
  rests_in : (i j : ℕ) (t : Top B) → steps_left p t ≤ i → top_weight t ≤ j → Decided t → Rests 0 t
  rests_in i j t k l (inl r) = at_once t r
  rests_in zero j t k l (inr (h, inl f)) = let none : ⊥ = omega (arith, f, k) in absurd none
  rests_in (suc i) j t k l (inr (h, inl f)) = between_more t h (rests_in i (top_weight (top_step b p t)) (top_step b p t) (omega (arith, f, k)) (omega arith) (decided (top_step b p t)))
  rests_in i zero t k l (inr (h, inr f)) = let none : ⊥ = omega (arith, f.1, l) in absurd none
  rests_in i (suc j) t k l (inr (h, inr f)) = between_more t h (rests_in i j (top_step b p t) (omega (arith, f.0, k)) (omega (arith, f.1, l)) (decided (top_step b p t)))

  rests : (t : Top B) → Rests 0 t
  rests t = rests_in (steps_left p t) (top_weight t) t (omega arith) (omega arith) (decided t)

  pub turn_ends : (t : Top B) → Rests (runs_of b p t) t
  turn_ends t = let x = one_more 0 t (rests (top_step b p t)) in let e : runs_of b p t + 0 ≡ runs_of b p t = omega arith in (x.0, record { steps = x.1.steps; leads = x.1.leads; counted = omega (arith, x.1.counted, e); rests = x.1.rests })
