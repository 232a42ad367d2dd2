-- Every program has a run, and it is the scoped machine's: from the outcomes that the rules have, and since a machine ends in one way.
use Rattle.std.proofs.Common.{◌≡◌, ℕ, zero, suc, ◌+◌, List, [], ◌∷◌, Option, Some, None, refl, sym, ap, ◌∙◌, subst, arith}
use Rattle.object_heap.specs.declared.value.Value.{Value}
use Rattle.st_code.specs.Program.{Program, Initializer}
use Rattle.st_rules.specs.State.{State}
use Rattle.st_rules.specs.Ends.{Result, Yields, NoIndex, initializer_opening}
use Rattle.st_rules.specs.Rules.{at_index}
use Rattle.st_rules.specs.Runs.{Ending, Runs, run_from, first_state, end_of, kept_value}
use Rattle.st_rules.specs.Scoped.{scoped}
use Rattle.st_rules.specs.Turns.{Ended, opened_run}
use Rattle.st_rules.specs.SomeRun.{RulesEnd, FollowedByTheRules, MachineEnds}
use Rattle.st_rules.proofs.Settles.{Within, AtLeast, Settles, settled, value_settles}
use Rattle.st_rules.proofs.Existing.{Answered, opened_here, answered}
use Rattle.st_rules.proofs.FollowedRun.{Whole, whole_steps, whole_add, follows_the_rules}

module _ (p : Program) where
  after_a_step : Answered p 1
  after_a_step = answered p p.step_limit 1 (omega arith)

  kept : (target : Option ℕ) (v : Value) (st : State) → Within p 0 st → Within p 0 (kept_value target v st)
  kept None v st w = w
  kept (Some place) v st w = w

  run_settles : (xs : List Initializer) (st : State) → Within p 0 st → Settles (AtLeast p 0) (λ k. run_from p (at_index p k) xs st)
  run_settles [] st w = settled (AtLeast p 0) _ w
  run_settles (x ∷ xs) st w =
      value_settles p 0 _ _ (opened_here p 0 after_a_step (initializer_opening p x st.next) [] st w) (λ v st1 w1. run_settles xs (kept_value x.target v st1) (kept x.target v st1 w1))

  -- a result that isn't wanting ends the program
  ended_by : (k : ℕ) (r : Result) → run_from p (at_index p k) p.initializers (first_state p) ≡ r → AtLeast p 0 r → (e : Ending) × (st : State) × Runs p e st
  ended_by k (Yields o st) same w = (end_of o, st, record { index = k; outcome = o; run = same; ends = refl })
  ended_by k NoIndex same w = absurd w

  -- ---- a machine that has ended stays so, hence ends in one way

  abbrev gone : Ending → State → Whole p
  gone e st = Ended e st

  stays_ended : (n : ℕ) (e : Ending) (st : State) → whole_steps p n (Ended e st) ≡ Ended e st
  stays_ended zero e st = refl
  stays_ended (suc n) e st = stays_ended n e st

  one_end : (m : Whole p) (i j : ℕ) (e e' : Ending) (st st' : State) → whole_steps p i m ≡ Ended e st → whole_steps p j m ≡ Ended e' st' → gone e st ≡ gone e' st'
  one_end m i j e e' st st' x y =
      let swap : i + j ≡ j + i = omega arith in
      sym (stays_ended j e st) ∙ sym (ap (whole_steps p j) x) ∙ sym (whole_add p i j m) ∙ ap (λ n. whole_steps p n m) swap ∙ whole_add p j i m ∙ ap (whole_steps p i) y ∙ stays_ended i e' st'

  same_ending : (e e' : Ending) (st st' : State) → gone e st ≡ gone e' st' → e ≡ e'
  same_ending e e' st st' h = cc

  same_state : (e e' : Ending) (st st' : State) → gone e st ≡ gone e' st' → st ≡ st'
  same_state e e' st st' h = cc

pub rules_end : RulesEnd
unfolding first_state
rules_end p =
    let s = run_settles p p.initializers (first_state p) (omega arith, omega arith) in
    ended_by p s.from s.result (s.same s.from (omega arith)) s.holds

pub machine_ends : MachineEnds
machine_ends p =
    let r = rules_end p in
    let m = follows_the_rules p r.0 r.1 r.2 in
    (m.0, r.0, r.1, m.1)

pub followed_by_the_rules : FollowedByTheRules
followed_by_the_rules p n e st h =
    let r = rules_end p in
    let m = follows_the_rules p r.0 r.1 r.2 in
    let same = one_end p (opened_run (scoped p) p) m.0 n r.0 e r.1 st m.1 h in
    subst (λ x. Runs p e x) (same_state p r.0 e r.1 st same) (subst (λ x. Runs p x r.1) (same_ending p r.0 e r.1 st same) r.2)
