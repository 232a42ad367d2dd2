-- A whole run: the machine goes through the initializers as the rules do, and ends as they end.
use Rattle.std.proofs.Common.{◌≡◌, ℕ, zero, suc, ◌+◌, List, [], ◌∷◌, Option, refl, sym, ap, ◌∙◌, subst, arith}
use Rattle.object_heap.specs.declared.value.Value.{Value}
use Rattle.st_code.specs.Program.{Program, Initializer}
use Rattle.st_rules.specs.State.{State, Outcome, Answer, Go, Stop}
use Rattle.st_rules.specs.Ends.{Result, Yields, NoIndex, then_value, initializer_opening}
use Rattle.st_rules.specs.Rules.{Next, at_index}
use Rattle.st_rules.specs.Runs.{run_from, first_state, end_of, kept_value}
use Rattle.st_rules.specs.Machine.{Run, Settle, Begin, Over, Stuck}
use Rattle.st_rules.specs.Scoped.{ScopedBody, scoped}
use Rattle.st_rules.specs.Turns.{Top, On, Ended, open_next, top_step, top_iter, opened_run}
use Rattle.st_rules.specs.Followed.{FollowsTheRules}
use Rattle.st_rules.proofs.Meets.{Machine, next_step, steps, steps_add, steps_swap, Meets, Follows}
use Rattle.st_rules.proofs.RuleLaws.{Sim, opened_law, simulated}

module _ (p : Program) where
  stays_over : (n : ℕ) (o : Outcome) (st : State) → steps p n (Over o st) ≡ Over o st
  stays_over zero o st = refl
  stays_over (suc n) o st = stays_over n o st

  stays_stuck : (n : ℕ) (st : State) → steps p n (Stuck st) ≡ Stuck st
  stays_stuck zero st = refl
  stays_stuck (suc n) st = stays_stuck n st

  settles_last : (o : Outcome) (st : State) → next_step p (Settle o [] st) ≡ Over o st
  settles_last (Answer v) st = refl
  settles_last (Go t v) st = refl
  settles_last (Stop l) st = refl

  -- what comes together with the last outcome is over after some steps
  record Arrives (m : Machine) (o : Outcome) (st : State) : Type 0 where
    count : ℕ
    leads : steps p count m ≡ Over o st

  arrives : (m : Machine) (o : Outcome) (st : State) → Meets p m (Settle o [] st) → Arrives m o st
  arrives m o st x =
      record {
        count = x.left + 1;
        leads =
            steps_add p x.left 1 m
            ∙ ap (next_step p) x.same
            ∙ steps_swap p x.right 1 (Settle o [] st)
            ∙ ap (steps p x.right) (settles_last o st)
            ∙ stays_over x.right o st;
      }

  abbrev pub Whole : Type 0
  Whole = Top ScopedBody

  abbrev pub whole_steps : ℕ → Whole → Whole
  whole_steps n t = top_iter (scoped p) p n t

  pub whole_add : (j k : ℕ) (t : Whole) → whole_steps (j + k) t ≡ whole_steps k (whole_steps j t)
  whole_add zero k t = let e : 0 + k ≡ k = omega arith in ap (λ n. whole_steps n t) e
  whole_add (suc j) k t = let e : suc j + k ≡ suc (j + k) = omega arith in ap (λ n. whole_steps n t) e ∙ whole_add j k (top_step (scoped p) p t)

  record Reaches (from to : Whole) : Type 0 where
    count : ℕ
    leads : whole_steps count from ≡ to

  reaches_itself : (t : Whole) → Reaches t t
  reaches_itself t = record { count = 0; leads = refl }

  reaches_on : {a b c : Whole} → Reaches a b → Reaches b c → Reaches a c
  reaches_on {a} {b} {c} x y = record { count = x.count + y.count; leads = whole_add x.count y.count a ∙ ap (whole_steps y.count) x.leads ∙ y.leads }

  one_more : (a : Whole) {b : Whole} → Reaches (top_step (scoped p) p a) b → Reaches a b
  one_more a x = record { count = suc x.count; leads = x.leads }

  -- a machine that is over after some steps comes there within its initializer
  comes : (target : Option ℕ) (xs : List Initializer) (n : ℕ) (m : Machine) (o : Outcome) (st : State) → steps p n m ≡ Over o st → Reaches (On target xs m) (On target xs (Over o st))
  comes target xs zero m o st e = record { count = 0; leads = ap (λ x. On target xs x) e }
  comes target xs (suc n) (Run x acts s) o st e = one_more _ (comes target xs n (next_step p (Run x acts s)) o st e)
  comes target xs (suc n) (Settle x acts s) o st e = one_more _ (comes target xs n (next_step p (Settle x acts s)) o st e)
  comes target xs (suc n) (Begin x acts s) o st e = one_more _ (comes target xs n (next_step p (Begin x acts s)) o st e)
  comes target xs (suc n) (Over x s) o st e = record { count = 0; leads = ap (λ y. On target xs y) (sym (stays_over (suc n) x s) ∙ e) }
  comes target xs (suc n) (Stuck s) o st e = let k : Stuck s ≡ Over o st = sym (stays_stuck (suc n) s) ∙ e in absurd (grind (arith, k))

  comes_by : (target : Option ℕ) (xs : List Initializer) (m : Machine) (o : Outcome) (st : State) → Meets p m (Settle o [] st) → Reaches (On target xs m) (On target xs (Over o st))
  comes_by target xs m o st x = let a = arrives m o st x in comes target xs a.count m o st a.leads

  -- the run ends as the rules end it
  abbrev EndsAs : Result → Whole → Type 0
  EndsAs (Yields o st) t = Reaches t (Ended (end_of o) st)
  EndsAs NoIndex t = Unit {0}

  ends_after : (r : Result) {a b : Whole} → Reaches a b → EndsAs r b → EndsAs r a
  ends_after (Yields o st) x y = reaches_on x y
  ends_after NoIndex x y = tt

  first_law : (target : Option ℕ) (xs : List Initializer) (m : Machine) (r : Result) (k : Value → State → Result) → Follows p m r [] → ((v : Value) (st : State) → EndsAs (k v st) (open_next (scoped p) p xs (kept_value target v st))) → EndsAs (then_value r k) (On target xs m)
  first_law target xs m (Yields (Answer v) st) k f h = ends_after (k v st) (comes_by target xs m (Answer v) st f) (ends_after (k v st) (one_more _ (reaches_itself _)) (h v st))
  first_law target xs m (Yields (Go t v) st) k f h = reaches_on (comes_by target xs m (Go t v) st f) (one_more _ (reaches_itself _))
  first_law target xs m (Yields (Stop l) st) k f h = reaches_on (comes_by target xs m (Stop l) st f) (one_more _ (reaches_itself _))
  first_law target xs m NoIndex k f h = tt

  whole_law : (next : Next) → Sim p next → (xs : List Initializer) (st : State) → EndsAs (run_from p next xs st) (open_next (scoped p) p xs st)
  whole_law next sim [] st = reaches_itself _
  whole_law next sim (x ∷ xs) st =
      first_law x.target xs _ _ _ (opened_law p next sim (initializer_opening p x st.next) [] st) (λ v st1. whole_law next sim xs (kept_value x.target v st1))

pub follows_the_rules : FollowsTheRules
follows_the_rules p e st r =
    let x = subst (λ y. EndsAs p y (opened_run (scoped p) p)) r.run (whole_law p (at_index p r.index) (simulated p r.index) p.initializers (first_state p)) in
    (x.count, x.leads ∙ ap (λ y. Ended y st) r.ends)
