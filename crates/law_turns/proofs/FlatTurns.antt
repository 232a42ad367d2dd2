-- The flat machine's turns: so many lead to a state, to one only, and turns join.
use Rattle.std.proofs.Common.{◌≡◌, ℕ, zero, suc, ◌+◌, ◌-◌, ◌<◌, ◌≤◌, ◌⊎◌, inl, inr, List, Option, refl, ap, sym, ◌∙◌, subst, arith}
use Rattle.st_code.specs.Program.{Program, Initializer}
use Rattle.st_rules.specs.Flat.{FlatBody, flat}
use Rattle.st_rules.specs.Machine.{Bodies, Mach, Run, Settle, Begin, Over, Stuck}
use Rattle.st_rules.specs.Runs.{Ending}
use Rattle.st_rules.specs.State.{State}
use Rattle.st_rules.specs.Turns.{Top, On, Ended, top_iter, runs_of, instructions, AtRest}
use Rattle.st_rules.proofs.EndingTurns.{turn_ends}
use Rattle.st_machine_laws.proofs.Moments.{steps_add, counts_add, ended_stays}
use Rattle.law_turns.specs.AfterTurns.{AllDone, AfterTurns}
use Rattle.law_turns.specs.Laws.{OneStateAlways, SomeStateAlways, TurnsAlwaysJoin}

either_way : (a c : ℕ) → (a ≤ c) ⊎ (c ≤ a)
either_way zero c = inl (omega arith)
either_way (suc a) zero = inr (omega arith)
either_way (suc a) (suc c) = by (either_way a c)
  where
    by : (a ≤ c) ⊎ (c ≤ a) → (suc a ≤ suc c) ⊎ (suc c ≤ suc a)
    by (inl l) = inl (omega (arith, l))
    by (inr l) = inr (omega (arith, l))

module _ (b : Bodies FlatBody) (p : Program) where
  -- an ended run runs no further instruction
  none_more : (n : ℕ) (e : Ending) (st : State) → instructions b p n (Ended e st) ≡ 0
  none_more zero e st = refl
  none_more (suc n) e st = let none : instructions b p n (Ended e st) ≡ 0 = none_more n e st in omega (arith, none)

  -- ---- so many steps further

  further : (a c : ℕ) (from u v : Top FlatBody) → a ≤ c → top_iter b p a from ≡ u → top_iter b p c from ≡ v → top_iter b p (c - a) u ≡ v
  further a c from u v l is is' =
      let all : a + (c - a) ≡ c = omega (arith, l) in
      ap (λ t. top_iter b p (c - a) t) (sym is) ∙ sym (steps_add b p a (c - a) from) ∙ ap (λ n. top_iter b p n from) all ∙ is'

  counts : (a c : ℕ) (from u : Top FlatBody) → a ≤ c → top_iter b p a from ≡ u → instructions b p c from ≡ instructions b p a from + instructions b p (c - a) u
  counts a c from u l is =
      let all : c ≡ a + (c - a) = omega (arith, l) in
      ap (λ n. instructions b p n from) all ∙ counts_add b p a (c - a) from ∙ ap (λ t. instructions b p a from + instructions b p (c - a) t) is

  -- ---- one state

  -- all turns were done, or fewer
  most_done : (done count : ℕ) (t : Top FlatBody) → AllDone done count t → done ≤ count
  most_done done count (On target xs m) all = omega (arith, all)
  most_done done count (Ended e st) all = all

  -- a machine at rest runs an instruction next
  runs_on : (n : ℕ) (target : Option ℕ) (xs : List Initializer) (m : Mach FlatBody) → AtRest b p (On target xs m) → 0 < n → 1 ≤ instructions b p n (On target xs m)
  runs_on zero target xs m r some = let clash : ⊥ = omega (arith, some) in absurd clash
  runs_on (suc n) target xs (Run x acts st) r some = omega arith
  runs_on (suc n) target xs (Settle o acts st) r some = absurd r
  runs_on (suc n) target xs (Begin u acts st) r some = absurd r
  runs_on (suc n) target xs (Over o st) r some = absurd r
  runs_on (suc n) target xs (Stuck st) r some = absurd r

  no_more : (n : ℕ) (target : Option ℕ) (xs : List Initializer) (m : Mach FlatBody) → AtRest b p (On target xs m) → instructions b p n (On target xs m) ≡ 0 → n ≡ 0
  no_more zero target xs m r none = refl
  no_more (suc n) target xs m r none =
      let one : 1 ≤ instructions b p (suc n) (On target xs m) = runs_on (suc n) target xs m r (omega arith) in
      let clash : ⊥ = omega (arith, one, none) in
      absurd clash

  -- where the one state takes no more steps than the other, they are one
  same_by : (n more count done done' : ℕ) (u v : Top FlatBody) → AtRest b p u → top_iter b p n u ≡ v → instructions b p n u ≡ more → done' ≡ done + more → AllDone done count u → done' ≤ count → u ≡ v
  same_by n more count done done' (Ended e st) v r leads counted sum all most = sym (ended_stays b p n e st) ∙ leads
  same_by n more count done done' (On target xs m) v r leads counted sum all most =
      let none : more ≡ 0 = omega (arith, sum, all, most) in
      let nowhere : n ≡ 0 = no_more n target xs m r (counted ∙ none) in
      sym (ap (λ k. top_iter b p k (On target xs m)) nowhere) ∙ leads

  same_if : (count : ℕ) (from u v : Top FlatBody) → (x : AfterTurns b p count from u) → (y : AfterTurns b p count from v) → x.turns.steps ≤ y.turns.steps → u ≡ v
  same_if count from u v x y l =
      let more : ℕ = instructions b p (y.turns.steps - x.turns.steps) u in
      let sum : instructions b p y.turns.steps from ≡ instructions b p x.turns.steps from + more = counts x.turns.steps y.turns.steps from u l x.turns.leads in
      let all : y.done ≡ x.done + more = sym y.turns.counted ∙ sum ∙ ap (λ k. k + more) x.turns.counted in
      same_by (y.turns.steps - x.turns.steps) more count x.done y.done u v x.turns.rests (further x.turns.steps y.turns.steps from u v l x.turns.leads y.turns.leads) refl all x.all (most_done y.done count v y.all)

  one_by : (count : ℕ) (from u v : Top FlatBody) → (x : AfterTurns b p count from u) → (y : AfterTurns b p count from v) → (x.turns.steps ≤ y.turns.steps) ⊎ (y.turns.steps ≤ x.turns.steps) → u ≡ v
  one_by count from u v x y (inl l) = same_if count from u v x y l
  one_by count from u v x y (inr l) = sym (same_if count from v u y x l)

  -- ---- turns join

  all_of : (j k done done' : ℕ) (n : ℕ) (u v : Top FlatBody) → AllDone done j u → AllDone done' k v → top_iter b p n u ≡ v → instructions b p n u ≡ done' → AllDone (done + done') (j + k) v
  all_of j k done done' n (On target xs m) (On target' xs' m') all all' leads counted = omega (arith, all, all')
  all_of j k done done' n (On target xs m) (Ended e st) all all' leads counted = omega (arith, all, all')
  all_of j k done done' n (Ended e st) (Ended e' st') all all' leads counted = omega (arith, all, all')
  all_of j k done done' n (Ended e st) (On target xs m) all all' leads counted =
      let clash : Ended e st ≡ On target xs m = sym (ended_stays b p n e st) ∙ leads in
      absurd cc

  join : (j k : ℕ) (from u v : Top FlatBody) → AfterTurns b p j from u → AfterTurns b p k u v → AfterTurns b p (j + k) from v
  join j k from u v x y =
      record {
        done = x.done + y.done;
        turns = record {
          steps = x.turns.steps + y.turns.steps;
          leads = steps_add b p x.turns.steps y.turns.steps from ∙ ap (λ t. top_iter b p y.turns.steps t) x.turns.leads ∙ y.turns.leads;
          counted =
              counts_add b p x.turns.steps y.turns.steps from ∙ ap (λ t. instructions b p x.turns.steps from + instructions b p y.turns.steps t) x.turns.leads
              ∙ ap (λ k. k + instructions b p y.turns.steps u) x.turns.counted ∙ ap (λ k. x.done + k) y.turns.counted;
          rests = y.turns.rests;
        };
        all = all_of j k x.done y.done y.turns.steps u v x.all y.all y.turns.leads y.turns.counted;
      }

  -- ---- some state

  exact : (k : ℕ) (t : Top FlatBody) → AllDone k k t
  exact k (On target xs m) = refl
  exact k (Ended e st) = omega arith

  abbrev Comes : ℕ → Top FlatBody → Type 0
  Comes count from = (to : Top FlatBody) × AfterTurns b p count from to

  turned : (t : Top FlatBody) → Comes (runs_of b p t) t
  turned t =
      let x = turn_ends b p t in
      (x.0, record { done = runs_of b p t; turns = x.1; all = exact (runs_of b p t) x.0 })

  at_rest : (t : Top FlatBody) → AtRest b p t → Comes 0 t
  at_rest t r = (t, record { done = 0; turns = record { steps = 0; leads = refl; counted = refl; rests = r }; all = exact 0 t })

  -- the next moment at rest
  rested : (t : Top FlatBody) → Comes 0 t
  rested (Ended e st) = at_rest (Ended e st) tt
  rested (On target xs (Run x acts st)) = at_rest (On target xs (Run x acts st)) tt
  rested (On target xs (Settle o acts st)) = turned (On target xs (Settle o acts st))
  rested (On target xs (Begin u acts st)) = turned (On target xs (Begin u acts st))
  rested (On target xs (Over o st)) = turned (On target xs (Over o st))
  rested (On target xs (Stuck st)) = turned (On target xs (Stuck st))

  one_turn : (t : Top FlatBody) → AtRest b p t → Comes 1 t
  one_turn (Ended e st) r = (Ended e st, record { done = 0; turns = record { steps = 0; leads = refl; counted = refl; rests = tt }; all = omega arith })
  one_turn (On target xs (Run x acts st)) r = turned (On target xs (Run x acts st))
  one_turn (On target xs (Settle o acts st)) r = absurd r
  one_turn (On target xs (Begin u acts st)) r = absurd r
  one_turn (On target xs (Over o st)) r = absurd r
  one_turn (On target xs (Stuck st)) r = absurd r

  comes : (count : ℕ) (t : Top FlatBody) → Comes count t
  comes zero t = rested t
  comes (suc n) t =
      let x : Comes n t = comes n t in
      let y : Comes 1 x.0 = one_turn x.0 x.1.turns.rests in
      let same : n + 1 ≡ suc n = omega arith in
      (y.0, subst (λ k. AfterTurns b p k t y.0) same (join n 1 t x.0 y.0 x.1 y.1))

-- ---- the laws

pub some : SomeStateAlways
some p codes room count from = comes (flat p codes room) p count from

pub one : OneStateAlways
one p codes room count from to to' x y = one_by (flat p codes room) p count from to to' x y (either_way x.turns.steps y.turns.steps)

pub joins : TurnsAlwaysJoin
joins p codes room j k from mid to x y = join (flat p codes room) p j k from mid to x y
