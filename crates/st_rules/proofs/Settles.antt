-- From some index on the rules give one outcome, with steps between a bound and the limit: how that goes through charges and outcomes.
use Rattle.std.proofs.Common.{◌≡◌, ℕ, zero, suc, ◌+◌, ◌≤◌, max, length, List, Some, None, Bool, true, false, refl, ap, ◌∙◌, arith, ltb-true, nat_lt, nat_le, if◌then◌else◌}
use Rattle.object_heap.specs.declared.value.Value.{Value}
use Rattle.st_code.specs.Program.{Program, Tree}
use Rattle.st_rules.specs.State.{State, Env, Target, Limit, Outcome, Answer, Go, Stop, Mark, Frame, step_made, stood, used}
use Rattle.st_rules.specs.Ends.{Result, Yields, NoIndex, charged, handle, then_value, ended}
use Rattle.st_rules.specs.Rules.{Use, eval, rule, at_index}

module _ (p : Program) where
  -- at least b steps are made, and no more than the limit
  abbrev pub Within : ℕ → State → Type 0
  Within b st = (b ≤ st.steps) × (st.steps ≤ p.step_limit)

  -- an outcome, with at least b steps
  abbrev pub AtLeast : ℕ → Result → Type 0
  AtLeast b (Yields o st) = Within b st
  AtLeast b NoIndex = ⊥

  -- and with more than b, unless a limit stopped it
  abbrev pub MoreThan : ℕ → Result → Type 0
  MoreThan b (Yields (Answer v) st) = Within (suc b) st
  MoreThan b (Yields (Go t v) st) = Within (suc b) st
  MoreThan b (Yields (Stop l) st) = Within b st
  MoreThan b NoIndex = ⊥

  pub less : (b : ℕ) (st : State) → Within (suc b) st → Within b st
  less b st w = (omega (arith, w.0), w.1)

  pub less_is_least : (b : ℕ) (r : Result) → AtLeast (suc b) r → AtLeast b r
  less_is_least b (Yields o st) w = less b st w
  less_is_least b NoIndex w = w

  pub least_is_more : (b : ℕ) (r : Result) → AtLeast (suc b) r → MoreThan b r
  least_is_more b (Yields (Answer v) st) w = w
  least_is_more b (Yields (Go t v) st) w = w
  least_is_more b (Yields (Stop l) st) w = less b st w
  least_is_more b NoIndex w = w

  pub more_is_least : (b : ℕ) (r : Result) → MoreThan b r → AtLeast b r
  more_is_least b (Yields (Answer v) st) w = less b st w
  more_is_least b (Yields (Go t v) st) w = less b st w
  more_is_least b (Yields (Stop l) st) w = w
  more_is_least b NoIndex w = w

  -- an outcome that is told
  pub more_told : (b n : ℕ) (o : Outcome) (st : State) → Within (suc b) st → MoreThan b (Yields o (ended n o st))
  more_told b n (Answer v) st w = w
  more_told b n (Go t v) st w = w
  more_told b n (Stop l) st w = less b st w

-- from some index on one result, of which P holds
pub record Settles (P : Result → Type 0) (X : ℕ → Result) : Type 0 where
  pub from : ℕ
  pub result : Result
  pub same : (k : ℕ) → from ≤ k → X k ≡ result
  pub holds : P result

pub settled : (P : Result → Type 0) (r : Result) → P r → Settles P (λ k. r)
settled P r h = record { from = 0; result = r; same = λ k le. refl; holds = h }

pub settles_so : (P Q : Result → Type 0) (X : ℕ → Result) → ((r : Result) → P r → Q r) → Settles P X → Settles Q X
settles_so P Q X h e = record { from = e.from; result = e.result; same = e.same; holds = h e.result e.holds }

-- what is done with a result that is settled
joined : (P : Result → Type 0) (n : ℕ) (X : ℕ → Result) (r : Result) (K : ℕ → Result → Result) → ((k : ℕ) → n ≤ k → X k ≡ r) → Settles P (λ k. K k r) → Settles P (λ k. K k (X k))
joined P n X r K same f =
    record {
      from = n + f.from;
      result = f.result;
      same = λ k le. ap (K k) (same k (omega arith)) ∙ f.same k (omega arith);
      holds = f.holds;
    }

module _ (p : Program) where
  -- a use, and an expression, at one index more
  pub use_settles : (P : Result → Type 0) (u : Use) (standing : List Mark) (st : State) → Settles P (λ k. rule p (at_index p k) u standing st) → Settles P (λ k. (at_index p k).use' u standing st)
  unfolding at_index
  use_settles P u standing st e = record { from = suc e.from; result = e.result; same = go; holds = e.holds }
    where
      go : (k : ℕ) → suc e.from ≤ k → (at_index p k).use' u standing st ≡ e.result
      go zero le = absurd (omega arith)
      go (suc k) le = e.same k (omega arith)

  pub tree_settles : (P : Result → Type 0) (t : Tree) (f : Frame) (env : Env) (standing : List Mark) (st : State) → Settles P (λ k. eval p (at_index p k) f env standing t st) → Settles P (λ k. (at_index p k).tree t f env standing st)
  unfolding at_index
  tree_settles P t f env standing st e = record { from = suc e.from; result = e.result; same = go; holds = e.holds }
    where
      go : (k : ℕ) → suc e.from ≤ k → (at_index p k).tree t f env standing st ≡ e.result
      go zero le = absurd (omega arith)
      go (suc k) le = e.same k (omega arith)

  -- charges
  pub step_settles : (P : Result → Type 0) (b : ℕ) (st : State) (r : Result) (K : ℕ → State → Result) → Within p b st → P r → ((st1 : State) → Within p (suc b) st1 → Settles P (λ k. K k st1)) → Settles P (λ k. charged (step_made p st) r (K k))
  unfolding step_made
  step_settles P b st r K w stop h = go (nat_lt st.steps p.step_limit) refl
    where
      go : (c : Bool) → nat_lt st.steps p.step_limit ≡ c → Settles P (λ k. charged (if c then Some (record st { steps = st.steps + 1 }) else None) r (K k))
      go true e = h (record st { steps = st.steps + 1 }) (omega (arith, w.0), omega (arith, ltb-true st.steps p.step_limit e))
      go false e = settled P r stop

  pub stood_settles : (P : Result → Type 0) (b : ℕ) (standing : List Mark) (st : State) (r : Result) (K : ℕ → State → Result) → Within p b st → P r → ((st1 : State) → Within p b st1 → Settles P (λ k. K k st1)) → Settles P (λ k. charged (stood p standing st) r (K k))
  unfolding stood
  stood_settles P b standing st r K w stop h = go (nat_le (length standing + 1) p.depth_limit)
    where
      go : (c : Bool) → Settles P (λ k. charged (if c then Some (record st { depth = max st.depth (length standing + 1); next = st.next + 1 }) else None) r (K k))
      go true = h _ w
      go false = settled P r stop

  pub used_settles : (P : Result → Type 0) (b n : ℕ) (st : State) (r : Result) (K : ℕ → State → Result) → Within p b st → P r → ((st1 : State) → Within p b st1 → Settles P (λ k. K k st1)) → Settles P (λ k. charged (used p n st) r (K k))
  unfolding used
  used_settles P b n st r K w stop h = go (nat_le (st.cells + n) p.cell_limit)
    where
      go : (c : Bool) → Settles P (λ k. charged (if c then Some (record st { cells = st.cells + n }) else None) r (K k))
      go true = h _ w
      go false = settled P r stop

  -- each outcome of a result with more than b steps
  pub handle_settles : (P : Result → Type 0) (b : ℕ) (X : ℕ → Result) (K : ℕ → Outcome → State → Result) → Settles (MoreThan p b) X → ((v : Value) (st : State) → Within p (suc b) st → Settles P (λ k. K k (Answer v) st)) → ((t : Target) (v : Value) (st : State) → Within p (suc b) st → Settles P (λ k. K k (Go t v) st)) → ((l : Limit) (st : State) → Within p b st → Settles P (λ k. K k (Stop l) st)) → Settles P (λ k. handle (X k) (K k))
  handle_settles P b X K e a u s = go e.result e.same e.holds
    where
      go : (r : Result) → ((k : ℕ) → e.from ≤ k → X k ≡ r) → MoreThan p b r → Settles P (λ k. handle (X k) (K k))
      go (Yields (Answer v) st) same w = joined P e.from X (Yields (Answer v) st) (λ k x. handle x (K k)) same (a v st w)
      go (Yields (Go t v) st) same w = joined P e.from X (Yields (Go t v) st) (λ k x. handle x (K k)) same (u t v st w)
      go (Yields (Stop l) st) same w = joined P e.from X (Yields (Stop l) st) (λ k x. handle x (K k)) same (s l st w)
      go NoIndex same w = absurd w

  -- each outcome of a result with at least b steps, and its values alone
  pub outcome_settles : (b : ℕ) (X : ℕ → Result) (K : ℕ → Outcome → State → Result) → Settles (AtLeast p b) X → ((o : Outcome) (st : State) → Within p b st → Settles (AtLeast p b) (λ k. K k o st)) → Settles (AtLeast p b) (λ k. handle (X k) (K k))
  outcome_settles b X K e h = go e.result e.same e.holds
    where
      go : (r : Result) → ((k : ℕ) → e.from ≤ k → X k ≡ r) → AtLeast p b r → Settles (AtLeast p b) (λ k. handle (X k) (K k))
      go (Yields o st) same w = joined (AtLeast p b) e.from X (Yields o st) (λ k x. handle x (K k)) same (h o st w)
      go NoIndex same w = absurd w

  pub value_settles : (b : ℕ) (X : ℕ → Result) (K : ℕ → Value → State → Result) → Settles (AtLeast p b) X → ((v : Value) (st : State) → Within p b st → Settles (AtLeast p b) (λ k. K k v st)) → Settles (AtLeast p b) (λ k. then_value (X k) (K k))
  value_settles b X K e h = go e.result e.same e.holds
    where
      go : (r : Result) → ((k : ℕ) → e.from ≤ k → X k ≡ r) → AtLeast p b r → Settles (AtLeast p b) (λ k. then_value (X k) (K k))
      go (Yields (Answer v) st) same w = joined (AtLeast p b) e.from X (Yields (Answer v) st) (λ k x. then_value x (K k)) same (h v st w)
      go (Yields (Go t v) st) same w = joined (AtLeast p b) e.from X (Yields (Go t v) st) (λ k x. then_value x (K k)) same (settled (AtLeast p b) (Yields (Go t v) st) w)
      go (Yields (Stop l) st) same w = joined (AtLeast p b) e.from X (Yields (Stop l) st) (λ k x. then_value x (K k)) same (settled (AtLeast p b) (Yields (Stop l) st) w)
      go NoIndex same w = absurd w
