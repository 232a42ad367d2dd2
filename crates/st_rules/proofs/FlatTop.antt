-- A whole run: the flat machine goes through the initializers as the scoped one does, and ends as it ends.
use Rattle.std.proofs.Common.{◌≡◌, ℕ, zero, suc, ◌+◌, ◌⊎◌, inl, inr, List, [], ◌∷◌, Option, Some, None, refl, sym, ap, ◌∙◌, subst, arith}
use Rattle.object_heap.specs.declared.value.Value.{Value}
use Rattle.st_code.specs.Program.{Program, Initializer, body_at}
use Rattle.st_rules.specs.State.{State, Answer, Go, Stop}
use Rattle.st_rules.specs.Ends.{initializer_opening}
use Rattle.st_rules.specs.Runs.{Runs, Ending, Stuck as Stranded, first_state, kept_value, end_of}
use Rattle.st_rules.specs.Machine.{Mach, Run, Settle, Begin, Over, Stuck, Bodies}
use Rattle.st_rules.specs.Scoped.{ScopedBody, scoped}
use Rattle.st_rules.specs.Flat.{FlatBody}
use Rattle.st_rules.specs.Turns.{Top, On, Ended, open_next, top_step, top_iter, opened_run, runs_of, instructions}
use Rattle.st_rules.specs.Compilable.{AllInitializers, Compilable}
use Rattle.st_rules.specs.Flattened.{flat_of, Alike, FlatFollows, FlatFollowsTheRules, RulesFollowTheFlat}
use Rattle.st_rules.proofs.Flattening.{Places, flat_state, StoreHolds, Goes}
use Rattle.st_rules.proofs.SomeRun.{rules_end}
use Rattle.st_rules.proofs.NeverStuck.{machine_never_stuck}
use Rattle.st_rules.proofs.FollowedRun.{follows_the_rules}
use Rattle.st_rules.proofs.FlatOpened.{open_goes}
use Rattle.st_rules.proofs.FlatRun.{step_law, chained_none}

module _ (p : Program) (ok : Compilable p) where
  abbrev F : Bodies FlatBody
  F = flat_of p

  abbrev S : Bodies ScopedBody
  S = scoped p

  -- the flat run is where the scoped one is
  abbrev pub TopFollows : Top FlatBody → Top ScopedBody → Type 0
  TopFollows t (On target xs m) = (m' : Mach FlatBody) × (t ≡ On target xs m') × Goes p m' m × AllInitializers p xs
  TopFollows t (Ended e st) = (e ≡ Stranded → ⊥) → (g : Places) × (t ≡ Ended e (flat_state g st))

  kept_same : (g : Places) (target : Option ℕ) (v : Value) (st : State) → kept_value target v (flat_state g st) ≡ flat_state g (kept_value target v st)
  kept_same g None v st = refl
  kept_same g (Some place) v st = refl

  kept_holds : (g : Places) (target : Option ℕ) (v : Value) (st : State) → StoreHolds p g st.store.scopes st.store.closures → StoreHolds p g (kept_value target v st).store.scopes (kept_value target v st).store.closures
  kept_holds g None v st h = h
  kept_holds g (Some place) v st h = h

  open_law : (g : Places) (xs : List Initializer) (st : State) → StoreHolds p g st.store.scopes st.store.closures → AllInitializers p xs → TopFollows (open_next F p xs (flat_state g st)) (open_next S p xs st)
  open_law g [] st h all = λ other. (g, refl)
  open_law g (x ∷ xs) st h all =
      (_, refl, open_goes p g ok (initializer_opening p x st.next) [] st (h, tt) (record { known = all.0.known; is_kind = all.0.is_kind; chained = chained_none p ok st.store.scopes (body_at p x.code).outer all.0.stands }), all.1)

  next_law : (g : Places) (target : Option ℕ) (v : Value) (xs : List Initializer) (st : State) → StoreHolds p g st.store.scopes st.store.closures → AllInitializers p xs → TopFollows (open_next F p xs (kept_value target v (flat_state g st))) (open_next S p xs (kept_value target v st))
  next_law g target v xs st h all =
      subst (λ s. TopFollows (open_next F p xs s) (open_next S p xs (kept_value target v st))) (sym (kept_same g target v st)) (open_law g xs (kept_value target v st) (kept_holds g target v st h) all)

  -- a machine that goes on
  on_law : (target : Option ℕ) (xs : List Initializer) (m' : Mach FlatBody) (m : Mach ScopedBody) → Goes p m' m → AllInitializers p xs → TopFollows (top_step F p (On target xs m')) (top_step S p (On target xs m))
  on_law target xs m' (Run x acts st) h all =
      subst (λ y. TopFollows (top_step F p (On target xs y)) (top_step S p (On target xs (Run x acts st)))) (sym h.1.0) (_, refl, step_law p ok h.0 _ (Run x acts st) (refl, h.1.1, h.1.2, h.1.3), all)
  on_law target xs m' (Settle o acts st) h all =
      subst (λ y. TopFollows (top_step F p (On target xs y)) (top_step S p (On target xs (Settle o acts st)))) (sym h.1.0) (_, refl, step_law p ok h.0 _ (Settle o acts st) (refl, h.1.1), all)
  on_law target xs m' (Begin u acts st) h all =
      subst (λ y. TopFollows (top_step F p (On target xs y)) (top_step S p (On target xs (Begin u acts st)))) (sym h.1.0) (_, refl, step_law p ok h.0 _ (Begin u acts st) (refl, h.1.1, h.1.2, h.1.3), all)
  on_law target xs m' (Over (Answer v) st) h all =
      subst (λ y. TopFollows (top_step F p (On target xs y)) (open_next S p xs (kept_value target v st))) (sym h.1.0) (next_law h.0 target v xs st h.1.1 all)
  on_law target xs m' (Over (Go t v) st) h all = subst (λ y. TopFollows (top_step F p (On target xs y)) (Ended (end_of (Go t v)) st)) (sym h.1.0) (λ other. (h.0, refl))
  on_law target xs m' (Over (Stop l) st) h all = subst (λ y. TopFollows (top_step F p (On target xs y)) (Ended (end_of (Stop l)) st)) (sym h.1.0) (λ other. (h.0, refl))
  on_law target xs m' (Stuck st) h all = λ other. absurd (other refl)

  pub top_law : (t' : Top FlatBody) (t : Top ScopedBody) → TopFollows t' t → TopFollows (top_step F p t') (top_step S p t)
  top_law t' (On target xs m) h = subst (λ y. TopFollows (top_step F p y) (top_step S p (On target xs m))) (sym h.1) (on_law target xs h.0 m h.2 h.3)
  top_law t' (Ended e st) h = λ other. let x = h other in (x.0, ap (top_step F p) x.1)

  -- ---- the instructions

  abbrev IsStuck : Top ScopedBody → Type 0
  IsStuck (On target xs (Stuck st)) = Unit {0}
  IsStuck t = ⊥

  runs_alike : (target : Option ℕ) (xs : List Initializer) (m' : Mach FlatBody) (m : Mach ScopedBody) → Goes p m' m → (runs_of F p (On target xs m') ≡ runs_of S p (On target xs m)) ⊎ IsStuck (On target xs m)
  runs_alike target xs m' (Run x acts st) h = inl (ap (λ y. runs_of F p (On target xs y)) h.1.0)
  runs_alike target xs m' (Settle o acts st) h = inl (ap (λ y. runs_of F p (On target xs y)) h.1.0)
  runs_alike target xs m' (Begin u acts st) h = inl (ap (λ y. runs_of F p (On target xs y)) h.1.0)
  runs_alike target xs m' (Over o st) h = inl (ap (λ y. runs_of F p (On target xs y)) h.1.0)
  runs_alike target xs m' (Stuck st) h = inr tt

  gone : (n : ℕ) (e : Ending) (st : State) → top_iter S p n (Ended e st) ≡ Ended e st
  gone zero e st = refl
  gone (suc n) e st = gone n e st

  -- the end, and the instructions on the way
  record Arrives (n : ℕ) (t' : Top FlatBody) (t : Top ScopedBody) (e : Ending) (st : State) : Type 0 where
    places : Places
    leads : top_iter F p n t' ≡ Ended e (flat_state places st)
    counted : instructions F p n t' ≡ instructions S p n t

  none_run : (n : ℕ) (e : Ending) (st : State) → instructions F p n (Ended e st) ≡ 0
  none_run zero e st = refl
  none_run (suc n) e st = let h = none_run n e st in omega arith

  none_run_scoped : (n : ℕ) (e : Ending) (st : State) → instructions S p n (Ended e st) ≡ 0
  none_run_scoped zero e st = refl
  none_run_scoped (suc n) e st = let h = none_run_scoped n e st in omega arith

  gone_flat : (n : ℕ) (e : Ending) (st : State) → top_iter F p n (Ended e st) ≡ Ended e st
  gone_flat zero e st = refl
  gone_flat (suc n) e st = gone_flat n e st

  abbrev ended_at : Ending → State → Top ScopedBody
  ended_at e st = Ended e st

  same_ending : (e e' : Ending) (st st' : State) → ended_at e st ≡ ended_at e' st' → e ≡ e'
  same_ending e e' st st' h = cc

  -- a run that ends otherwise isn't stuck
  not_stuck : (n : ℕ) (target : Option ℕ) (xs : List Initializer) (m' : Mach FlatBody) (m : Mach ScopedBody) (e : Ending) (st : State) → top_iter S p (suc n) (On target xs m) ≡ Ended e st → (e ≡ Stranded → ⊥) → (runs_of F p (On target xs m') ≡ runs_of S p (On target xs m)) ⊎ IsStuck (On target xs m) → runs_of F p (On target xs m') ≡ runs_of S p (On target xs m)
  not_stuck n target xs m' m e st x other (inl same) = same
  not_stuck n target xs m' (Stuck s) e st x other (inr stuck) =
      let same : ended_at Stranded s ≡ ended_at e st = sym (gone n Stranded s) ∙ x in
      absurd (other (sym (same_ending Stranded e s st same)))
  not_stuck n target xs m' (Run y acts s) e st x other (inr stuck) = absurd stuck
  not_stuck n target xs m' (Settle o acts s) e st x other (inr stuck) = absurd stuck
  not_stuck n target xs m' (Begin u acts s) e st x other (inr stuck) = absurd stuck
  not_stuck n target xs m' (Over o s) e st x other (inr stuck) = absurd stuck

  arrives : (n : ℕ) (t' : Top FlatBody) (t : Top ScopedBody) (e : Ending) (st : State) → TopFollows t' t → top_iter S p n t ≡ Ended e st → (e ≡ Stranded → ⊥) → Arrives n t' t e st
  arrives n t' (Ended d s) e st h x other =
      let same : ended_at d s ≡ ended_at e st = sym (gone n d s) ∙ x in
      let h' = subst (λ t. TopFollows t' t) same h other in
      record {
        places = h'.0;
        leads = ap (top_iter F p n) h'.1 ∙ gone_flat n e (flat_state h'.0 st);
        counted = ap (instructions F p n) h'.1 ∙ none_run n e (flat_state h'.0 st) ∙ sym (none_run_scoped n d s);
      }
  arrives zero t' (On target xs m) e st h x other = let none : ⊥ = grind (arith, x) in absurd none
  arrives (suc n) t' (On target xs m) e st h x other =
      let a = arrives n (top_step F p t') (top_step S p (On target xs m)) e st (top_law t' (On target xs m) h) x other in
      let runs : runs_of F p t' ≡ runs_of S p (On target xs m) = ap (runs_of F p) h.1 ∙ not_stuck n target xs h.0 m e st x other (runs_alike target xs h.0 m h.2) in
      record { places = a.places; leads = a.leads; counted = ap (λ k. k + instructions F p n (top_step F p t')) runs ∙ ap (λ k. runs_of S p (On target xs m) + k) a.counted }

  -- ---- the whole run

  abbrev first_places : Places
  first_places = record { places = []; scopes = []; owners = [] }

  first_holds : StoreHolds p first_places [] []
  first_holds =
      record {
        scopes = record { sized = refl; owned = refl; each = λ n l. let none : ⊥ = omega (arith, l) in absurd none };
        closures = tt;
      }

  pub opened_law : TopFollows (opened_run F p) (opened_run S p)
  unfolding first_state
  opened_law = open_law first_places p.initializers (first_state p) first_holds ok.initializers

pub flat_follows : FlatFollows
flat_follows p ok n e st x =
    let never : e ≡ Stranded → ⊥ = λ s. machine_never_stuck p n st (x ∙ ap (λ d. Ended d st) s) in
    let a = arrives p ok n (opened_run (flat_of p) p) (opened_run (scoped p) p) e st (opened_law p ok) x never in
    record { state = flat_state a.places st; leads = a.leads; alike = refl; counted = a.counted }

pub flat_follows_the_rules : FlatFollowsTheRules
flat_follows_the_rules p ok e st r =
    let m = follows_the_rules p e st r in
    (m.0, flat_follows p ok m.0 e st m.1)

-- ---- the flat machine ends in one way

module _ (p : Program) where
  abbrev flat_run : Type 0
  flat_run = Top FlatBody

  abbrev flat_steps : ℕ → flat_run → flat_run
  flat_steps n t = top_iter (flat_of p) p n t

  steps_add : (j k : ℕ) (t : flat_run) → flat_steps (j + k) t ≡ flat_steps k (flat_steps j t)
  steps_add zero k t = let e : 0 + k ≡ k = omega arith in ap (λ n. flat_steps n t) e
  steps_add (suc j) k t = let e : suc j + k ≡ suc (j + k) = omega arith in ap (λ n. flat_steps n t) e ∙ steps_add j k (top_step (flat_of p) p t)

  stays : (n : ℕ) (e : Ending) (st : State) → flat_steps n (Ended e st) ≡ Ended e st
  stays zero e st = refl
  stays (suc n) e st = stays n e st

  abbrev over : Ending → State → flat_run
  over e st = Ended e st

  one_end : (t : flat_run) (i j : ℕ) (e e' : Ending) (st st' : State) → flat_steps i t ≡ Ended e st → flat_steps j t ≡ Ended e' st' → over e st ≡ over e' st'
  one_end t i j e e' st st' x y =
      let swap : i + j ≡ j + i = omega arith in
      sym (stays j e st) ∙ sym (ap (flat_steps j) x) ∙ sym (steps_add i j t) ∙ ap (λ n. flat_steps n t) swap ∙ steps_add j i t ∙ ap (flat_steps i) y ∙ stays i e' st'

  over_ending : (e e' : Ending) (st st' : State) → over e st ≡ over e' st' → e ≡ e'
  over_ending e e' st st' h = cc

  over_state : (e e' : Ending) (st st' : State) → over e st ≡ over e' st' → st ≡ st'
  over_state e e' st st' h = cc

pub rules_follow_the_flat : RulesFollowTheFlat
rules_follow_the_flat p ok n e st x =
    let r = rules_end p in
    let f = flat_follows_the_rules p ok r.0 r.1 r.2 in
    let same = one_end p (opened_run (flat_of p) p) f.0 n r.0 e f.1.state st f.1.leads x in
    (r.1, subst (λ d. Runs p d r.1) (over_ending p r.0 e f.1.state st same) r.2, subst (λ s. Alike r.1 s) (over_state p r.0 e f.1.state st same) f.1.alike)
