-- A machine's run ends as the flat machine's does, and so as the rules'.
use Rattle.std.proofs.Common.{◌≡◌, ℕ, zero, suc, ◌+◌, ◌-◌, ◌^◌, min, ◌<◌, ◌≤◌, ◌⊎◌, List, [], ◌∷◌, ◌++◌, inl, inr, refl, ap, sym, ◌∙◌, subst, arith}
use Rattle.object_heap.specs.Charges.{Memory}
use Rattle.st_code.specs.Texts.{Text}
use Rattle.st_code.specs.Compiled.{Compiled, compile_of}
use Rattle.program_image.specs.Spelled.{names_in}
use Rattle.st_code.specs.Written.{named_units}
use Rattle.st_rules.specs.Events.{Event}
use Rattle.st_rules.specs.State.{State}
use Rattle.st_rules.specs.Runs as rules
use Rattle.st_rules.specs.Runs.{Runs, first_state}
use Rattle.st_rules.specs.StepLimits.{Begins}
use Rattle.st_rules.specs.SoFar.{written, state_of as mach_state}
use Rattle.st_rules.specs.Machine.{Bodies}
use Rattle.st_rules.specs.State.{scope_cells}
use Rattle.st_code.specs.Program.{Program, Initializer, body_at}
use Rattle.st_contexts.specs.declared.activation.Activation.{Activation}
use Rattle.st_contexts.specs.declared.activation.Activation.TheVariants as act
use Rattle.st_contexts.specs.Stack.{Standing}
use Rattle.st_rules.proofs.Writing.{stood_told, used_told}
use Rattle.st_rules.specs.SameRun.{IsTheRun}
use Rattle.st_rules.specs.Compilable.{Compilable}
use Rattle.st_rules.specs.Flat.{FlatBody, flat, greatest_width}
use Rattle.st_rules.specs.Flattened.{Alike}
use Rattle.st_rules.specs.Flattened as flattened
use Rattle.st_rules.specs.Turns.{Top, Ended, open_next, opened_run, top_iter, instructions, MachineRuns}
use Rattle.st_rules.proofs.SameRun.{flat_run_is_the_rules_run}
use Rattle.st_rules.proofs.SomeRun.{rules_end}
use Rattle.st_rules.proofs.SoFar.{flat_so_far}
use Rattle.st_rules.proofs.SoundProgram.{programs_are_compilable}
use Rattle.st_machine.specs.declared.work.Ending.{Ending}
use Rattle.st_machine.specs.declared.work.Ending.TheVariants as ending
use Rattle.st_machine.specs.declared.work.Mode.{Mode}
use Rattle.st_machine.specs.declared.work.Mode.TheVariants as mode
use Rattle.st_machine.specs.Seen.{Plan, Seen}
use Rattle.st_machine.specs.Plans.{limits_of, program_in}
use Rattle.st_machine.specs.Steps.{first_seen, advanced_by, advanced}
use Rattle.st_machine.specs.Meaning.{flat_of, running_by, running, top_by, top_of, state_of, ending_of, behind}
use Rattle.st_machine_laws.specs.Holding.{Holds}
use Rattle.st_machine_laws.specs.Moments.{after, told_by, written_by, runs_by, state_after}
use Rattle.st_machine_laws.specs.WholeRun.{Opened, EndsAsTheRules, IsRun}
use Rattle.st_machine_laws.proofs.Idle.{NotNext, next_goes_on}
use Rattle.st_machine_laws.proofs.Steps.{first}
use Rattle.st_machine_laws.proofs.Moments.{P, B, at, Reached, StepLaw, Follows, Lost, follows, ended_stays, steps_add, after_last, over_stays, IsOver}
use Rattle.st_machine_laws.proofs.Gone.{after_after}

-- ---- a mode that is over

over_or : (m : Mode) → IsOver m ⊎ (IsOver m → ⊥)
over_or (mode.Ended e) = inl tt
over_or mode.Run = inr (λ h. h)
over_or (mode.Settle o) = inr (λ h. h)
over_or (mode.Begin w) = inr (λ h. h)
over_or mode.Next = inr (λ h. h)

pub record Over (m : Mode) : Type 0 where
  pub ending : Ending
  pub is : m ≡ mode.Ended ending

ending_in : (m : Mode) → IsOver m → Over m
ending_in (mode.Ended e) h = record { ending = e; is = refl }
ending_in mode.Run h = absurd h
ending_in (mode.Settle o) h = absurd h
ending_in (mode.Begin w) h = absurd h
ending_in mode.Next h = absurd h

-- only a mode that is over, or the next initializer, stands for the end of a run
over_top : (m : Mode) (s : Seen) (st : State) (e : rules.Ending) (st' : State) → NotNext m → top_by m s st ≡ Ended e st' → IsOver m
over_top (mode.Ended x) s st e st' h is = tt
over_top mode.Run s st e st' h is = absurd cc
over_top (mode.Settle o) s st e st' h is = absurd cc
over_top (mode.Begin w) s st e st' h is = absurd cc
over_top mode.Next s st e st' h is = absurd h

next_or : (m : Mode) → NotNext m ⊎ (m ≡ mode.Next)
next_or (mode.Ended e) = inl tt
next_or mode.Run = inl tt
next_or (mode.Settle o) = inl tt
next_or (mode.Begin w) = inl tt
next_or mode.Next = inr refl

next_advanced : (s : Seen) → s.mode ≡ mode.Next → NotNext (advanced s).mode
next_advanced s is = subst (λ m. NotNext (advanced_by m s).mode) (sym is) (next_goes_on s)

-- ---- what was written at a moment

running_text : (k : Activation) (a : Standing) (acts : List Standing) (st : State) → (mach_state (running_by k a acts st)).transcript ≡ st.transcript
running_text (act.Body f) a acts st = refl
running_text _ a acts st = refl

run_text : (acts : List Standing) (st : State) → (mach_state (running acts st)).transcript ≡ st.transcript
run_text [] st = refl
run_text (a ∷ acts) st = running_text a.kept a acts st

opened_text : (b : Bodies FlatBody) (p : Program) (xs : List Initializer) (st : State) → written (open_next b p xs st) ≡ st.transcript
opened_text b p [] st = refl
opened_text b p (x ∷ xs) st =
    stood_told p (λ text vs. text ≡ st.transcript) [] st _ _ refl refl (λ st1 h1. used_told p (λ text vs. text ≡ st.transcript) (scope_cells (body_at p x.code)) st1 _ _ h1 h1 (λ st2 h2. h2))

written_top : (m : Mode) (s : Seen) (st : State) → written (top_by m s st) ≡ st.transcript
written_top mode.Run s st = run_text s.stack.acts st
written_top (mode.Settle o) s st = refl
written_top (mode.Begin w) s st = refl
written_top mode.Next s st = opened_text (flat_of s) (program_in s.plan) (behind (program_in s.plan) s.initializers) st
written_top (mode.Ended e) s st = refl

-- ---- the flat machine's run

module _ (plan : Plan) where
  compilable : Compilable (P plan)
  compilable = programs_are_compilable (names_in (named_units plan.units)) (named_units plan.units) (limits_of plan.limits)

  same_run : IsTheRun (P plan)
  same_run = flat_run_is_the_rules_run (names_in (named_units plan.units)) (named_units plan.units) (limits_of plan.limits)

  -- it ends
  pub record FlatRun : Type 0 where
    pub ending : rules.Ending
    pub state : State
    pub count : ℕ
    pub runs : MachineRuns (flattened.flat_of (P plan)) (P plan) ending state count

  flat_run : FlatRun
  flat_run =
      let (e, st, r) = rules_end (P plan) in
      let (st', count, m, alike) = same_run.of_the_rules e st r in
      record { ending = e; state = st'; count = count; runs = m }

  -- a machine that makes so many small steps has ended
  pub bound_of : ℕ
  bound_of = suc (flat_run.runs.steps + flat_run.runs.steps + 2)

module _ (plan : Plan) (memory : Memory) (o : Opened plan memory) (law : StepLaw plan) where
  abbrev s0 : Seen
  s0 = first_seen plan memory

  -- ---- the beginning

  state_first : state_of [] [] s0 ≡ first_state (P plan)
  unfolding first_state
  state_first = rw (o.store, o.unused) refl

  top_first : top_of [] [] s0 ≡ opened_run (B plan) (P plan)
  unfolding behind
  top_first = ap (λ st. open_next (B plan) (P plan) (P plan).initializers st) state_first

  same_bodies : flattened.flat_of (P plan) ≡ B plan
  same_bodies = ap (λ codes. flat (P plan) codes (greatest_width codes)) (sym o.ready.compiled)

  reached : Reached plan (top_of [] [] s0)
  reached = record { count = 0; reached = sym top_first }

  at_moment : (n : ℕ) → Follows plan n 0 s0 [] [] ⊎ Lost plan n 0 s0 [] []
  at_moment n = follows plan law n 0 s0 [] [] (omega arith) (first plan memory o.moderate o.ready) reached

  -- ---- the end

  -- the flat machine of the plan ends
  pub record FlatEnds : Type 0 where
    pub steps : ℕ
    pub ending : rules.Ending
    pub state : State
    pub ends : top_iter (B plan) (P plan) steps (opened_run (B plan) (P plan)) ≡ Ended ending state

  flat_ends : FlatEnds
  flat_ends =
      let r : FlatRun plan = flat_run plan in
      record { steps = r.runs.steps; ending = r.ending; state = r.state; ends = ap (λ b. top_iter b (P plan) r.runs.steps (opened_run b (P plan))) (sym same_bodies) ∙ r.runs.leads }

  -- where the flat machine has ended, a machine that hasn't is at the next initializer
  later : (n : ℕ) (f : FlatEnds) (c : Follows plan n 0 s0 [] []) → f.steps ≤ c.count → top_of (written_by n s0) (told_by n s0) (after n s0) ≡ Ended f.ending f.state
  later n f c l =
      let rest : f.steps + (c.count - f.steps) ≡ c.count = omega (arith, l) in
      sym c.leads ∙ ap (λ t. top_iter (B plan) (P plan) c.count t) top_first ∙ ap (λ k. top_iter (B plan) (P plan) k (opened_run (B plan) (P plan))) (sym rest)
      ∙ steps_add (B plan) (P plan) f.steps (c.count - f.steps) (opened_run (B plan) (P plan)) ∙ ap (λ t. top_iter (B plan) (P plan) (c.count - f.steps) t) f.ends ∙ ended_stays (B plan) (P plan) (c.count - f.steps) f.ending f.state

  ends_with : (n : ℕ) (c : Follows plan n 0 s0 [] []) (e : Ending) → (after n s0).mode ≡ mode.Ended e → EndsAsTheRules plan s0 n e
  ends_with n c e is =
      let leads : top_iter (B plan) (P plan) c.count (opened_run (B plan) (P plan)) ≡ Ended (ending_of e) (state_after n s0) =
      ap (λ t. top_iter (B plan) (P plan) c.count t) (sym top_first) ∙ c.leads ∙ ap (λ m. top_by m (after n s0) (state_after n s0)) is in
      let counted : instructions (B plan) (P plan) c.count (opened_run (B plan) (P plan)) ≡ runs_by n s0 = ap (λ t. instructions (B plan) (P plan) c.count t) (sym top_first) ∙ c.counted in
      let runs : MachineRuns (flattened.flat_of (P plan)) (P plan) (ending_of e) (state_after n s0) (runs_by n s0) =
      subst (λ b. MachineRuns b (P plan) (ending_of e) (state_after n s0) (runs_by n s0)) (sym same_bodies) (record { steps = c.count; leads = leads; counted = counted }) in
      let all : 0 + runs_by n s0 ≡ runs_by n s0 = omega arith in
      let (st, r, alike) = (same_run plan).of_the_machine (ending_of e) (state_after n s0) (runs_by n s0) runs in
      record { runs = runs; counted = c.holds.firm.ran ∙ c.ran ∙ ap (λ k. min k (2 ^ 64 - 1)) all; state = st; rules = r; alike = alike }

  ends_at : (n : ℕ) (c : Follows plan n 0 s0 [] []) → IsOver (after n s0).mode → IsRun plan s0
  ends_at n c over =
      let x : Over (after n s0).mode = ending_in (after n s0).mode over in
      record { steps = n; ending = x.ending; ended = x.is; follows = λ no. ends_with n c x.ending x.is }

  lost_at : (n : ℕ) → Lost plan n 0 s0 [] [] → IsRun plan s0
  lost_at n x = record { steps = n; ending = ending.Stranded; ended = x.mode; follows = λ no. absurd (no refl) }

  -- the next step ends it
  one_more : (n : ℕ) (f : FlatEnds) → (IsOver (after n s0).mode → ⊥) → top_of (written_by n s0) (told_by n s0) (after n s0) ≡ Ended f.ending f.state → (after n s0).mode ≡ mode.Next
  one_more n f not top = by (next_or (after n s0).mode)
    where
      by : NotNext (after n s0).mode ⊎ ((after n s0).mode ≡ mode.Next) → (after n s0).mode ≡ mode.Next
      by (inl h) = absurd (not (over_top (after n s0).mode (after n s0) (state_after n s0) f.ending f.state h top))
      by (inr is) = is

  -- a run that ends after so many steps at most
  pub record Within (n : ℕ) : Type 0 where
    pub run : IsRun plan s0
    pub within : run.steps ≤ n

  ended_within : (n m : ℕ) (c : Follows plan n 0 s0 [] []) → n ≤ m → IsOver (after n s0).mode → Within m
  unfolding ends_at
  ended_within n m c l over = record { run = ends_at n c over; within = l }

  lost_within : (n m : ℕ) → n ≤ m → Lost plan n 0 s0 [] [] → Within m
  unfolding lost_at
  lost_within n m l x = record { run = lost_at n x; within = l }

  ends_behind : (n : ℕ) (f : FlatEnds) → f.steps + f.steps + 2 ≤ n → (after n s0).mode ≡ mode.Next → (c : Follows plan (suc n) 0 s0 [] []) → IsOver (after (suc n) s0).mode ⊎ (IsOver (after (suc n) s0).mode → ⊥) → Within (suc n)
  ends_behind n f l is c (inl over) = ended_within (suc n) (suc n) c (omega arith) over
  ends_behind n f l is c (inr not) =
      let more : suc n ≤ c.count + c.count + 1 = c.moving not in
      let enough : f.steps ≤ c.count = omega (arith, l, more) in
      let goes : NotNext (after (suc n) s0).mode = rw (after_last n s0) (next_advanced (after n s0) is) in
      absurd (not (over_top (after (suc n) s0).mode (after (suc n) s0) (state_after (suc n) s0) f.ending f.state goes (later (suc n) f c enough)))

  behind_by : (n : ℕ) (f : FlatEnds) → f.steps + f.steps + 2 ≤ n → (after n s0).mode ≡ mode.Next → Follows plan (suc n) 0 s0 [] [] ⊎ Lost plan (suc n) 0 s0 [] [] → Within (suc n)
  behind_by n f l is (inl c) = ends_behind n f l is c (over_or (after (suc n) s0).mode)
  behind_by n f l is (inr x) = lost_within (suc n) (suc n) (omega arith) x

  ends_by : (n : ℕ) (f : FlatEnds) → f.steps + f.steps + 2 ≤ n → (c : Follows plan n 0 s0 [] []) → IsOver (after n s0).mode ⊎ (IsOver (after n s0).mode → ⊥) → Within (suc n)
  ends_by n f l c (inl over) = ended_within n (suc n) c (omega arith) over
  ends_by n f l c (inr not) =
      let more : n ≤ c.count + c.count + 1 = c.moving not in
      let enough : f.steps ≤ c.count = omega (arith, l, more) in
      behind_by n f l (one_more n f not (later n f c enough)) (at_moment (suc n))

  run_by : (n : ℕ) (f : FlatEnds) → f.steps + f.steps + 2 ≤ n → Follows plan n 0 s0 [] [] ⊎ Lost plan n 0 s0 [] [] → Within (suc n)
  run_by n f l (inl c) = ends_by n f l c (over_or (after n s0).mode)
  run_by n f l (inr x) = lost_within n (suc n) (omega arith) x

  within : Within (bound_of plan)
  unfolding bound_of flat_ends
  within = run_by (flat_ends.steps + flat_ends.steps + 2) flat_ends (omega arith) (at_moment (flat_ends.steps + flat_ends.steps + 2))

  pub is_run : IsRun plan s0
  is_run = within.run

  -- the end is within the bound
  pub over_within : IsOver (after (bound_of plan) s0).mode
  over_within =
      let rest : within.run.steps + (bound_of plan - within.run.steps) ≡ bound_of plan = omega (arith, within.within) in
      let over : IsOver (after within.run.steps s0).mode = subst IsOver (sym within.run.ended) tt in
      subst (λ n. IsOver (after n s0).mode) rest (subst (λ (s : Seen). IsOver s.mode) (after_after within.run.steps (bound_of plan - within.run.steps) s0)
      (subst (λ (s : Seen). IsOver s.mode) (sym (over_stays (bound_of plan - within.run.steps) (after within.run.steps s0).mode (after within.run.steps s0) refl over)) over))

  -- at each moment at which the run has ended
  ends_by_moment : (n : ℕ) (e : Ending) → (after n s0).mode ≡ mode.Ended e → (e ≡ ending.Stranded → ⊥) → Follows plan n 0 s0 [] [] ⊎ Lost plan n 0 s0 [] [] → EndsAsTheRules plan s0 n e
  ends_by_moment n e is other (inl c) = ends_with n c e is
  ends_by_moment n e is other (inr x) =
      let both : mode.Ended e ≡ mode.Ended ending.Stranded = sym is ∙ x.mode in
      let same : e ≡ ending.Stranded = cc in
      absurd (other same)

  pub ends_so : (n : ℕ) (e : Ending) → (after n s0).mode ≡ mode.Ended e → (e ≡ ending.Stranded → ⊥) → EndsAsTheRules plan s0 n e
  ends_so n e is other = ends_by_moment n e is other (at_moment n)

  -- ---- what was written

  so_far_by : (e : rules.Ending) (st : State) → Runs (P plan) e st → (n : ℕ) → Follows plan n 0 s0 [] [] → Begins (written_by n s0) st.transcript
  so_far_by e st r n c =
      let top : top_iter (flattened.flat_of (P plan)) (P plan) c.count (opened_run (flattened.flat_of (P plan)) (P plan)) ≡ top_of (written_by n s0) (told_by n s0) (after n s0) =
      ap (λ b. top_iter b (P plan) c.count (opened_run b (P plan))) same_bodies ∙ ap (λ t. top_iter (B plan) (P plan) c.count t) (sym top_first) ∙ c.leads in
      let text : written (top_iter (flattened.flat_of (P plan)) (P plan) c.count (opened_run (flattened.flat_of (P plan)) (P plan))) ≡ written_by n s0 =
      ap written top ∙ written_top (after n s0).mode (after n s0) (state_after n s0) in
      subst (λ (t : Text). Begins t st.transcript) text (flat_so_far (P plan) (compilable plan) e st r c.count)

  so_far_at : (e : rules.Ending) (st : State) → Runs (P plan) e st → (n : ℕ) → Follows plan n 0 s0 [] [] ⊎ Lost plan n 0 s0 [] [] → Begins (written_by n s0) st.transcript
  so_far_at e st r n (inl c) = so_far_by e st r n c
  so_far_at e st r n (inr x) = subst (λ (t : Text). Begins t st.transcript) (sym x.same) (so_far_by e st r x.before x.goes)

  pub so_far : (e : rules.Ending) (st : State) → Runs (P plan) e st → (n : ℕ) → Begins (written_by n s0) st.transcript
  so_far e st r n = so_far_at e st r n (at_moment n)
