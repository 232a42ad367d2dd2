-- A machine at the moments of its run: what it stands for is what the flat machine's steps lead to, and its count of instructions is exact.
use Rattle.std.proofs.Common.{◌≡◌, ℕ, ◌+◌, ◌-◌, ◌^◌, ◌<◌, ◌≤◌, ◌⊎◌, min, inl, inr, [], refl, ap, sym, ◌∙◌, subst, arith}
use Rattle.object_heap.specs.Charges.{Memory}
use Rattle.program_image.specs.Spelled.{names_in}
use Rattle.st_code.specs.Written.{named_units}
use Rattle.st_rules.specs.Compilable.{Compilable}
use Rattle.st_rules.specs.Flat.{flat, greatest_width}
use Rattle.st_rules.specs.Flattened as flattened
use Rattle.st_rules.specs.Instructions.{most_instructions}
use Rattle.st_rules.specs.Runs.{first_state}
use Rattle.st_rules.specs.Turns.{open_next, opened_run, top_iter, instructions}
use Rattle.st_rules.proofs.FewInstructions.{few_instructions}
use Rattle.st_rules.proofs.SoundProgram.{programs_are_compilable}
use Rattle.st_machine.specs.Meaning.{behind, state_of, top_of}
use Rattle.st_machine.specs.Plans.{limits_of}
use Rattle.st_machine.specs.Seen.{Plan, Seen}
use Rattle.st_machine.specs.Steps.{first_seen}
use Rattle.st_machine.proofs.Follows as flat_law
use Rattle.st_machine_laws.specs.Moments.{after, runs_by, told_by, written_by}
use Rattle.st_machine_laws.specs.WholeRun.{Opened}
use Rattle.st_machine_laws.proofs.Gone.{after_after}
use Rattle.st_machine_laws.proofs.Moments.{P, B, Follows, Lost, Reached, StepLaw, follows}
use Rattle.st_machine_laws.proofs.StepLaw.{step_law}
use Rattle.st_machine_laws.proofs.Steps.{first}
use Rattle.st_steady.specs.Steady.{Steady}
use Rattle.st_steady.proofs.Laws.{never_strands_so}
use Rattle.law_turns.proofs.Calls.{runs_after}

exact_by : (count begun ran most : ℕ) → count ≡ begun → begun ≡ min (0 + ran) (2 ^ 64 - 1) → ran ≤ most → most < 2 ^ 64 - 1 → count ≡ ran
exact_by count begun ran most is min_is few low = omega (arith, is, min_is, few, low)

within : (begun ran : ℕ) → begun ≡ min (0 + ran) (2 ^ 64 - 1) → begun ≤ 2 ^ 64 - 1
within begun ran is = omega (arith, is)

module _ (plan : Plan) (memory : Memory) (o : Opened plan memory) (steady : Steady plan) where
  abbrev pub s0 : Seen
  s0 = first_seen plan memory

  law : StepLaw plan
  law = step_law plan flat_law.follows

  -- ---- the beginning

  state_first : state_of [] [] s0 ≡ first_state (P plan)
  unfolding first_state
  state_first = rw (o.store, o.unused) refl

  top_first : top_of [] [] s0 ≡ opened_run (B plan) (P plan)
  unfolding behind
  top_first = ap (λ st. open_next (B plan) (P plan) (P plan).initializers st) state_first

  pub same_bodies : flattened.flat_of (P plan) ≡ B plan
  same_bodies = ap (λ codes. flat (P plan) codes (greatest_width codes)) (sym o.ready.compiled)

  pub opened_as : top_of [] [] s0 ≡ opened_run (flattened.flat_of (P plan)) (P plan)
  opened_as = top_first ∙ ap (λ b. opened_run b (P plan)) (sym same_bodies)

  -- ---- each moment

  pub at_moment : (n : ℕ) → Follows plan n 0 s0 [] []
  at_moment n = by (follows plan law n 0 s0 [] [] (omega arith) (first plan memory o.moderate o.ready) (record { count = 0; reached = sym top_first }))
    where
      by : Follows plan n 0 s0 [] [] ⊎ Lost plan n 0 s0 [] [] → Follows plan n 0 s0 [] []
      by (inl c) = c
      by (inr x) = absurd (never_strands_so plan memory o steady n x.mode)

  reached_at : (n : ℕ) → Reached plan (top_of (written_by n s0) (told_by n s0) (after n s0))
  reached_at n =
      let c : Follows plan n 0 s0 [] [] = at_moment n in
      record { count = c.count; reached = ap (λ t. top_iter (B plan) (P plan) c.count t) (sym top_first) ∙ c.leads }

  -- and from there on
  pub onwards : (n k : ℕ) → Follows plan k (at_moment n).begun (after n s0) (written_by n s0) (told_by n s0)
  onwards n k = by (follows plan law k (at_moment n).begun (after n s0) (written_by n s0) (told_by n s0) (within (at_moment n).begun (runs_by n s0) (at_moment n).ran) (at_moment n).holds (reached_at n))
    where
      by : Follows plan k (at_moment n).begun (after n s0) (written_by n s0) (told_by n s0) ⊎ Lost plan k (at_moment n).begun (after n s0) (written_by n s0) (told_by n s0)
          → Follows plan k (at_moment n).begun (after n s0) (written_by n s0) (told_by n s0)
      by (inl c) = c
      by (inr x) = absurd (never_strands_so plan memory o steady (n + k) (ap (λ (s : Seen). s.mode) (sym (after_after n k s0)) ∙ x.mode))

  -- ---- the count of instructions

  compilable : Compilable (P plan)
  compilable = programs_are_compilable (names_in (named_units plan.units)) (named_units plan.units) (limits_of plan.limits)

  module _ (few : most_instructions (P plan) < 2 ^ 64 - 1) where
    ran_few : (n : ℕ) → runs_by n s0 ≤ most_instructions (P plan)
    ran_few n =
        let c : Follows plan n 0 s0 [] [] = at_moment n in
        let counted : instructions (flattened.flat_of (P plan)) (P plan) c.count (opened_run (flattened.flat_of (P plan)) (P plan)) ≡ runs_by n s0 =
        ap (λ b. instructions b (P plan) c.count (opened_run b (P plan))) same_bodies ∙ ap (λ t. instructions (B plan) (P plan) c.count t) (sym top_first) ∙ c.counted in
        subst (λ k. k ≤ most_instructions (P plan)) counted (few_instructions (P plan) compilable c.count)

    exact : (n : ℕ) → (after n s0).instructions ≡ runs_by n s0
    exact n =
        let c : Follows plan n 0 s0 [] [] = at_moment n in
        exact_by (after n s0).instructions c.begun (runs_by n s0) (most_instructions (P plan)) c.holds.firm.ran c.ran (ran_few n) few

    pub counts : (n k : ℕ) → (after k (after n s0)).instructions ≡ (after n s0).instructions + runs_by k (after n s0)
    counts n k =
        ap (λ (s : Seen). s.instructions) (after_after n k s0) ∙ exact (n + k) ∙ runs_after n k s0 ∙ ap (λ i. i + runs_by k (after n s0)) (sym (exact n))
