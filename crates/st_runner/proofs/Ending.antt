-- A machine that has ended, or whose sink failed, beside the program's run by the rules.
use Rattle.std.proofs.Common.{◌≡◌, ℕ, zero, suc, ◌-◌, ◌^◌, ◌<◌, ◌≤◌, min, [], ◌∷◌, ◌++◌, take, Option, refl, ap, sym, ◌∙◌, subst, arith}
use Rattle.std.specs.Io.KnownBytes.{append_known}
use Rattle.st_base.specs.Streams.{GainsPrefix}
use Rattle.st_code.specs.Program.{Program}
use Rattle.st_code.specs.Texts.{Text}
use Rattle.st_code.specs.Written.{named_units}
use Rattle.program_image.specs.Spelled.{names_in}
use Rattle.st_rules.specs.Compilable.{Compilable}
use Rattle.st_rules.specs.Instructions.{most_instructions}
use Rattle.st_rules.specs.Runs as rules
use Rattle.st_rules.specs.Runs.{Runs}
use Rattle.st_rules.specs.SameRun.{IsTheRun}
use Rattle.st_rules.specs.State.{State}
use Rattle.st_rules.specs.StepLimits.{Begins}
use Rattle.st_rules.proofs.FewInstructions.{few_in_a_run}
use Rattle.st_rules.proofs.SameRun.{flat_run_is_the_rules_run}
use Rattle.st_rules.proofs.SomeRun.{rules_end}
use Rattle.st_rules.proofs.SoundProgram.{programs_are_compilable}
use Rattle.st_machine.specs.declared.work.Ending.{Ending}
use Rattle.st_machine.specs.declared.work.Mode.TheVariants as mode
use Rattle.st_machine.specs.Meaning.{ending_of}
use Rattle.st_machine.specs.Plans.{limits_of, program_in}
use Rattle.st_machine.specs.Seen.{Seen}
use Rattle.st_machine.specs.Steps.{first_seen, advanced}
use Rattle.st_machine.proofs.Follows.{follows}
use Rattle.st_machine_laws.specs.Holding.{Course, Holds, course_of, further}
use Rattle.st_machine_laws.specs.Moments.{after, runs_by, state_after, written_by}
use Rattle.st_machine_laws.specs.WholeRun.{EndsAsTheRules}
use Rattle.st_machine_laws.proofs.StepLaw.{step_law}
use Rattle.st_machine_laws.proofs.Steps.{first, stays}
use Rattle.st_machine_laws.proofs.WholeRun.{so_far}
use Rattle.st_steady.specs.Steady.{EndsSo}
use Rattle.st_runner.specs.Firsts.{IsFirst}
use Rattle.st_runner.specs.RunToEnd.{EndsAs, StopsAs}

-- ---- the plan stays

plan-stays : (n : ℕ) (course : Course) (s : Seen) → Holds course s → (after n s).plan ≡ course.plan
plan-stays zero course s h = h.firm.same
plan-stays (suc n) course s h = plan-stays n (further s.mode course) (advanced s) (stays course s h)

-- ---- prefixes

record IsPrefix (n : ℕ) (t u : Text) : Type 0 where
  pub count : ℕ
  pub is : take n t ≡ take count u

prefix-of : (n : ℕ) (t rest : Text) → IsPrefix n t (t ++ rest)
prefix-of zero t rest = record { count = 0; is = refl }
prefix-of (suc n) [] rest = record { count = 0; is = refl }
prefix-of (suc n) (x ∷ t) rest =
    let p : IsPrefix n t (t ++ rest) = prefix-of n t rest in
    record { count = suc p.count; is = ap (λ (u : Text). x ∷ u) p.is }

begins-prefix : (n : ℕ) (t u : Text) → Begins t u → IsPrefix n t u
begins-prefix n t u b = subst (λ (v : Text). IsPrefix n t v) (sym b.whole) (prefix-of n t b.rest)

-- ---- the end

counted-so : (count ran most : ℕ) → count ≡ min ran (2 ^ 64 - 1) → ran ≤ most → most < 2 ^ 64 - 1 → count ≡ ran
counted-so count ran most is few low = omega (arith, is, few, low)

module _ (s0 : Seen) (f : IsFirst s0) where
  abbrev P : Program
  P = program_in s0.plan

  compilable : Compilable P
  compilable = programs_are_compilable (names_in (named_units s0.plan.units)) (named_units s0.plan.units) (limits_of s0.plan.limits)

  same-run : IsTheRun P
  same-run = flat_run_is_the_rules_run (names_in (named_units s0.plan.units)) (named_units s0.plan.units) (limits_of s0.plan.limits)

  plan-after : (n : ℕ) → (after n s0).plan ≡ s0.plan
  plan-after n =
      subst (λ (s : Seen). (after n s).plan ≡ s0.plan) (sym f.first)
      (plan-stays n (course_of s0.plan) (first_seen s0.plan s0.memory) (first s0.plan s0.memory f.opened.moderate f.opened.ready))

  ends-as : (n : ℕ) (e : Ending) (old new : Option Text) → EndsAsTheRules s0.plan s0 n e → new ≡ append_known old (written_by n s0) → EndsAs P (ending_of e) (after n s0) old new
  ends-as n e old new r wrote =
      let few : runs_by n s0 ≤ most_instructions P = few_in_a_run P compilable (ending_of e) (state_after n s0) (runs_by n s0) r.runs in
      record {
        state = r.state;
        flat = state_after n s0;
        instructions = runs_by n s0;
        by_the_rules = r.rules;
        by_the_machine = r.runs;
        wrote = wrote ∙ ap (λ (st : State). append_known old st.transcript) r.alike;
        program = ap program_in (plan-after n);
        steps = ap (λ (st : State). st.steps) r.alike;
        depth = ap (λ (st : State). st.depth) r.alike;
        cells = ap (λ (st : State). st.cells) r.alike;
        counted = counted-so (after n s0).instructions (runs_by n s0) (most_instructions P) r.counted few f.few;
        objects = ap (λ (st : State). st.store.objects) r.alike;
      }

  -- by the law of steady machines
  pub ended : EndsSo → (n : ℕ) (e : Ending) (old new : Option Text) → (after n s0).mode ≡ mode.Ended e → new ≡ append_known old (written_by n s0) → EndsAs P (ending_of e) (after n s0) old new
  ended law n e old new is wrote =
      let there : (after n (first_seen s0.plan s0.memory)).mode ≡ mode.Ended e = ap (λ (s : Seen). (after n s).mode) (sym f.first) ∙ is in
      ends-as n e old new (subst (λ (s : Seen). EndsAsTheRules s0.plan s n e) (sym f.first) (law s0.plan s0.memory f.opened f.steady n e there)) wrote

  -- ---- a sink that failed

  begins : (n : ℕ) (e : rules.Ending) (st : State) → Runs P e st → Begins (written_by n s0) st.transcript
  begins n e st r =
      subst (λ (s : Seen). Begins (written_by n s) st.transcript) (sym f.first) (so_far s0.plan s0.memory f.opened (step_law s0.plan follows) e st r n)

  part-of : (n : ℕ) (e : rules.Ending) (st : State) (old new : Option Text) → Runs P e st → GainsPrefix old new (written_by n s0) → GainsPrefix old new st.transcript
  part-of n e st old new r part =
      let p : IsPrefix part.0 (written_by n s0) st.transcript = begins-prefix part.0 (written_by n s0) st.transcript (begins n e st r) in
      (p.count, part.1 ∙ ap (λ (t : Text). append_known old t) p.is)

  pub stopped : (n : ℕ) (old new : Option Text) → GainsPrefix old new (written_by n s0) → StopsAs P old new
  stopped n old new part =
      let (e, st, r) = rules_end P in
      let (st', count, m, alike) = same-run.of_the_rules e st r in
      record { ending = e; state = st; flat = st'; instructions = count; by_the_rules = r; by_the_machine = m; part = part-of n e st old new r part }
