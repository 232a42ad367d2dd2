-- Why a call goes where the flat machine's turns lead, and why so many small steps are enough for it.
use Rattle.std.proofs.Common.{◌≡◌, ℕ, ◌+◌, ◌-◌, ◌^◌, ◌<◌, ◌≤◌, ◌⊎◌, inl, inr, List, [], ◌∷◌, ◌++◌, Option, Bool, true, false, nat_eq, if◌then◌else◌, refl, sym, ◌∙◌, subst, arith}
use Rattle.std.proofs.lemmas.Bool.Decides.{nat_tests}
use Rattle.object_heap.specs.Charges.{Memory}
use Rattle.st_code.specs.Program.{Initializer, Program}
use Rattle.st_code.specs.Texts.{Text}
use Rattle.st_contexts.specs.declared.activation.Activation.{Activation}
use Rattle.st_contexts.specs.declared.activation.Activation.TheVariants as act
use Rattle.st_contexts.specs.Stack.{Standing}
use Rattle.st_rules.specs.Events.{Event}
use Rattle.st_rules.specs.Flat.{FlatBody}
use Rattle.st_rules.specs.Instructions.{most_instructions}
use Rattle.st_rules.specs.Machine.{Bodies}
use Rattle.st_rules.specs.State.{State}
use Rattle.st_rules.specs.Turns.{On, AtRest}
use Rattle.st_machine.specs.declared.work.Mode.{Mode}
use Rattle.st_machine.specs.declared.work.Mode.TheVariants as mode
use Rattle.st_machine.specs.Followed.{CanGoOn, IsBody}
use Rattle.st_machine.specs.Meaning.{behind, running_by, state_of, target_in, top_by, top_of}
use Rattle.st_machine.specs.Plans.{program_in}
use Rattle.st_machine.specs.Running.{goes_on, gone, gone_told, gone_written}
use Rattle.st_machine.specs.Seen.{Plan, Seen}
use Rattle.st_machine.proofs.Follows.{follows}
use Rattle.st_machine_laws.specs.Moments.{after, runs_by, told_by, written_by}
use Rattle.st_machine_laws.specs.WholeRun.{Opened}
use Rattle.st_machine_laws.proofs.Gone.{after_after, over_after, written_after}
use Rattle.st_machine_laws.proofs.Moments.{B, IsOver, P, over_stays}
use Rattle.st_machine_laws.proofs.StepLaw.{step_law}
use Rattle.st_machine_laws.proofs.WholeRun.{bound_of, over_within}
use Rattle.st_steady.specs.Steady.{Steady}
use Rattle.law_turns.specs.AfterTurns.{AfterTurns, AllDone}
use Rattle.law_turns.specs.Calls.{Begins, CameTo, EachBegins, Enough, GoesByTurns, IsDone, SomeStepsAreEnough, WentOn, told_in}
use Rattle.law_turns.proofs.Calls.{Called, called, told_after}
use Rattle.law_turns.proofs.Underway.{counts, onwards, opened_as, s0, same_bodies}

-- ---- where so many turns were done

-- a body runs next
runs_next : (b : Bodies FlatBody) (p : Program) (target : Option ℕ) (xs : List Initializer) (k : Activation) (a : Standing) (acts : List Standing) (st : State)
    → IsBody (record a { kept = k } ∷ acts) → AtRest b p (On target xs (running_by k a acts st))
runs_next b p target xs (act.Body f) a acts st h = tt
runs_next b p target xs _ a acts st h = absurd h

-- the flat machine is at rest
rests_by : (b : Bodies FlatBody) (p : Program) (m : Mode) (s : Seen) (acts : List Standing) (st : State) (turns before now : ℕ) → s.stack.acts ≡ acts → CanGoOn m s → IsDone m turns before now → AtRest b p (top_by m s st)
rests_by b p mode.Run s [] st turns before now is next done = absurd (subst (λ acts. IsBody acts) is next)
rests_by b p mode.Run s (a ∷ acts) st turns before now is next done = rw is (runs_next b p (target_in (program_in s.plan) s.initializers) (behind (program_in s.plan) s.initializers) a.kept a acts st (subst (λ acts. IsBody acts) is next))
rests_by b p (mode.Ended e) s acts st turns before now is next done = tt
rests_by b p (mode.Settle o) s acts st turns before now is next done = absurd done
rests_by b p (mode.Begin w) s acts st turns before now is next done = absurd done
rests_by b p mode.Next s acts st turns before now is next done = absurd done

-- and all turns were done, or the run has ended
all_by : (m : Mode) (s : Seen) (st : State) (turns ran before now : ℕ) → now ≡ before + ran → ran ≤ turns → IsDone m turns before now → AllDone ran turns (top_by m s st)
all_by mode.Run s st turns ran before now is few done = omega (arith, is, few, done)
all_by (mode.Ended e) s st turns ran before now is few done = few
all_by (mode.Settle o) s st turns ran before now is few done = absurd done
all_by (mode.Begin w) s st turns ran before now is few done = absurd done
all_by mode.Next s st turns ran before now is few done = absurd done

none_left : (b : Bool) (left : ℕ) → nat_eq left 0 ≡ b → (if b then false else true) ≡ false → left ≡ 0
none_left true left is ends = grind (arith, nat_tests)
none_left false left is ends = absurd cc

-- a call that stops of itself has done them
stopped_by : (m : Mode) (turns ran before now : ℕ) → now ≡ before + ran → ran ≤ turns → goes_on m (turns - ran) ≡ false → IsDone m turns before now
stopped_by mode.Run turns ran before now is few ends =
    let none : turns - ran ≡ 0 = none_left (nat_eq (turns - ran) 0) (turns - ran) refl ends in
    omega (arith, is, few, none)
stopped_by (mode.Ended e) turns ran before now is few ends = tt
stopped_by (mode.Settle o) turns ran before now is few ends = absurd cc
stopped_by (mode.Begin w) turns ran before now is few ends = absurd cc
stopped_by mode.Next turns ran before now is few ends = absurd cc

over_done : (m : Mode) (turns before now : ℕ) → IsOver m → IsDone m turns before now
over_done (mode.Ended e) turns before now h = tt
over_done mode.Run turns before now h = absurd h
over_done (mode.Settle o) turns before now h = absurd h
over_done (mode.Begin w) turns before now h = absurd h
over_done mode.Next turns before now h = absurd h

module _ (plan : Plan) (memory : Memory) (o : Opened plan memory) (steady : Steady plan) (few : most_instructions (P plan) < 2 ^ 64 - 1) where
  abbrev begin : Seen
  begin = s0 plan memory o steady

  -- ---- from moment to moment

  went_on : (n k turns : ℕ) → runs_by k (after n begin) ≤ turns → IsDone (after k (after n begin)).mode turns (after n begin).instructions (after k (after n begin)).instructions
      → WentOn begin turns (written_by n begin) (told_by n begin) (after n begin) (written_by n begin ++ written_by k (after n begin)) (told_by n begin ++ told_by k (after n begin)) (after k (after n begin))
  went_on n k turns most done =
      let s : Seen = after n begin in
      let s' : Seen = after k s in
      let st : State = state_of (written_by n begin ++ written_by k s) (told_by n begin ++ told_by k s) s' in
      let c = onwards plan memory o steady n k in
      record {
        came = record { steps = n + k; is = after_after n k begin; wrote = sym (written_after n k begin); told = sym (told_after n k begin) };
        after = subst (λ b. AfterTurns b (P plan) turns (top_of (written_by n begin) (told_by n begin) s) (top_by s'.mode s' st)) (sym (same_bodies plan memory o steady)) (record {
          done = runs_by k s;
          turns = record {
            steps = c.count;
            leads = c.leads;
            counted = c.counted;
            rests = rests_by (B plan) (P plan) s'.mode s' s'.stack.acts st turns s.instructions s'.instructions refl c.holds.next done;
          };
          all = all_by s'.mode s' st turns (runs_by k s) s.instructions s'.instructions (counts plan memory o steady few n k) most done;
        });
      }

  -- ---- a call

  goes_from : (n steps turns : ℕ) → IsDone (gone steps turns (after n begin)).mode turns (after n begin).instructions (gone steps turns (after n begin)).instructions
      → WentOn begin turns (written_by n begin) (told_by n begin) (after n begin) (written_by n begin ++ gone_written steps turns (after n begin)) (told_by n begin ++ told_in (gone_told steps turns (after n begin))) (gone steps turns (after n begin))
  goes_from n steps turns done =
      let s : Seen = after n begin in
      let c : Called steps turns s = called steps turns s in
      let there : IsDone (after c.count s).mode turns s.instructions (after c.count s).instructions = subst (λ (t : Seen). IsDone t.mode turns s.instructions t.instructions) c.is done in
      subst (λ (t : Seen). WentOn begin turns (written_by n begin) (told_by n begin) s (written_by n begin ++ gone_written steps turns s) (told_by n begin ++ told_in (gone_told steps turns s)) t) (sym c.is)
      (subst (λ (w : Text). WentOn begin turns (written_by n begin) (told_by n begin) s (written_by n begin ++ w) (told_by n begin ++ told_in (gone_told steps turns s)) (after c.count s)) (sym c.wrote)
      (subst (λ (es : List Event). WentOn begin turns (written_by n begin) (told_by n begin) s (written_by n begin ++ written_by c.count s) (told_by n begin ++ es) (after c.count s)) (sym c.told) (went_on n c.count turns c.few there)))

  goes : (text : Text) (events : List Event) (s : Seen) → CameTo begin text events s → (steps turns : ℕ) → IsDone (gone steps turns s).mode turns s.instructions (gone steps turns s).instructions
      → WentOn begin turns text events s (text ++ gone_written steps turns s) (events ++ told_in (gone_told steps turns s)) (gone steps turns s)
  goes text events s c steps turns done =
      let from : WentOn begin turns (written_by c.steps begin) (told_by c.steps begin) s (written_by c.steps begin ++ gone_written steps turns s) (told_by c.steps begin ++ told_in (gone_told steps turns s)) (gone steps turns s) =
      subst (λ (t : Seen). WentOn begin turns (written_by c.steps begin) (told_by c.steps begin) t (written_by c.steps begin ++ gone_written steps turns t) (told_by c.steps begin ++ told_in (gone_told steps turns t)) (gone steps turns t)) (sym c.is)
      (goes_from c.steps steps turns (subst (λ (t : Seen). IsDone (gone steps turns t).mode turns t.instructions (gone steps turns t).instructions) c.is done)) in
      subst (λ (w : Text). WentOn begin turns w events s (w ++ gone_written steps turns s) (events ++ told_in (gone_told steps turns s)) (gone steps turns s)) (sym c.wrote)
      (subst (λ (es : List Event). WentOn begin turns (written_by c.steps begin) es s (written_by c.steps begin ++ gone_written steps turns s) (es ++ told_in (gone_told steps turns s)) (gone steps turns s)) (sym c.told) from)

  -- ---- enough small steps

  over_from : (n more : ℕ) → IsOver (after (bound_of plan + more) (after n begin)).mode
  over_from n more =
      let there : IsOver (after (bound_of plan) (after n begin)).mode = over_after n (bound_of plan) begin (over_within plan memory o (step_law plan follows)) in
      let on : Seen = after (bound_of plan) (after n begin) in
      subst (λ (t : Seen). IsOver t.mode) (sym (over_stays more on.mode on refl there) ∙ after_after (bound_of plan) more (after n begin)) there

  enough_from : (n turns more : ℕ) → IsDone (gone (bound_of plan + more) turns (after n begin)).mode turns (after n begin).instructions (gone (bound_of plan + more) turns (after n begin)).instructions
  enough_from n turns more =
      let s : Seen = after n begin in
      let c : Called (bound_of plan + more) turns s = called (bound_of plan + more) turns s in
      subst (λ (t : Seen). IsDone t.mode turns s.instructions t.instructions) (sym c.is) (by c.count c.few c.stops)
    where
      by : (k : ℕ) → runs_by k (after n begin) ≤ turns → (goes_on (after k (after n begin)).mode (turns - runs_by k (after n begin)) ≡ false) ⊎ (k ≡ bound_of plan + more) → IsDone (after k (after n begin)).mode turns (after n begin).instructions (after k (after n begin)).instructions
      by k l (inl ends) = stopped_by (after k (after n begin)).mode turns (runs_by k (after n begin)) (after n begin).instructions (after k (after n begin)).instructions (counts plan memory o steady few n k) l ends
      by k l (inr is) = over_done (after k (after n begin)).mode turns (after n begin).instructions (after k (after n begin)).instructions (subst (λ j. IsOver (after j (after n begin)).mode) (sym is) (over_from n more))

  enough : (text : Text) (events : List Event) (s : Seen) → CameTo begin text events s → (turns : ℕ) → Enough turns s
  enough text events s c turns = subst (λ (t : Seen). Enough turns t) (sym c.is) (record { steps = bound_of plan; done = enough_from c.steps turns })

-- ---- the laws

pub goes_by_turns : GoesByTurns
goes_by_turns first f =
    subst
    (λ (x : Seen). (text : Text) (events : List Event) (s : Seen) → CameTo x text events s → (steps turns : ℕ) → IsDone (gone steps turns s).mode turns s.instructions (gone steps turns s).instructions
    → WentOn x turns text events s (text ++ gone_written steps turns s) (events ++ told_in (gone_told steps turns s)) (gone steps turns s)) (sym f.first) (goes first.plan first.memory f.opened f.steady f.few)

pub some_steps_are_enough : SomeStepsAreEnough
some_steps_are_enough first f =
    subst (λ (x : Seen). (text : Text) (events : List Event) (s : Seen) → CameTo x text events s → (turns : ℕ) → Enough turns s) (sym f.first) (enough first.plan first.memory f.opened f.steady f.few)

pub each_begins : EachBegins
each_begins first f =
    subst (λ (x : Seen). Begins x) (sym f.first) (record {
      came = record { steps = 0; is = refl; wrote = refl; told = refl };
      opened = opened_as first.plan first.memory f.opened f.steady;
    })
