-- A machine between two calls that run it on: what it has done, and that less is left after each.
use Rattle.std.proofs.Common.{◌≡◌, ℕ, suc, ◌+◌, ◌-◌, ◌^◌, ◌<◌, [], ◌∷◌, ◌++◌, take, length, Option, Some, None, refl, ap, sym, ◌∙◌, subst, arith}
use Rattle.std.proofs.lemmas.List.{append-nil, append_assoc}
use Rattle.std.specs.Io.KnownBytes.{append_known}
use Rattle.st_base.specs.Streams.{GainsPrefix, Rose}
use Rattle.st_code.specs.Texts.{Text}
use Rattle.st_machine.specs.declared.work.Ending.{Ending}
use Rattle.st_machine.specs.declared.work.Mode.{Mode}
use Rattle.st_machine.specs.declared.work.Mode.TheVariants as mode
use Rattle.st_machine.specs.declared.running.Progress.TheVariants as progress
use Rattle.st_machine.specs.Meaning.{ending_of}
use Rattle.st_machine.specs.Plans.{program_in}
use Rattle.st_machine.specs.Seen.{Seen}
use Rattle.st_machine.specs.Running.{gone, gone_written, progress_of}
use Rattle.st_machine.proofs.Follows.{follows}
use Rattle.st_machine_laws.specs.Moments.{after, written_by}
use Rattle.st_machine_laws.proofs.Moments.{IsOver}
use Rattle.st_machine_laws.proofs.Gone.{Gone, gone_so, after_after, written_after, left_in, left_falls, over_after}
use Rattle.st_machine_laws.proofs.StepLaw.{step_law}
use Rattle.st_machine_laws.proofs.WholeRun.{bound_of, over_within}
use Rattle.st_steady.specs.Steady.{EndsSo}
use Rattle.st_runner.specs.Firsts.{IsFirst}
use Rattle.st_runner.specs.RunToEnd.{EndsAs, StopsAs}
use Rattle.st_runner.proofs.Ending.{ended, stopped}

-- ---- bytes

known_none : (b : Option Text) → append_known b [] ≡ b
known_none None = refl
known_none (Some t) = ap (λ u. Some u) (append-nil t)

known_more : (b : Option Text) (t u : Text) → append_known (append_known b t) u ≡ append_known b (t ++ u)
known_more None t u = refl
known_more (Some x) t u = ap (λ v. Some v) (append_assoc x t u)

take_behind : (t u : Text) (n : ℕ) → t ++ take n u ≡ take (length t + n) (t ++ u)
take_behind [] u n =
    let same : 0 + n ≡ n = omega arith in
    ap (λ k. take k u) (sym same)
take_behind (x ∷ t) u n =
    let same : suc (length t) + n ≡ suc (length t + n) = omega arith in
    ap (λ v. x ∷ v) (take_behind t u n) ∙ ap (λ k. take k (x ∷ t ++ u)) (sym same)

-- ---- between two calls

pub record Going (s0 s : Seen) (before now : Option Text) (faults faults' : ℕ) : Type 0 where
  pub count : ℕ
  pub is : s ≡ after count s0
  pub wrote : now ≡ append_known before (written_by count s0)
  pub sound : faults' ≡ faults
  pub on : IsOver s.mode → ⊥

pub begins : (s : Seen) (b : Option Text) (n : ℕ) → IsFirst s → Going s s b b n n
begins s b n first =
    record {
      count = 0;
      is = refl;
      wrote = sym (known_none b);
      sound = refl;
      on = λ over. subst (λ (t : Seen). IsOver t.mode) first.first over;
    }

-- the greatest count that a call takes
abbrev most : ℕ
most = 2 ^ 64 - 1

running_is : (m : Mode) → progress.Running ≡ progress_of m → IsOver m → ⊥
running_is (mode.Ended e) is over = absurd cc
running_is mode.Run is over = over
running_is (mode.Settle o) is over = over
running_is (mode.Begin w) is over = over
running_is mode.Next is over = over

pub ended_is : (m : Mode) (e : Ending) → progress.Ended e ≡ progress_of m → m ≡ mode.Ended e
ended_is (mode.Ended x) e is =
    let same : e ≡ x = cc in
    ap (λ y. mode.Ended y) (sym same)
ended_is mode.Run e is = absurd cc
ended_is (mode.Settle o) e is = absurd cc
ended_is (mode.Begin w) e is = absurd cc
ended_is mode.Next e is = absurd cc

module _ (s0 s : Seen) (before now : Option Text) (faults faults' : ℕ) (first : IsFirst s0) (g : Going s0 s before now faults faults') where
  call : Gone most most s
  call = gone_so most most s

  -- what a call makes of it
  moved : gone most most s ≡ after (g.count + call.count) s0
  moved = call.is ∙ ap (λ t. after call.count t) g.is ∙ after_after g.count call.count s0

  texts : written_by g.count s0 ++ gone_written most most s ≡ written_by (g.count + call.count) s0
  texts = ap (λ t. written_by g.count s0 ++ t) (call.writes ∙ ap (λ t. written_by call.count t) g.is) ∙ sym (written_after g.count call.count s0)

  written : (now' : Option Text) → now' ≡ append_known now (gone_written most most s) → now' ≡ append_known before (written_by (g.count + call.count) s0)
  written now' is = is ∙ ap (λ b. append_known b (gone_written most most s)) g.wrote ∙ known_more before (written_by g.count s0) (gone_written most most s) ∙ ap (λ t. append_known before t) texts

  pub goes_on : (s' : Seen) (now' : Option Text) (faults'' : ℕ) → s' ≡ gone most most s → progress.Running ≡ progress_of s'.mode → now' ≡ append_known now (gone_written most most s) → faults'' ≡ faults' → Going s0 s' before now' faults faults''
  goes_on s' now' faults'' is running wrote sound =
      record { count = g.count + call.count; is = is ∙ moved; wrote = written now' wrote; sound = sound ∙ g.sound; on = running_is s'.mode running }

  -- less is left
  over : IsOver (after (bound_of s0.plan) s0).mode
  over = subst (λ (t : Seen). IsOver (after (bound_of s0.plan) t).mode) (sym first.first) (over_within s0.plan s0.memory first.opened (step_law s0.plan follows))

  pub falls : (s' : Seen) → s' ≡ gone most most s → left_in (bound_of s0.plan) s' < left_in (bound_of s0.plan) s
  falls s' is =
      let some : 0 < call.count = call.some g.on (omega arith) (omega arith) in
      let still : IsOver (after (bound_of s0.plan) s).mode = subst (λ (t : Seen). IsOver (after (bound_of s0.plan) t).mode) (sym g.is) (over_after g.count (bound_of s0.plan) s0 over) in
      let less : left_in (bound_of s0.plan) (after call.count s) < left_in (bound_of s0.plan) s = left_falls call.count (bound_of s0.plan) s some g.on still in
      subst (λ t. left_in (bound_of s0.plan) t < left_in (bound_of s0.plan) s) (sym (is ∙ call.is)) less

  -- the run is over
  pub ends_as : EndsSo → (s' : Seen) (e : Ending) (now' : Option Text) → s' ≡ gone most most s → progress.Ended e ≡ progress_of s'.mode → now' ≡ append_known now (gone_written most most s) → EndsAs (program_in s0.plan) (ending_of e) s' before now'
  ends_as law s' e now' is finished wrote =
      let here : s' ≡ after (g.count + call.count) s0 = is ∙ moved in
      let last : (after (g.count + call.count) s0).mode ≡ mode.Ended e = ap (λ (t : Seen). t.mode) (sym here) ∙ ended_is s'.mode e finished in
      subst (λ (t : Seen). EndsAs (program_in s0.plan) (ending_of e) t before now') (sym here) (ended s0 first law (g.count + call.count) e before now' last (written now' wrote))

  -- the sink failed
  part_of : (now' : Option Text) → GainsPrefix now now' (gone_written most most s) → GainsPrefix before now' (written_by (g.count + call.count) s0)
  part_of now' part = (
    length (written_by g.count s0) + part.0,
    part.1 ∙ ap (λ b. append_known b (take part.0 (gone_written most most s))) g.wrote ∙ known_more before (written_by g.count s0) (take part.0 (gone_written most most s))
        ∙ ap (λ t. append_known before t) (take_behind (written_by g.count s0) (gone_written most most s) part.0 ∙ ap (λ t. take (length (written_by g.count s0) + part.0) t) texts),
  )

  pub stops_as : (now' : Option Text) → GainsPrefix now now' (gone_written most most s) → StopsAs (program_in s0.plan) before now'
  stops_as now' part = stopped s0 first (g.count + call.count) before now' (part_of now' part)

  pub kept_of : (faults'' : ℕ) → faults'' ≡ faults' → faults'' ≡ faults
  kept_of faults'' kept = kept ∙ g.sound

  pub cause_of : (faults'' : ℕ) → Rose faults' faults'' → Rose faults faults''
  cause_of faults'' cause = subst (λ n. Rose n faults'') g.sound cause
