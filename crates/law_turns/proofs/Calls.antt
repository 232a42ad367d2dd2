-- A call of `go` makes some small steps, no more than so many of them instructions, and stops where it has to or where it is cut off.
use Rattle.std.proofs.Common.{◌≡◌, ℕ, zero, suc, ◌+◌, ◌-◌, ◌≤◌, ◌⊎◌, inl, inr, List, ◌∷◌, ◌++◌, Bool, true, false, nat_eq, if◌then◌else◌, refl, ap, sym, ◌∙◌, arith}
use Rattle.std.proofs.lemmas.Bool.Decides.{nat_tests}
use Rattle.std.proofs.lemmas.List.{append_assoc}
use Rattle.st_rules.specs.Events.{Event}
use Rattle.st_contexts.specs.declared.watch.Event as watch
use Rattle.st_machine.specs.declared.work.Mode.{Mode}
use Rattle.st_machine.specs.declared.work.Mode.TheVariants as mode
use Rattle.st_machine.specs.declared.work.Told.{Told}
use Rattle.st_machine.specs.declared.work.Told.TheVariants as told
use Rattle.st_machine.specs.Followed.{runs_in}
use Rattle.st_machine.specs.Meaning.{event_of, events_of}
use Rattle.st_machine.specs.Running.{goes_on, gone, gone_told, gone_written, left_after, listed}
use Rattle.st_machine.specs.Seen.{Seen}
use Rattle.st_machine.specs.Steps.{advanced, advance_told, advance_written}
use Rattle.st_machine_laws.specs.Moments.{after, runs_by, told_by, written_by}
use Rattle.law_turns.specs.Calls.{told_in}

pub record Called (steps left : ℕ) (s : Seen) : Type 0 where
  pub count : ℕ
  pub is : gone steps left s ≡ after count s
  pub wrote : gone_written steps left s ≡ written_by count s
  pub told : told_in (gone_told steps left s) ≡ told_by count s
  pub few : runs_by count s ≤ left
  pub stops : (goes_on (after count s).mode (left - runs_by count s) ≡ false) ⊎ (count ≡ steps)

told_one : (t : Told) (events : List watch.Event) (more : List Event) → told_in events ≡ more → told_in (listed t ++ events) ≡ events_of t ++ more
told_one told.Nothing events more is = is
told_one (told.One e) events more is = ap (λ (es : List Event). event_of e ∷ es) is
told_one (told.Two d e) events more is = ap (λ (es : List Event). event_of d ∷ event_of e ∷ es) is

fewer : (m : Mode) (left n : ℕ) → goes_on m left ≡ true → n ≤ left_after m left → runs_in m + n ≤ left
fewer mode.Run left n on l =
    let some : nat_eq left 0 ≡ true → ⊥ = λ none. (let clash : true ≡ false = sym on ∙ ap (λ b. if b then false else true) none in absurd cc) in
    grind (arith, nat_tests)
fewer (mode.Settle o) left n on l = omega (arith, l)
fewer (mode.Begin w) left n on l = omega (arith, l)
fewer mode.Next left n on l = omega (arith, l)
fewer (mode.Ended e) left n on l = absurd cc

same_left : (m : Mode) (left n : ℕ) → left_after m left - n ≡ left - (runs_in m + n)
same_left mode.Run left n = omega arith
same_left (mode.Settle o) left n = omega arith
same_left (mode.Begin w) left n = omega arith
same_left mode.Next left n = omega arith
same_left (mode.Ended e) left n = omega arith

called_by : (b : Bool) (steps left : ℕ) (s : Seen) → goes_on s.mode left ≡ b → Called steps (left_after s.mode left) (advanced s) → Called (suc steps) left s
unfolding gone gone_told gone_written
called_by false steps left s e c =
    record {
      count = 0;
      is = rw e refl;
      wrote = rw e refl;
      told = rw e refl;
      few = omega arith;
      stops = inl (let same : left - 0 ≡ left = omega arith in ap (λ n. goes_on s.mode n) same ∙ e);
    }
called_by true steps left s e c =
    record {
      count = suc c.count;
      is = rw e c.is;
      wrote = rw e (ap (λ t. advance_written s ++ t) c.wrote);
      told = rw e (told_one (advance_told s) (gone_told steps (left_after s.mode left) (advanced s)) (told_by c.count (advanced s)) c.told);
      few = fewer s.mode left (runs_by c.count (advanced s)) e c.few;
      stops = stops c.stops;
    }
  where
    stops : (goes_on (after c.count (advanced s)).mode (left_after s.mode left - runs_by c.count (advanced s)) ≡ false) ⊎ (c.count ≡ steps)
        → (goes_on (after (suc c.count) s).mode (left - runs_by (suc c.count) s) ≡ false) ⊎ (suc c.count ≡ suc steps)
    stops (inl is) = inl (ap (λ n. goes_on (after c.count (advanced s)).mode n) (sym (same_left s.mode left (runs_by c.count (advanced s)))) ∙ is)
    stops (inr is) = inr (ap suc is)

pub called : (steps left : ℕ) (s : Seen) → Called steps left s
unfolding gone gone_told gone_written
called zero left s = record { count = 0; is = refl; wrote = refl; told = refl; few = omega arith; stops = inr refl }
called (suc steps) left s = called_by (goes_on s.mode left) steps left s refl (called steps (left_after s.mode left) (advanced s))

-- ---- small steps in a row

pub runs_after : (j k : ℕ) (s : Seen) → runs_by (j + k) s ≡ runs_by j s + runs_by k (after j s)
runs_after zero k s =
    let same : 0 + k ≡ k = omega arith in
    let none : runs_by k s ≡ 0 + runs_by k s = omega arith in
    ap (λ n. runs_by n s) same ∙ none
runs_after (suc j) k s =
    let same : suc j + k ≡ suc (j + k) = omega arith in
    let rest : runs_by (j + k) (advanced s) ≡ runs_by j (advanced s) + runs_by k (after j (advanced s)) = runs_after j k (advanced s) in
    let all : runs_in s.mode + runs_by (j + k) (advanced s) ≡ (runs_in s.mode + runs_by j (advanced s)) + runs_by k (after j (advanced s)) = omega (arith, rest) in
    ap (λ n. runs_by n s) same ∙ all

pub told_after : (j k : ℕ) (s : Seen) → told_by (j + k) s ≡ told_by j s ++ told_by k (after j s)
told_after zero k s =
    let same : 0 + k ≡ k = omega arith in
    ap (λ n. told_by n s) same
told_after (suc j) k s =
    let same : suc j + k ≡ suc (j + k) = omega arith in
    ap (λ n. told_by n s) same ∙ ap (λ t. events_of (advance_told s) ++ t) (told_after j k (advanced s)) ∙ sym (append_assoc (events_of (advance_told s)) (told_by j (advanced s)) (told_by k (after j (advanced s))))
