-- A call that runs a machine makes some small steps, and what is left of its run falls.
use Rattle.std.proofs.Common.{◌≡◌, ℕ, zero, suc, ◌+◌, ◌-◌, ◌<◌, ◌≤◌, List, [], ◌++◌, Bool, true, false, nat_eq, if◌then◌else◌, refl, ap, sym, ◌∙◌, subst, arith}
use Rattle.std.proofs.lemmas.Bool.Decides.{nat_tests}
use Rattle.std.proofs.lemmas.List.{append_assoc}
use Rattle.st_code.specs.Texts.{Text}
use Rattle.st_machine.specs.declared.work.Mode.{Mode}
use Rattle.st_machine.specs.declared.work.Mode.TheVariants as mode
use Rattle.st_machine.specs.Seen.{Seen}
use Rattle.st_machine.specs.Steps.{advanced_by, advanced, advance_written}
use Rattle.st_machine.specs.Running.{goes_on, left_after, gone, gone_written}
use Rattle.st_machine_laws.specs.Moments.{after, written_by}
use Rattle.st_machine_laws.proofs.Moments.{IsOver, after_last, over_stays}

-- ---- a call

pub record Gone (steps left : ℕ) (s : Seen) : Type 0 where
  pub count : ℕ
  pub is : gone steps left s ≡ after count s
  pub writes : gone_written steps left s ≡ written_by count s
  pub some : (IsOver s.mode → ⊥) → 0 < steps → 0 < left → 0 < count

some_left : (left : ℕ) → 0 < left → (if nat_eq left 0 then false else true) ≡ true
some_left left l = let is : nat_eq left 0 ≡ false = grind (arith, nat_tests) in rw is refl

goes : (m : Mode) (left : ℕ) → (IsOver m → ⊥) → 0 < left → goes_on m left ≡ true
goes mode.Run left on l = some_left left l
goes (mode.Settle o) left on l = refl
goes (mode.Begin w) left on l = refl
goes mode.Next left on l = refl
goes (mode.Ended e) left on l = absurd (on tt)

mixed : {A : Type 0} (b : Bool) → b ≡ false → b ≡ true → A
mixed true e e' = absurd cc
mixed false e e' = absurd cc

gone_by : (b : Bool) (steps left : ℕ) (s : Seen) → goes_on s.mode left ≡ b → Gone steps (left_after s.mode left) (advanced s) → Gone (suc steps) left s
unfolding gone gone_written
gone_by true steps left s e g =
    record {
      count = suc g.count;
      is = rw e g.is;
      writes = rw e (ap (λ t. advance_written s ++ t) g.writes);
      some = λ on some l. omega arith;
    }
gone_by false steps left s e g =
    record {
      count = 0;
      is = rw e refl;
      writes = rw e refl;
      some = λ on some l. mixed (goes_on s.mode left) e (goes s.mode left on l);
    }

pub gone_so : (steps left : ℕ) (s : Seen) → Gone steps left s
unfolding gone gone_written
gone_so zero left s = record { count = 0; is = refl; writes = refl; some = λ on none l. let clash : ⊥ = omega (arith, none) in absurd clash }
gone_so (suc steps) left s = gone_by (goes_on s.mode left) steps left s refl (gone_so steps (left_after s.mode left) (advanced s))

-- ---- moments that follow one another

pub after_after : (j k : ℕ) (s : Seen) → after k (after j s) ≡ after (j + k) s
after_after zero k s =
    let same : 0 + k ≡ k = omega arith in
    ap (λ n. after n s) (sym same)
after_after (suc j) k s =
    let same : suc j + k ≡ suc (j + k) = omega arith in
    after_after j k (advanced s) ∙ ap (λ n. after n s) (sym same)

pub written_after : (j k : ℕ) (s : Seen) → written_by (j + k) s ≡ written_by j s ++ written_by k (after j s)
written_after zero k s =
    let same : 0 + k ≡ k = omega arith in
    ap (λ n. written_by n s) same
written_after (suc j) k s =
    let same : suc j + k ≡ suc (j + k) = omega arith in
    ap (λ n. written_by n s) same ∙ ap (λ t. advance_written s ++ t) (written_after j k (advanced s)) ∙ sym (append_assoc (advance_written s) (written_by j (advanced s)) (written_by k (after j (advanced s))))

-- ---- how many small steps are left, of so many

abbrev is_over : Mode → Bool
is_over (mode.Ended e) = true
is_over _ = false

abbrev pub left_in : ℕ → Seen → ℕ
left_in zero s = 0
left_in (suc n) s = if is_over s.mode then 0 else suc (left_in n (advanced s))

over_is : (m : Mode) → IsOver m → is_over m ≡ true
over_is (mode.Ended e) h = refl
over_is mode.Run h = absurd h
over_is (mode.Settle o) h = absurd h
over_is (mode.Begin w) h = absurd h
over_is mode.Next h = absurd h

is_over_so : (m : Mode) → is_over m ≡ true → IsOver m
is_over_so (mode.Ended e) h = tt
is_over_so mode.Run h = absurd cc
is_over_so (mode.Settle o) h = absurd cc
is_over_so (mode.Begin w) h = absurd cc
is_over_so mode.Next h = absurd cc

-- one more in the bound changes nothing behind the end
stable_by : (b : Bool) (n : ℕ) (s : Seen) → is_over s.mode ≡ b → left_in n (advanced s) ≡ left_in (suc n) (advanced s) → left_in (suc n) s ≡ left_in (suc (suc n)) s
stable_by true n s e ih = rw e refl
stable_by false n s e ih = rw e (ap suc ih)

stable : (n : ℕ) (s : Seen) → IsOver (after n s).mode → left_in n s ≡ left_in (suc n) s
stable zero s over = rw (over_is s.mode over) refl
stable (suc n) s over = stable_by (is_over s.mode) n s refl (stable n (advanced s) over)

over_further : (m : Mode) (s : Seen) → s.mode ≡ m → IsOver m → IsOver (advanced s).mode
over_further (mode.Ended e) s is over = subst (λ m. IsOver (advanced_by m s).mode) (sym is) (subst IsOver (sym is) tt)
over_further mode.Run s is over = absurd over
over_further (mode.Settle o) s is over = absurd over
over_further (mode.Begin w) s is over = absurd over
over_further mode.Next s is over = absurd over

over_next : (n : ℕ) (s : Seen) → IsOver (after n s).mode → IsOver (after n (advanced s)).mode
over_next n s over = rw (after_last n s) (over_further (after n s).mode (after n s) refl over)

falls_by : (b : Bool) (n : ℕ) (s : Seen) → is_over s.mode ≡ b → (IsOver s.mode → ⊥) → left_in n (advanced s) ≡ left_in (suc n) (advanced s) → left_in (suc n) s ≡ suc (left_in (suc n) (advanced s))
falls_by true n s e on ih = absurd (on (is_over_so s.mode e))
falls_by false n s e on ih = rw e (ap suc ih)

falls : (n : ℕ) (s : Seen) → (IsOver s.mode → ⊥) → IsOver (after n s).mode → left_in n s ≡ suc (left_in n (advanced s))
falls zero s on over = absurd (on over)
falls (suc n) s on over = falls_by (is_over s.mode) n s refl on (stable n (advanced s) over)

later_by : (b : Bool) (n : ℕ) (s : Seen) → is_over s.mode ≡ b → IsOver (after n s).mode → left_in n (advanced s) ≤ left_in n s
later_by true n s e over =
    let same : advanced s ≡ s = over_stays 1 s.mode s refl (is_over_so s.mode e) in
    let equal : left_in n (advanced s) ≡ left_in n s = ap (λ s. left_in n s) same in
    omega (arith, equal)
later_by false n s e over =
    let one : left_in n s ≡ suc (left_in n (advanced s)) = falls n s (λ h. mixed (is_over s.mode) e (over_is s.mode h)) over in
    omega (arith, one)

later : (j n : ℕ) (s : Seen) → IsOver (after n s).mode → left_in n (after j s) ≤ left_in n s
later zero n s over = omega arith
later (suc j) n s over =
    let a : left_in n (after j (advanced s)) ≤ left_in n (advanced s) = later j n (advanced s) (over_next n s over) in
    let b : left_in n (advanced s) ≤ left_in n s = later_by (is_over s.mode) n s refl over in
    omega (arith, a, b)

pub left_falls : (j n : ℕ) (s : Seen) → 0 < j → (IsOver s.mode → ⊥) → IsOver (after n s).mode → left_in n (after j s) < left_in n s
left_falls zero n s some on over = let clash : ⊥ = omega (arith, some) in absurd clash
left_falls (suc j) n s some on over =
    let a : left_in n (after j (advanced s)) ≤ left_in n (advanced s) = later j n (advanced s) (over_next n s over) in
    let b : left_in n s ≡ suc (left_in n (advanced s)) = falls n s on over in
    omega (arith, a, b)

-- the end stays within reach
pub over_after : (j n : ℕ) (s : Seen) → IsOver (after n s).mode → IsOver (after n (after j s)).mode
over_after zero n s over = over
over_after (suc j) n s over = over_after j n (advanced s) (over_next n s over)
