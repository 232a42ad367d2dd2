-- The number at an index of an Interval is no further than its stop, without a division.
use Rattle.std.proofs.Common.{◌≡◌, ℕ, zero, suc, ◌+◌, ◌-◌, ◌*◌, ◌/◌, ◌<◌, ◌≤◌, Bool, true, false, if◌then◌else◌, refl, ap, sym, ◌∙◌, arith, nat_eq, nat_le}
use Rattle.std.specs.Prelude.{ℤ, pos, negsuc, ◌+ℤ◌, ◌-ℤ◌, ◌*ℤ◌, ◌≤ℤ◌, int_lt}
use Rattle.std.proofs.lemmas.Int.{ints}
use Rattle.std.proofs.lemmas.Nat.{le-div}
use Rattle.std.proofs.lemmas.Bool.Decides.{nat_tests}
use Rattle.std.proofs.Math.Nat.{div-mul-le_self, mul-le-mul_right}
use Rattle.std.proofs.Math.IntN.{neg_ℤ}
use Rattle.object_heap.specs.declared.value.Value.TheVariants.{Integer}
use Rattle.st_collections.specs.Kinds.{interval_size, natural_of}
use Rattle.st_loops.specs.Counts.{is_past}
use Rattle.st_sprint.specs.declared.places.Place.{Place}
use Rattle.st_sprint.specs.Places.{IsStep, is_index}

natural_is : (z : ℤ) → pos 0 ≤ℤ z → pos (natural_of z) ≡ z
natural_is (pos n) h = refl
natural_is (negsuc n) h = absurd (omega (arith, ints))

not_below : (a b : ℤ) → int_lt a b ≡ false → pos 0 ≤ℤ (a -ℤ b)
not_below a b h = grind (arith, ints)

-- as many steps as are in the distance of the ends
near : (d b place : ℕ) → 0 < b → place * b ≤ d → nat_le (suc place) (d / b + 1) ≡ true
near d b place h far = let most : place ≤ d / b = le-div place d b h far in grind (arith, nat_tests)

beyond : (d b place : ℕ) → d < place * b → nat_le (suc place) (d / b + 1) ≡ false
beyond d b place far = by_test (nat_le (suc place) (d / b + 1)) refl
  where
    by_test : (t : Bool) → nat_le (suc place) (d / b + 1) ≡ t → t ≡ false
    by_test false e = refl
    by_test true e =
        let most : place ≤ d / b = grind (arith, nat_tests) in
        let back : place * b ≤ d = omega (arith, mul-le-mul_right b most, div-mul-le_self d b) in
        absurd (omega arith)

module _ (start stop : ℤ) (b place : ℕ) (h : 0 < b) where
  pub up_index : int_lt stop (start +ℤ pos (place * b)) ≡ false → nat_le (suc place) (interval_size start stop (pos b)) ≡ true
  unfolding interval_size
  up_index e = by_test (int_lt stop start) refl
    where
      by_test : (t : Bool) → int_lt stop start ≡ t → nat_le (suc place) (if t then 0 else natural_of (stop -ℤ start) / b + 1) ≡ true
      by_test true f = absurd (let low : ⊥ = grind (arith, ints) in low)
      by_test false f =
          let d : pos (natural_of (stop -ℤ start)) ≡ stop -ℤ start = natural_is (stop -ℤ start) (not_below stop start f) in
          let within : pos 0 ≤ℤ (stop -ℤ (start +ℤ pos (place * b))) = not_below stop (start +ℤ pos (place * b)) e in
          near (natural_of (stop -ℤ start)) b place h (omega (arith, ints))

  pub up_past : int_lt stop (start +ℤ pos (place * b)) ≡ true → nat_le (suc place) (interval_size start stop (pos b)) ≡ false
  unfolding interval_size
  up_past e = by_test (int_lt stop start) refl
    where
      by_test : (t : Bool) → int_lt stop start ≡ t → nat_le (suc place) (if t then 0 else natural_of (stop -ℤ start) / b + 1) ≡ false
      by_test true f = grind (arith, nat_tests)
      by_test false f =
          let d : pos (natural_of (stop -ℤ start)) ≡ stop -ℤ start = natural_is (stop -ℤ start) (not_below stop start f) in
          beyond (natural_of (stop -ℤ start)) b place (grind (arith, ints))

module _ (start stop : ℤ) (b place : ℕ) where
  pub down_index : int_lt (start -ℤ pos (place * suc b)) stop ≡ false → nat_le (suc place) (interval_size start stop (negsuc b)) ≡ true
  unfolding interval_size
  down_index e = by_test (int_lt start stop) refl
    where
      by_test : (t : Bool) → int_lt start stop ≡ t → nat_le (suc place) (if t then 0 else natural_of (start -ℤ stop) / suc b + 1) ≡ true
      by_test true f = absurd (let low : ⊥ = grind (arith, ints) in low)
      by_test false f =
          let d : pos (natural_of (start -ℤ stop)) ≡ start -ℤ stop = natural_is (start -ℤ stop) (not_below start stop f) in
          let within : pos 0 ≤ℤ ((start -ℤ pos (place * suc b)) -ℤ stop) = not_below (start -ℤ pos (place * suc b)) stop e in
          near (natural_of (start -ℤ stop)) (suc b) place (omega arith) (omega (arith, ints))

  pub down_past : int_lt (start -ℤ pos (place * suc b)) stop ≡ true → nat_le (suc place) (interval_size start stop (negsuc b)) ≡ false
  unfolding interval_size
  down_past e = by_test (int_lt start stop) refl
    where
      by_test : (t : Bool) → int_lt start stop ≡ t → nat_le (suc place) (if t then 0 else natural_of (start -ℤ stop) / suc b + 1) ≡ false
      by_test true f = grind (arith, nat_tests)
      by_test false f =
          let d : pos (natural_of (start -ℤ stop)) ≡ start -ℤ stop = natural_is (start -ℤ stop) (not_below start stop f) in
          beyond (natural_of (start -ℤ stop)) (suc b) place (grind (arith, ints))

-- ---- the number at an index

-- an index from 1 on is one of so many where it isn't past them
counted : (place size : ℕ) (t : Bool) → nat_le (suc place) size ≡ t → is_index (pos (suc place)) size ≡ t
counted place size t e =
    let some : nat_le 1 (suc place) ≡ true = grind (arith, nat_tests) in
    rw some e

before : (place : ℕ) → suc place - 1 ≡ place
before place = omega arith

far : (place : ℕ) → pos (suc place) -ℤ pos 1 ≡ pos place
far place = omega (arith, ints)

up_stands : (start stop : ℤ) (b place : ℕ) (number : ℤ) → 0 < b → number ≡ start +ℤ pos (place * b) → int_lt stop number ≡ false → IsStep start stop (pos b) (pos (suc place)) (Place.Element (Integer number))
up_stands start stop b place number h e low =
    (counted place (interval_size start stop (pos b)) true (up_index start stop b place h (rw e at low)), ap (λ (k : ℕ). Integer (start +ℤ pos (k * b))) (before place) ∙ ap (λ (z : ℤ). Integer z) (sym e))

down_stands : (start stop : ℤ) (b place : ℕ) (number : ℤ) → number ≡ start -ℤ pos (place * suc b) → int_lt number stop ≡ false → IsStep start stop (negsuc b) (pos (suc place)) (Place.Element (Integer number))
down_stands start stop b place number e low =
    (counted place (interval_size start stop (negsuc b)) true (down_index start stop b place (rw e at low)), ap (λ (k : ℕ). Integer (start +ℤ neg_ℤ (pos (k * suc b)))) (before place) ∙ ap (λ (z : ℤ). Integer z) (sym e))

pub step_stands : (start stop by i number : ℤ) → int_lt i (pos 1) ≡ false → (by ≡ pos 0 → ⊥) → number ≡ start +ℤ (i -ℤ pos 1) *ℤ by → is_past by number stop ≡ false → IsStep start stop by i (Place.Element (Integer number))
step_stands start stop by (negsuc n) number low step e h = absurd (let none : ⊥ = grind (arith, ints) in none)
step_stands start stop by (pos zero) number low step e h = absurd (let none : ⊥ = grind (arith, ints) in none)
step_stands start stop (pos b) (pos (suc place)) number low step e h =
    let some : 0 < b = by_test (nat_eq b 0) refl in
    up_stands start stop b place number some (e ∙ ap (λ (z : ℤ). start +ℤ z *ℤ pos b) (far place)) h
  where
    by_test : (t : Bool) → nat_eq b 0 ≡ t → 0 < b
    by_test true z = let none : b ≡ 0 = grind (arith, nat_tests) in absurd (step (ap pos none))
    by_test false z = grind (arith, nat_tests)
step_stands start stop (negsuc b) (pos (suc place)) number low step e h = down_stands start stop b place number (e ∙ ap (λ (z : ℤ). start +ℤ z *ℤ negsuc b) (far place)) h

pub step_past : (start stop by i number : ℤ) → int_lt i (pos 1) ≡ false → (by ≡ pos 0 → ⊥) → number ≡ start +ℤ (i -ℤ pos 1) *ℤ by → is_past by number stop ≡ true → IsStep start stop by i Place.Past
step_past start stop by (negsuc n) number low step e h = absurd (let none : ⊥ = grind (arith, ints) in none)
step_past start stop by (pos zero) number low step e h = absurd (let none : ⊥ = grind (arith, ints) in none)
step_past start stop (pos b) (pos (suc place)) number low step e h =
    let some : 0 < b = by_test (nat_eq b 0) refl in
    let n : number ≡ start +ℤ pos (place * b) = e ∙ ap (λ (z : ℤ). start +ℤ z *ℤ pos b) (far place) in
    counted place (interval_size start stop (pos b)) false (up_past start stop b place some (rw n at h))
  where
    by_test : (t : Bool) → nat_eq b 0 ≡ t → 0 < b
    by_test true z = let none : b ≡ 0 = grind (arith, nat_tests) in absurd (step (ap pos none))
    by_test false z = grind (arith, nat_tests)
step_past start stop (negsuc b) (pos (suc place)) number low step e h =
    let n : number ≡ start -ℤ pos (place * suc b) = e ∙ ap (λ (z : ℤ). start +ℤ z *ℤ negsuc b) (far place) in
    counted place (interval_size start stop (negsuc b)) false (down_past start stop b place (rw n at h))
