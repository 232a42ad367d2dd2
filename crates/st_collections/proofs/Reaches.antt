-- How far an Interval's elements are from its start.
use Rattle.std.proofs.Common.{◌≡◌, ℕ, suc, ◌+◌, ◌-◌, ◌*◌, ◌/◌, ◌^◌, ◌<◌, ◌≤◌, Bool, true, false, if◌then◌else◌, refl, arith}
use borrow.Author.Tests.{ltb-true}
use Rattle.std.specs.Prelude.{FitsSigned, ℤ, pos, negsuc, ◌+ℤ◌, ◌-ℤ◌, ◌≤ℤ◌, int_lt, unsigned_abs}
use Rattle.std.specs.Int.{w128}
use Rattle.std.proofs.lemmas.Int.{ints}
use Rattle.std.proofs.Math.Nat.{div-mul-le_self, mul-le-mul_right}
use Rattle.st_collections.specs.Kinds.{interval_size, natural_of}

pub natural_of-is : (z : ℤ) → pos 0 ≤ℤ z → pos (natural_of z) ≡ z
natural_of-is (pos n) h = refl
natural_of-is (negsuc n) h = absurd (omega (arith, ints))

not_below : (a b : ℤ) → int_lt a b ≡ false → pos 0 ≤ℤ (a -ℤ b)
not_below a b h = grind (arith, ints)

-- a multiple of the step that is at most the distance of the ends
reached : (d b place : ℕ) → place ≤ d / b → place * b ≤ d
reached d b place h = omega (arith, mul-le-mul_right b h, div-mul-le_self d b)

pub reach_up : (start stop : ℤ) (b place : ℕ) → FitsSigned w128 start → FitsSigned w128 stop → place ≤ interval_size start stop (pos b) - 1 → (place * b < 2 ^ 128) × FitsSigned w128 (start +ℤ pos (place * b))
unfolding interval_size
reach_up start stop b place f g h = by_test (int_lt stop start) refl h
  where
    by_test : (t : Bool) → int_lt stop start ≡ t → place ≤ (if t then 0 else natural_of (stop -ℤ start) / b + 1) - 1 → (place * b < 2 ^ 128) × FitsSigned w128 (start +ℤ pos (place * b))
    by_test true e h = let z : place ≡ 0 = omega arith in rw z (omega arith, omega (arith, ints))
    by_test false e h =
        let near : place ≤ natural_of (stop -ℤ start) / b = omega arith in
        let far : place * b ≤ natural_of (stop -ℤ start) = reached (natural_of (stop -ℤ start)) b place near in
        let d : pos (natural_of (stop -ℤ start)) ≡ stop -ℤ start = natural_of-is (stop -ℤ start) (not_below stop start e) in
        (omega (arith, ints), omega (arith, ints))

pub reach_down : (start stop : ℤ) (b place : ℕ) → FitsSigned w128 start → FitsSigned w128 stop → place ≤ interval_size start stop (negsuc b) - 1 → (place * suc b < 2 ^ 128) × FitsSigned w128 (start -ℤ pos (place * suc b))
unfolding interval_size
reach_down start stop b place f g h = by_test (int_lt start stop) refl h
  where
    by_test : (t : Bool) → int_lt start stop ≡ t → place ≤ (if t then 0 else natural_of (start -ℤ stop) / suc b + 1) - 1 → (place * suc b < 2 ^ 128) × FitsSigned w128 (start -ℤ pos (place * suc b))
    by_test true e h = let z : place ≡ 0 = omega arith in rw z (omega arith, omega (arith, ints))
    by_test false e h =
        let near : place ≤ natural_of (start -ℤ stop) / suc b = omega arith in
        let far : place * suc b ≤ natural_of (start -ℤ stop) = reached (natural_of (start -ℤ stop)) (suc b) place near in
        let d : pos (natural_of (start -ℤ stop)) ≡ start -ℤ stop = natural_of-is (start -ℤ stop) (not_below start stop e) in
        (omega (arith, ints), omega (arith, ints))

-- ---- the same, for a step of either sign

pub reach : (start stop by : ℤ) (place : ℕ) → FitsSigned w128 start → FitsSigned w128 stop → place ≤ interval_size start stop by - 1 → place * unsigned_abs by < 2 ^ 128
reach start stop (pos b) place f g h = (reach_up start stop b place f g h).0
reach start stop (negsuc b) place f g h = (reach_down start stop b place f g h).0

pub reach_below : (start stop by : ℤ) (place : ℕ) → FitsSigned w128 start → FitsSigned w128 stop → int_lt by (pos 0) ≡ true → place ≤ interval_size start stop by - 1 → FitsSigned w128 (start -ℤ pos (place * unsigned_abs by))
reach_below start stop (pos b) place f g low h = absurd (omega (arith, ltb-true b 0 low))
reach_below start stop (negsuc b) place f g low h = (reach_down start stop b place f g h).1

pub reach_above : (start stop by : ℤ) (place : ℕ) → FitsSigned w128 start → FitsSigned w128 stop → int_lt by (pos 0) ≡ false → place ≤ interval_size start stop by - 1 → FitsSigned w128 (start +ℤ pos (place * unsigned_abs by))
reach_above start stop (pos b) place f g low h = (reach_up start stop b place f g h).1
reach_above start stop (negsuc b) place f g low h = cc
