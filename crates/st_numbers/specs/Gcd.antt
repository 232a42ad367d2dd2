-- The greatest common divisor.
use Rattle.std.specs.Prelude.{ℕ, suc, zero, ◌%◌, ◌==◌, true, false}

-- by Euclid's steps, of which at most so many are made
unfoldable pub gcd_within : ℕ → ℕ → ℕ → ℕ
gcd_within zero a b = a
gcd_within (suc steps) a b = elim (b == 0) [ true ↦ a | false ↦ gcd_within steps b (a % b) ]

-- the greatest number that divides both: each step lowers b, so these are enough
unfoldable pub gcd : ℕ → ℕ → ℕ
gcd a b = gcd_within (suc b) a b
