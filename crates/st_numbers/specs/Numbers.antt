-- Integers and Fractions as numbers of any size, and which of them fit.
use Rattle.std.specs.Prelude.{ℕ, ℤ, pos, negsuc, ◌^◌, ◌≡◌, ◌≤ℤ◌, ◌*ℤ◌, neg_ℤ, unsigned_abs, int_le, int_lt, nat_lt, ◌==◌, ◌&&◌, Bool, true, false, not, if◌then◌else◌}
use Rattle.std.specs.Int.{is_negative}
use Rattle.st_numbers.specs.declared.message.Number.{Number}
use Rattle.st_numbers.specs.declared.message.NumberArgument.{NumberArgument}
use Rattle.st_numbers.specs.Gcd.{gcd}

-- whether an integer is one from -2^127 to 2^127 - 1
abbrev pub in_range : ℤ → Bool
in_range (pos n) = nat_lt n (2 ^ 127)
in_range (negsuc n) = nat_lt n (2 ^ 127)

-- the integer of this size, less than 0 where the flag is set
abbrev pub signed : Bool → ℕ → ℤ
signed true n = neg_ℤ (pos n)
signed false n = pos n

-- whether one of two integers is less than 0 and the other isn't
abbrev pub differ : ℤ → ℤ → Bool
differ x y = if is_negative x then not (is_negative y) else is_negative y

-- a number as its numerator and its denominator, which is 1 for an Integer
abbrev pub numerator_of : Number → ℤ
numerator_of (Number.Integer n) = n
numerator_of (Number.Fraction n d) = n

abbrev pub denominator_of : Number → ℕ
denominator_of (Number.Integer n) = 1
denominator_of (Number.Fraction n d) = unsigned_abs d

-- a Fraction in lowest terms, with a denominator of at least 2
abbrev pub IsProper : Number → Type 0
IsProper (Number.Integer n) = Unit {0}
IsProper (Number.Fraction n d) = (pos 2 ≤ℤ d) × (gcd (unsigned_abs n) (unsigned_abs d) ≡ 1)

-- the same as a test
abbrev pub is_proper : Number → Bool
is_proper (Number.Integer n) = true
is_proper (Number.Fraction n d) = int_le (pos 2) d && (gcd (unsigned_abs n) (unsigned_abs d) == 1)

abbrev pub IsProperArgument : NumberArgument → Type 0
IsProperArgument NumberArgument.None = Unit {0}
IsProperArgument (NumberArgument.Number x) = IsProper x
IsProperArgument (NumberArgument.Other v) = Unit {0}

-- whether the first number is less than the second
abbrev pub is_less : Number → Number → Bool
is_less x y = int_lt (numerator_of x *ℤ pos (denominator_of y)) (numerator_of y *ℤ pos (denominator_of x))
