-- The bytes of names and operators.
use Rattle.std.specs.Prelude.{ℕ, Bool, ◌||◌, nat_eq, codes}
use Rattle.st_code.specs.Texts.{is_letter, is_digit, holds_byte}

-- a byte that may begin an identifier, and one that may go on with it
abbrev pub begins : ℕ → Bool
begins byte = is_letter byte || nat_eq byte 95

abbrev pub continues : ℕ → Bool
continues byte = begins byte || is_digit byte

-- a byte of an operator
abbrev pub is_operator : ℕ → Bool
is_operator byte = holds_byte (codes "!%&*+,/<>=?@\\~|-") byte
