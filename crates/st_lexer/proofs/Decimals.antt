-- What is written of a number is digits of its value.
use Rattle.std.proofs.Common.{◌≡◌, ◌+◌, ◌-◌, ◌*◌, ◌^◌, ◌<◌, ◌≤◌, ℕ, suc, Bool, true, false, List, [], ◌∷◌, length, nat_lt, nat_le, refl, ap, sym, ◌∙◌, arith, if◌then◌else◌}
use Rattle.std.specs.List.{list_all}
use Rattle.std.specs.Fmt.{decimal}
use Rattle.std.specs.Char.{digit_value}
use Rattle.std.specs.Str.Parse.{AllDigits, digits_value_after}
use Rattle.std.proofs.lemmas.Fmt.{decimal_is_IsNumeral_wide}
use Rattle.st_base.specs.TokenBytes.{is_digit, figure_value}
use Rattle.st_base.specs.Lexed.{value_behind, value_of}
use Rattle.st_base.specs.Lexes.{is_run}
use Rattle.st_lexer.proofs.Runs.{and_both}

above : (a b : ℕ) → nat_lt a b ≡ false → nat_le b a ≡ true
above a b off = grind (arith, off)

below : (a b : ℕ) → nat_lt a (suc b) ≡ true → nat_le a b ≡ true
below a b is = grind (arith, is)

-- a value below 10 is that of a digit
small : (a b : Bool) (c n : ℕ) → nat_lt c 48 ≡ a → nat_lt c 58 ≡ b → 10 ≤ n → (if a then 36 else (if b then c - 48 else n)) < 10 → (is_digit c ≡ true) × ((if a then 36 else (if b then c - 48 else n)) ≡ c - 48)
small true b c n low high far is = absurd (omega arith)
small false true c n low high far is = (and_both (nat_le 48 c) (nat_le c 57) (above c 48 low) (below c 57 high), refl)
small false false c n low high far is = absurd (omega arith)

choice : (t : Bool) (a b : ℕ) → (t ≡ true → 10 ≤ a) → (t ≡ false → 10 ≤ b) → 10 ≤ (if t then a else b)
choice true a b left right = left refl
choice false a b left right = right refl

rest_far : (c : ℕ) → 10 ≤ (if nat_lt c 65 then 36 else (if nat_lt c 91 then c - 55 else (if nat_lt c 97 then 36 else (if nat_lt c 123 then c - 87 else 36))))
rest_far c =
    choice (nat_lt c 65) 36 _ (λ is. omega arith) (λ high. choice (nat_lt c 91) (c - 55) _ (λ is. let h : 65 ≤ c = at_least c 65 high in omega arith) (λ off. choice (nat_lt c 97) 36 _ (λ is. omega arith) (λ more. choice (nat_lt c 123) (c - 87) 36 (λ is. let h : 97 ≤ c = at_least c 97 more in omega arith) (λ off. omega arith))))
  where
    at_least : (a b : ℕ) → nat_lt a b ≡ false → b ≤ a
    at_least a b off = grind (arith, off)

digit_small : (c : ℕ) → digit_value c < 10 → (is_digit c ≡ true) × (digit_value c ≡ c - 48)
digit_small c is = small (nat_lt c 48) (nat_lt c 58) c _ refl refl (rest_far c) is

all_digits : (ds : List ℕ) → AllDigits 10 ds → list_all is_digit ds ≡ true
all_digits [] all = refl
all_digits (c ∷ cs) all = and_both (is_digit c) (list_all is_digit cs) (digit_small c all.0).0 (all_digits cs all.1)

same_value : (n : ℕ) (ds : List ℕ) → AllDigits 10 ds → value_behind 10 n ds ≡ digits_value_after 10 n ds
same_value n [] all = refl
same_value n (c ∷ cs) all =
    let small = digit_small c all.0 in
    let figure : figure_value c ≡ digit_value c = rw small.0 (sym small.1) in
    ap (λ d. value_behind 10 (n * 10 + d) cs) figure ∙ same_value (n * 10 + digit_value c) cs all.1

run_some : (ds : List ℕ) → 0 < length ds → AllDigits 10 ds → is_run is_digit ds ≡ true
run_some [] some all = absurd (omega arith)
run_some (c ∷ cs) some all = all_digits (c ∷ cs) all

pub decimal-digits : (n : ℕ) → n < 10 ^ 64 → is_run is_digit (decimal n) ≡ true
decimal-digits n low = let numeral = decimal_is_IsNumeral_wide n low in run_some (decimal n) numeral.0.0 numeral.0.1

pub value_of-decimal : (n : ℕ) → n < 10 ^ 64 → value_of 10 (decimal n) ≡ n
unfolding value_of
value_of-decimal n low = let numeral = decimal_is_IsNumeral_wide n low in same_value 0 (decimal n) numeral.0.1 ∙ numeral.1
