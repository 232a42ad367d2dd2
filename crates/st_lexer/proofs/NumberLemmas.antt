-- Values of digits, and which of them are held.
use Rattle.std.proofs.Common.{◌≡◌, ◌+◌, ◌*◌, ◌^◌, ◌<◌, ◌≤◌, ℕ, true, List, [], ◌∷◌, drop, take, length, ◌==◌, ◌-◌, None, Some, refl, ap, sym, ◌∙◌, arith, get_or}
use Rattle.std.specs.List.{prefix_len}
use Rattle.std.proofs.Math.Nat.{le-mul_of_pos_right}
use Rattle.std.proofs.lemmas.List.{drop_more, drop-drop, take_rest}
use Rattle.st_base.specs.TokenBytes.{figure_value, is_digit, begins}
use Rattle.st_base.specs.Lexed.{Front, value_behind, value_of, radix_front, number_at, number_front}
use Rattle.st_lexer.specs.Seen.{held}

-- more digits never make less
pub value_behind-grows : (radix value : ℕ) (digits : List ℕ) → 0 < radix → value ≤ value_behind radix value digits
value_behind-grows radix value [] some = omega arith
value_behind-grows radix value (c ∷ cs) some =
    let more : value ≤ value * radix = le-mul_of_pos_right value some in
    let rest : value * radix + figure_value c ≤ value_behind radix (value * radix + figure_value c) cs = value_behind-grows radix (value * radix + figure_value c) cs some in
    omega arith

pub held-low : (value : ℕ) → value ≤ 2 ^ 127 → held value ≡ Some value
held-low value low = grind arith

pub held-high : (value : ℕ) → 2 ^ 127 < value → held value ≡ None
held-high value high = grind arith

pub held-some : (value there : ℕ) → Some there ≡ held value → (there ≡ value) × (value ≤ 2 ^ 127)
held-some value there is = grind arith

pub held-none : (value : ℕ) → None ≡ held value → 2 ^ 127 < value
held-none value is = grind arith

-- one digit makes it too great, and those behind it don't change that
pub value_behind-past : (radix value i : ℕ) (digits : List ℕ) → 0 < radix → i < length digits → None ≡ held (value * radix + figure_value (get_or digits i 0)) → held (value_behind radix value (drop i digits)) ≡ None
value_behind-past radix value i digits some low past =
    let high : 2 ^ 127 < value * radix + figure_value (get_or digits i 0) = held-none _ past in
    let more : value * radix + figure_value (get_or digits i 0) ≤ value_behind radix (value * radix + figure_value (get_or digits i 0)) (drop (i + 1) digits) = value_behind-grows radix _ (drop (i + 1) digits) some in
    rw (drop_more digits i 0 low) (held-high _ (omega arith))

-- a number whose digits are followed by `r`, where the code takes what follows from a slice
pub number_radix : (bytes rest : List ℕ) (n : ℕ) (f : Front) → n ≡ prefix_len is_digit bytes → rest ≡ drop n bytes → begins (λ c. c == 114) rest ≡ true → f ≡ radix_front (value_of 10 (take n bytes)) (n + 1) (take (length rest - 1) (drop 1 rest)) → f ≡ number_front bytes
unfolding number_front
number_radix bytes rest n f is here begun found =
    let after : take (length rest - 1) (drop 1 rest) ≡ drop (n + 1) bytes = take_rest rest 1 ∙ ap (λ (xs : List ℕ). drop 1 xs) here ∙ drop-drop 1 n bytes in
    let begun_here : begins (λ c. c == 114) (drop n bytes) ≡ true = ap (begins (λ c. c == 114)) (sym here) ∙ begun in
    let whole : number_at n bytes ≡ radix_front (value_of 10 (take n bytes)) (n + 1) (drop (n + 1) bytes) = rw begun_here refl in
    found ∙ ap (radix_front (value_of 10 (take n bytes)) (n + 1)) after ∙ sym whole ∙ ap (λ m. number_at m bytes) is
