-- Strings and keywords by their forms, and how far the computed lengths go.
use Rattle.std.proofs.Common.{◌≡◌, ◌≢◌, ◌+◌, ◌≤◌, ℕ, suc, true, false, ◌==◌, inl, inr, List, [], ◌∷◌, ◌++◌, take, length, Option, None, Some, refl, ap, sym, subst, ◌∙◌, arith, add-one}
use Rattle.std.specs.List.{prefix_len}
use Rattle.std.specs.Option.{option_map}
use Rattle.std.proofs.lemmas.Bool.{ne_eqb}
use Rattle.std.proofs.lemmas.Bool.Decides.{eqb_tells}
use Rattle.st_base.specs.TokenBytes.{is_word_byte}
use Rattle.st_base.specs.Lexed.{string_len, keywords_len}
use Rattle.st_base.specs.Lexes.{Inside, no_byte, other_byte, two_quotes}
use Rattle.st_lexer.proofs.Runs.{prefix_len-goes, prefix_len-stops}

-- what is one more than another
pub plus_one-some : (o : Option ℕ) (n : ℕ) → option_map (λ n. n + 1) o ≡ Some n → (m : ℕ) × (o ≡ Some m) × (n ≡ suc m)
plus_one-some None n is = absurd (cc)
plus_one-some (Some m) n is = let e : m + 1 ≡ n = (cc) in (m, refl, sym e ∙ add-one m)

pub plus_one-none : (o : Option ℕ) → option_map (λ n. n + 1) o ≡ None → o ≡ None
plus_one-none None is = refl
plus_one-none (Some m) is = absurd (cc)

-- n bytes are a string behind its opening quote
abbrev pub StringAt : ℕ → List ℕ → Type 0
StringAt n bs = (s : List ℕ) × (take n bs ≡ s ++ 39 ∷ []) × Inside s

string-other : (c m n : ℕ) (cs : List ℕ) → c ≢ 39 → n ≡ suc m → StringAt m cs → StringAt n (c ∷ cs)
string-other c m n cs other is string = subst (λ k. StringAt k (c ∷ cs)) (sym is) (c ∷ string.0, ap (λ (xs : List ℕ). c ∷ xs) string.1, other_byte other string.2)

string-closes : (c n : ℕ) (cs : List ℕ) → c ≡ 39 → n ≡ 1 → StringAt n (c ∷ cs)
string-closes c n cs quote is = subst (λ k. StringAt k (c ∷ cs)) (sym is) (subst (λ d. StringAt 1 (d ∷ cs)) (sym quote) ([], refl, no_byte))

string-doubled : (c d m n : ℕ) (ds : List ℕ) → c ≡ 39 → d ≡ 39 → n ≡ suc (suc m) → StringAt m ds → StringAt n (c ∷ d ∷ ds)
string-doubled c d m n ds quote second is string =
    subst (λ k. StringAt k (c ∷ d ∷ ds)) (sym is) (subst (λ x. StringAt (suc (suc m)) (x ∷ d ∷ ds)) (sym quote) (subst (λ x. StringAt (suc (suc m)) (39 ∷ x ∷ ds)) (sym second)
    (39 ∷ 39 ∷ string.0, ap (λ (xs : List ℕ). 39 ∷ 39 ∷ xs) string.1, two_quotes string.2)))

second_quote : (d : ℕ) (ds : List ℕ) (o : Option ℕ) → (d == 39) ≡ true → string_len true (d ∷ ds) ≡ o → option_map (λ n. n + 1) (string_len false ds) ≡ o
second_quote d ds o second is = rw second at is

no_second : (d : ℕ) (ds : List ℕ) (o : Option ℕ) → (d == 39) ≡ false → string_len true (d ∷ ds) ≡ o → Some 0 ≡ o
no_second d ds o other is = rw other at is

pub string_len-some : (bs : List ℕ) (n : ℕ) → string_len false bs ≡ Some n → StringAt n bs
string_len-some [] n is = absurd (cc)
string_len-some (c ∷ []) n is = elim (eqb_tells c 39) [
  | inl same ↦ let one = plus_one-some (Some 0) n (rw same.0 at is) in let e : n ≡ 1 = (let z : 0 ≡ one.0 = (cc) in omega (arith, one.2)) in string-closes c n [] same.1 e
  | inr other ↦ absurd (let off : option_map (λ n. n + 1) (string_len (c == 39) []) ≡ Some n = is in let none : option_map (λ n. n + 1) (string_len false []) ≡ Some n = rw other.0 at off in (cc))
]
string_len-some (c ∷ d ∷ ds) n is = elim (eqb_tells c 39) [
  | inl same ↦
      let here : option_map (λ n. n + 1) (string_len true (d ∷ ds)) ≡ Some n = rw same.0 at is in
      let one = plus_one-some (string_len true (d ∷ ds)) n here in
      elim (eqb_tells d 39) [
        | inl second ↦
            let there : option_map (λ n. n + 1) (string_len false ds) ≡ Some one.0 = second_quote d ds (Some one.0) second.0 one.1 in
            let two = plus_one-some (string_len false ds) one.0 there in
            string-doubled c d two.0 n ds same.1 second.1 (one.2 ∙ ap suc two.2) (string_len-some ds two.0 two.1)
        | inr other ↦
            let there : Some 0 ≡ Some one.0 = no_second d ds (Some one.0) other.0 one.1 in
            let z : 0 ≡ one.0 = (cc) in
            string-closes c n (d ∷ ds) same.1 (one.2 ∙ ap suc (sym z))
      ]
  | inr other ↦
      let here : option_map (λ n. n + 1) (string_len false (d ∷ ds)) ≡ Some n = rw other.0 at is in
      let one = plus_one-some (string_len false (d ∷ ds)) n here in
      string-other c one.0 n (d ∷ ds) other.1 one.2 (string_len-some (d ∷ ds) one.0 one.1)
]

inside-doubled : (c d : ℕ) (ds : List ℕ) → c ≡ 39 → d ≡ 39 → Inside ds → Inside (c ∷ d ∷ ds)
inside-doubled c d ds quote second inner = subst (λ x. Inside (x ∷ d ∷ ds)) (sym quote) (subst (λ x. Inside (39 ∷ x ∷ ds)) (sym second) (two_quotes inner))

-- a string that has no end
pub string_len-none : (bs : List ℕ) → string_len false bs ≡ None → Inside bs
string_len-none [] is = no_byte
string_len-none (c ∷ []) is = elim (eqb_tells c 39) [
  | inl same ↦ absurd (let here : option_map (λ n. n + 1) (string_len true []) ≡ None = rw same.0 at is in (cc))
  | inr other ↦ other_byte other.1 no_byte
]
string_len-none (c ∷ d ∷ ds) is = elim (eqb_tells c 39) [
  | inl same ↦
      let here : option_map (λ n. n + 1) (string_len true (d ∷ ds)) ≡ None = rw same.0 at is in
      let one : string_len true (d ∷ ds) ≡ None = plus_one-none _ here in
      elim (eqb_tells d 39) [
        | inl second ↦
            let there : option_map (λ n. n + 1) (string_len false ds) ≡ None = second_quote d ds None second.0 one in
            inside-doubled c d ds same.1 second.1 (string_len-none ds (plus_one-none _ there))
        | inr other ↦ absurd (let there : Some 0 ≡ None = no_second d ds None other.0 one in (cc))
      ]
  | inr other ↦
      let here : option_map (λ n. n + 1) (string_len false (d ∷ ds)) ≡ None = rw other.0 at is in
      other_byte other.1 (string_len-none (d ∷ ds) (plus_one-none _ here))
]

-- a string goes at least to a quote that may close it
pub string_len-covers : {s : List ℕ} → Inside s → (v : List ℕ) (n : ℕ) → string_len false (s ++ 39 ∷ v) ≡ Some n → length s + 1 ≤ n
string_len-covers no_byte v n is = let one = plus_one-some (string_len true v) n is in omega (arith, one.2)
string_len-covers (other_byte {c = c} {cs = cs} other inner) v n is =
    let here : option_map (λ n. n + 1) (string_len false (cs ++ 39 ∷ v)) ≡ Some n = rw (ne_eqb c 39 other) at is in
    let one = plus_one-some _ n here in
    let low : length cs + 1 ≤ one.0 = string_len-covers inner v one.0 one.1 in
    omega (arith, one.2)
string_len-covers (two_quotes {cs = cs} inner) v n is =
    let one = plus_one-some (option_map (λ n. n + 1) (string_len false (cs ++ 39 ∷ v))) n is in
    let two = plus_one-some (string_len false (cs ++ 39 ∷ v)) one.0 one.1 in
    let low : length cs + 1 ≤ two.0 = string_len-covers inner v two.0 two.1 in
    omega (arith, one.2, two.2)

pub string_len-open : {s : List ℕ} → Inside s → string_len false s ≡ None
string_len-open no_byte = refl
string_len-open (other_byte {c = c} other inner) = rw (ne_eqb c 39 other, string_len-open inner) refl
string_len-open (two_quotes inner) = rw (string_len-open inner) refl

-- keywords go further than their first word
pub keywords_len-covers : (bs : List ℕ) (n : ℕ) → keywords_len true bs ≡ Some n → prefix_len is_word_byte bs ≤ n
keywords_len-covers [] n is = omega arith
keywords_len-covers (c ∷ cs) n is = elim (is_word_byte c) as (λ v. is_word_byte c ≡ v → prefix_len is_word_byte (c ∷ cs) ≤ n) [
  | true ↦ λ word.
      let here : option_map (λ n. n + 1) (keywords_len true cs) ≡ Some n = rw word at is in
      let one = plus_one-some (keywords_len true cs) n here in
      let low : prefix_len is_word_byte cs ≤ one.0 = keywords_len-covers cs one.0 one.1 in
      omega (arith, one.2, prefix_len-goes is_word_byte c cs word)
  | false ↦ λ off. omega (arith, prefix_len-stops is_word_byte (c ∷ cs) off)
] refl
