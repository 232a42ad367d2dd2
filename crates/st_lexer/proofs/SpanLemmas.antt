-- How far strings and keywords go, from a place on.
use Rattle.std.proofs.Common.{◌≡◌, ◌≢◌, ◌+◌, ◌<◌, ◌≤◌, ℕ, Bool, true, false, not, List, [], ◌∷◌, drop, length, Option, None, Some, IfSome, refl, ap, sym, ◌∙◌, arith, get_or, unwrap_or, if◌then◌else◌}
use Rattle.std.specs.Option.{option_map}
use Rattle.std.proofs.lemmas.List.{drop_more, drop_all}
use Rattle.std.proofs.lemmas.Bool.{ne_eqb}
use Rattle.st_base.specs.TokenBytes.{is_word_byte, is_letter, begins_colon}
use Rattle.st_base.specs.Lexed.{string_len, keywords_len}

-- n more than what is there
abbrev pub plus : ℕ → Option ℕ → Option ℕ
plus i o = option_map (λ n. n + i) o

plus-plus : (i : ℕ) (o : Option ℕ) → plus i (option_map (λ n. n + 1) o) ≡ plus (i + 1) o
plus-plus i None = refl
plus-plus i (Some n) = let e : n + 1 + i ≡ n + (i + 1) = omega arith in ap Some e

string_len-quoted : (closing : Bool) (bs : List ℕ) → string_len closing (39 ∷ bs) ≡ option_map (λ n. n + 1) (string_len (not closing) bs)
string_len-quoted false bs = refl
string_len-quoted true bs = refl

pub string_len-quote : (bytes : List ℕ) (i : ℕ) (closing : Bool) (whole : Option ℕ) → i < length bytes → get_or bytes i 0 ≡ 39 → whole ≡ plus i (string_len closing (drop i bytes)) → whole ≡ plus (i + 1) (string_len (not closing) (drop (i + 1) bytes))
string_len-quote bytes i closing whole low quote so_far =
    let first : drop i bytes ≡ 39 ∷ drop (i + 1) bytes = rw (drop_more bytes i 0 low, quote) refl in
    so_far ∙ ap (λ (xs : List ℕ). plus i (string_len closing xs)) first
    ∙ ap (plus i) (string_len-quoted closing (drop (i + 1) bytes))
    ∙ plus-plus i (string_len (not closing) (drop (i + 1) bytes))

pub string_len-other : (bytes : List ℕ) (i : ℕ) (whole : Option ℕ) → i < length bytes → get_or bytes i 0 ≢ 39 → whole ≡ plus i (string_len false (drop i bytes)) → whole ≡ plus (i + 1) (string_len false (drop (i + 1) bytes))
string_len-other bytes i whole low other so_far =
    let first : drop i bytes ≡ get_or bytes i 0 ∷ drop (i + 1) bytes = drop_more bytes i 0 low in
    so_far ∙ ap (λ (xs : List ℕ). plus i (string_len false xs)) first
    ∙ rw (ne_eqb (get_or bytes i 0) 39 other) (plus-plus i (string_len false (drop (i + 1) bytes)))

-- what is whole where more keywords follow at a place, or none
abbrev pub further : Option ℕ → ℕ → Option ℕ → Option ℕ
further whole i None = whole
further whole i (Some n) = Some (i + n)

further-one : (whole : Option ℕ) (i : ℕ) (o : Option ℕ) → further whole i (option_map (λ n. n + 1) o) ≡ further whole (i + 1) o
further-one whole i None = refl
further-one whole i (Some n) = let e : i + (n + 1) ≡ i + 1 + n = omega arith in ap Some e

-- between two keywords there is always something whole
keywords_len-between : (bs : List ℕ) → (n : ℕ) × (keywords_len false bs ≡ Some n)
keywords_len-between [] = (0, refl)
keywords_len-between (c ∷ cs) = elim (is_letter c) as (λ v. (n : ℕ) × ((if v then Some (unwrap_or (option_map (λ n. n + 1) (keywords_len true cs)) 0) else Some 0) ≡ Some n)) [
  | true ↦ (unwrap_or (option_map (λ n. n + 1) (keywords_len true cs)) 0, refl)
  | false ↦ (0, refl)
]

further-closed : (whole : Option ℕ) (i : ℕ) (o : Option ℕ) (n : ℕ) → o ≡ Some n → further whole i (option_map (λ n. n + 1) o) ≡ further (Some (i + 1)) (i + 1) o
further-closed whole i o n is = let e : i + (n + 1) ≡ i + 1 + n = omega arith in rw is (ap Some e)

further-begun : (whole : Option ℕ) (i : ℕ) (o : Option ℕ) → whole ≡ Some i → further whole i (Some (unwrap_or (option_map (λ n. n + 1) o) 0)) ≡ further whole (i + 1) o
further-begun whole i None is = let e : i + 0 ≡ i = omega arith in ap Some e ∙ sym is
further-begun whole i (Some n) is = let e : i + (n + 1) ≡ i + 1 + n = omega arith in ap Some e

-- a keyword goes on
pub keywords_len-goes : (bytes : List ℕ) (i : ℕ) (all whole : Option ℕ) → i < length bytes → is_word_byte (get_or bytes i 0) ≡ true → all ≡ further whole i (keywords_len true (drop i bytes)) → all ≡ further whole (i + 1) (keywords_len true (drop (i + 1) bytes))
keywords_len-goes bytes i all whole low is so_far =
    so_far ∙ ap (λ (xs : List ℕ). further whole i (keywords_len true xs)) (drop_more bytes i 0 low)
    ∙ rw is (further-one whole i (keywords_len true (drop (i + 1) bytes)))

-- a keyword has its colon
pub keywords_len-closes : (bytes : List ℕ) (i : ℕ) (all whole : Option ℕ) → i < length bytes → is_word_byte (get_or bytes i 0) ≡ false → begins_colon (drop i bytes) ≡ true → all ≡ further whole i (keywords_len true (drop i bytes)) → all ≡ further (Some (i + 1)) (i + 1) (keywords_len false (drop (i + 1) bytes))
keywords_len-closes bytes i all whole low off colon so_far =
    let here : begins_colon (get_or bytes i 0 ∷ drop (i + 1) bytes) ≡ true = rw (drop_more bytes i 0 low) at colon in
    let some = keywords_len-between (drop (i + 1) bytes) in
    so_far ∙ ap (λ (xs : List ℕ). further whole i (keywords_len true xs)) (drop_more bytes i 0 low)
    ∙ rw (off, here) (further-closed whole i (keywords_len false (drop (i + 1) bytes)) some.0 some.1)

-- what has begun is no keyword
pub keywords_len-fails : (bytes : List ℕ) (i : ℕ) (all whole : Option ℕ) → i < length bytes → is_word_byte (get_or bytes i 0) ≡ false → begins_colon (drop i bytes) ≡ false → all ≡ further whole i (keywords_len true (drop i bytes)) → all ≡ whole
keywords_len-fails bytes i all whole low off colon so_far =
    let here : begins_colon (get_or bytes i 0 ∷ drop (i + 1) bytes) ≡ false = rw (drop_more bytes i 0 low) at colon in
    so_far ∙ ap (λ (xs : List ℕ). further whole i (keywords_len true xs)) (drop_more bytes i 0 low) ∙ rw (off, here) refl

-- another keyword begins
pub keywords_len-begins : (bytes : List ℕ) (i : ℕ) (all whole : Option ℕ) → i < length bytes → is_letter (get_or bytes i 0) ≡ true → whole ≡ Some i → all ≡ further whole i (keywords_len false (drop i bytes)) → all ≡ further whole (i + 1) (keywords_len true (drop (i + 1) bytes))
keywords_len-begins bytes i all whole low is between so_far =
    so_far ∙ ap (λ (xs : List ℕ). further whole i (keywords_len false xs)) (drop_more bytes i 0 low)
    ∙ rw is (further-begun whole i (keywords_len true (drop (i + 1) bytes)) between)

-- no other keyword begins
pub keywords_len-stops : (bytes : List ℕ) (i : ℕ) (all whole : Option ℕ) → i < length bytes → is_letter (get_or bytes i 0) ≡ false → whole ≡ Some i → all ≡ further whole i (keywords_len false (drop i bytes)) → all ≡ whole
keywords_len-stops bytes i all whole low off between so_far =
    let e : i + 0 ≡ i = omega arith in
    so_far ∙ ap (λ (xs : List ℕ). further whole i (keywords_len false xs)) (drop_more bytes i 0 low) ∙ rw off (ap Some e ∙ sym between)

-- the text ends
pub keywords_len-ends : (bytes : List ℕ) (i : ℕ) (all whole : Option ℕ) (begun : Bool) → length bytes ≤ i → (begun ≡ false → whole ≡ Some i) → all ≡ further whole i (keywords_len begun (drop i bytes)) → all ≡ whole
keywords_len-ends bytes i all whole true past between so_far = so_far ∙ rw (drop_all i bytes past) refl
keywords_len-ends bytes i all whole false past between so_far = let e : i + 0 ≡ i = omega arith in so_far ∙ rw (drop_all i bytes past) (ap Some e ∙ sym (between refl))

pub within_next : (o : Option ℕ) (i : ℕ) → IfSome o (λ n. n ≤ i) → IfSome o (λ n. n ≤ i + 1)
within_next None i low = tt
within_next (Some n) i low = omega arith
