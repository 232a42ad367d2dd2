-- The digits of an Integer, written from the last one on.
use Rattle.std.proofs.Common.{◌≡◌, ◌≢◌, ◌<◌, ◌≤◌, ◌-◌, ◌*◌, ◌+◌, ◌/◌, ◌%◌, ◌^◌, ℕ, zero, suc, true, List, ◌∷◌, drop, length, refl, ap, sym, ◌∙◌, arith}
use Rattle.std.specs.Fmt.{digit_glyph}
use Rattle.std.specs.Prelude.{slice_set}
use Rattle.std.proofs.lemmas.Bool.{ne_eqb}
use Rattle.std.proofs.lemmas.List.{drop-set}
use Rattle.std.proofs.Math.Nat.{div-eq_of_lt, div-lt_iff_lt-mul, div-lt_self, mul-le-mul_left, pow-suc}
use Rattle.st_rules.specs.NumberRows.{last_digits}

abbrev pub glyph_of : (radix n : ℕ) → ℕ
glyph_of radix n = digit_glyph true (n % radix)

more : (k radix n : ℕ) (behind : List ℕ) → n / radix ≢ 0 → last_digits (suc k) radix n behind ≡ last_digits k radix (n / radix) (glyph_of radix n ∷ behind)
unfolding last_digits
more k radix n behind h = rw (ne_eqb (n / radix) 0 h) refl

last : (k radix n : ℕ) (behind : List ℕ) → n / radix ≡ 0 → last_digits (suc k) radix n behind ≡ glyph_of radix n ∷ behind
unfolding last_digits
last k radix n behind h = rw h refl

-- a place more
put_front : (bytes : List ℕ) (start digit : ℕ) → 1 ≤ start → start ≤ length bytes → drop (start - 1) (slice_set bytes (start - 1) digit) ≡ digit ∷ drop start bytes
put_front bytes start digit h i =
    let next : (start - 1) + 1 ≡ start = omega arith in
    drop-set bytes (start - 1) digit (omega arith) ∙ ap (λ (n : ℕ). digit ∷ drop n bytes) next

pub digits_more : (bytes : List ℕ) (start radix n digit : ℕ) → 2 ≤ start → start ≤ length bytes → n / radix ≢ 0 → digit ≡ glyph_of radix n
    → last_digits (start - 1 - 1) radix (n / radix) (drop (start - 1) (slice_set bytes (start - 1) digit)) ≡ last_digits (start - 1) radix n (drop start bytes)
digits_more bytes start radix n digit h i k e =
    let one : start - 1 ≡ suc (start - 1 - 1) = omega arith in
    let front : drop (start - 1) (slice_set bytes (start - 1) digit) ≡ glyph_of radix n ∷ drop start bytes = put_front bytes start digit (omega arith) i ∙ ap (λ (d : ℕ). d ∷ drop start bytes) e in
    ap (λ (xs : List ℕ). last_digits (start - 1 - 1) radix (n / radix) xs) front
    ∙ (sym (more (start - 1 - 1) radix n (drop start bytes) k) ∙ ap (λ (m : ℕ). last_digits m radix n (drop start bytes)) (sym one))

pub digits_last : (bytes : List ℕ) (start radix n digit : ℕ) → 2 ≤ start → start ≤ length bytes → n / radix ≡ 0 → digit ≡ glyph_of radix n
    → drop (start - 1) (slice_set bytes (start - 1) digit) ≡ last_digits (start - 1) radix n (drop start bytes)
digits_last bytes start radix n digit h i k e =
    let one : start - 1 ≡ suc (start - 1 - 1) = omega arith in
    let front : drop (start - 1) (slice_set bytes (start - 1) digit) ≡ glyph_of radix n ∷ drop start bytes = put_front bytes start digit (omega arith) i ∙ ap (λ (d : ℕ). d ∷ drop start bytes) e in
    front ∙ (sym (last (start - 1 - 1) radix n (drop start bytes) k) ∙ ap (λ (m : ℕ). last_digits m radix n (drop start bytes)) (sym one))

-- each digit takes at least half
half : (n radix k : ℕ) → 2 ≤ radix → n < 2 ^ suc k → n / radix < 2 ^ k
half n radix k h l =
    let enough : 2 ^ k * 2 ≤ 2 ^ k * radix = mul-le-mul_left (2 ^ k) h in
    (div-lt_iff_lt-mul {k = radix} {x = n} {y = 2 ^ k} (omega arith)).1 (omega (arith, enough, pow-suc 2 k, l))

pub fewer : (n radix start : ℕ) → 2 ≤ radix → 2 ≤ start → n < 2 ^ (start - 1) → n / radix < 2 ^ (start - 1 - 1)
fewer n radix start h i l =
    let one : start - 1 ≡ suc (start - 1 - 1) = omega arith in
    half n radix (start - 1 - 1) h (rw one at l)

-- while there is a rest, there are places before it
pub places : (n start : ℕ) → n ≢ 0 → n < 2 ^ (start - 1) → 2 ≤ start
places n zero h l = absurd (h (omega arith))
places n (suc zero) h l = absurd (h (omega arith))
places n (suc (suc start)) h l = omega arith

pub smaller : (n radix : ℕ) → 2 ≤ radix → n / radix ≢ 0 → n / radix < n
smaller zero radix h k = absurd (k (div-eq_of_lt {n = 0} {m = radix} (omega arith)))
smaller (suc n) radix h k = div-lt_self {n = suc n} {k = radix} (omega arith) h
