-- Which of two quotients is less: their whole parts decide, else what is left of both.
use Rattle.std.proofs.Common.{◌≡◌, ◌≢◌, ℕ, suc, ◌+◌, ◌*◌, ◌/◌, ◌%◌, ◌<◌, ◌≤◌, ◌⊎◌, inl, inr, Bool, true, false, nat_lt, refl, ap, sym, ◌∙◌, arith}
use Rattle.std.proofs.lemmas.Bool.{lt-ltb, ltb-true, ltb-false}
use Rattle.std.proofs.lemmas.Bool.Decides.{nat_tests}
use Rattle.std.proofs.Math.Nat.{mul-suc, mul-le-mul_left, mul-div-le, mul_left_comm, mul_comm, mul_assoc, mul-add, mul-lt-mul_of_pos_left, mul-pos, mul-zero}

not-lt : (m n : ℕ) → n ≤ m → nat_lt m n ≡ false
not-lt m n l = grind (arith, nat_tests)

shifted-lt : (x m n : ℕ) → nat_lt (x + m) (x + n) ≡ nat_lt m n
shifted-lt x m n = grind (arith, nat_tests)

-- d times a, over the whole part of a / b
spread : (a b d : ℕ) → 0 < b → d * a ≡ d * b * (a / b) + d * (a % b)
spread a b d l =
    let parts : a ≡ b * (a / b) + a % b = omega arith in
    ap (λ n. d * n) parts ∙ mul-add d (b * (a / b)) (a % b) ∙ ap (λ n. n + d * (a % b)) (sym (mul_assoc d b (a / b)))

smaller-whole : (a b c d : ℕ) → 0 < b → 0 < d → a / b < c / d → a * d < c * b
smaller-whole a b c d lb ld l =
    let up : b * suc (a / b) ≡ b * (a / b) + b = mul-suc b (a / b) in
    let more : b * suc (a / b) ≤ b * (c / d) = mul-le-mul_left b (omega (arith, l)) in
    let under : a < b * (c / d) = omega (arith, up, more) in
    let times : d * a < d * (b * (c / d)) = mul-lt-mul_of_pos_left under ld in
    let most : b * (d * (c / d)) ≤ b * c = mul-le-mul_left b (mul-div-le c d) in
    omega (arith, times, most, mul_left_comm d b (c / d), mul_comm a d, mul_comm c b)

pub whole-decides : (a b c d : ℕ) → 0 < b → 0 < d → a / b ≢ c / d → nat_lt (a / b) (c / d) ≡ nat_lt (a * d) (c * b)
whole-decides a b c d lb ld n = by_order (less-or-greater (a / b) (c / d) n)
  where
    less-or-greater : (m n : ℕ) → m ≢ n → (m < n) ⊎ (n < m)
    less-or-greater m n h = by_test (nat_lt m n) refl
      where
        by_test : (t : Bool) → nat_lt m n ≡ t → (m < n) ⊎ (n < m)
        by_test true e = inl (ltb-true m n e)
        by_test false e = inr (omega (arith, h, ltb-false m n e))

    by_order : (a / b < c / d) ⊎ (c / d < a / b) → nat_lt (a / b) (c / d) ≡ nat_lt (a * d) (c * b)
    by_order (inl l) = lt-ltb (a / b) (c / d) l ∙ sym (lt-ltb (a * d) (c * b) (smaller-whole a b c d lb ld l))
    by_order (inr l) =
        let g : c * b < a * d = smaller-whole c d a b ld lb l in
        not-lt (a / b) (c / d) (omega (arith, l)) ∙ sym (not-lt (a * d) (c * b) (omega (arith, g)))

pub rests-decide : (a b c d : ℕ) → 0 < b → 0 < d → a / b ≡ c / d → nat_lt (d * (a % b)) (b * (c % d)) ≡ nat_lt (a * d) (c * b)
rests-decide a b c d lb ld e =
    let left : a * d ≡ d * b * (c / d) + d * (a % b) = mul_comm a d ∙ spread a b d lb ∙ ap (λ q. d * b * q + d * (a % b)) e in
    let right : c * b ≡ d * b * (c / d) + b * (c % d) = mul_comm c b ∙ spread c d b ld ∙ ap (λ k. k * (c / d) + b * (c % d)) (mul_comm b d) in
    rw (left, right, shifted-lt (d * b * (c / d)) (d * (a % b)) (b * (c % d))) refl

pub no-rest : (a b c d : ℕ) → 0 < b → 0 < d → a / b ≡ c / d → c % d ≡ 0 → false ≡ nat_lt (a * d) (c * b)
no-rest a b c d lb ld e z =
    let nothing : b * (c % d) ≡ 0 = ap (λ n. b * n) z ∙ mul-zero b in
    sym (not-lt (d * (a % b)) (b * (c % d)) (omega (arith, nothing))) ∙ rests-decide a b c d lb ld e

pub only-rest : (a b c d : ℕ) → 0 < b → 0 < d → a / b ≡ c / d → a % b ≡ 0 → 0 < c % d → true ≡ nat_lt (a * d) (c * b)
only-rest a b c d lb ld e z l =
    let nothing : d * (a % b) ≡ 0 = ap (λ n. d * n) z ∙ mul-zero d in
    let some : 0 < b * (c % d) = mul-pos lb l in
    sym (lt-ltb (d * (a % b)) (b * (c % d)) (omega (arith, nothing, some))) ∙ rests-decide a b c d lb ld e
