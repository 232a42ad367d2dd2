-- Euclid's steps give the greatest common divisor, and what follows of numbers without a common divisor.
use Rattle.std.proofs.Common.{◌≡◌, ℕ, suc, zero, ◌+◌, ◌*◌, ◌/◌, ◌%◌, ◌<◌, Bool, true, false, ◌==◌, refl, ap, sym, ◌∙◌, subst, arith}
use Rattle.std.specs.Int.{IsGcd, ◌∣◌}
use Rattle.std.proofs.lemmas.Nat.Gcd.{IsGcd-from_zero, IsGcd-from_mod, IsGcd-swap, same_from_IsGcd, dvd-zero, dvd_trans}
use Rattle.std.proofs.Math.Nat.{mul-mul-mul_comm, mul-div_cancel_left, mul-zero, mul-one, mul_comm, mul-add, mul-pos, mul-lt-mul_of_pos_left, mod-eq_of_lt, eq_of_mul-eq-mul_left, mul_assoc, mul-div_cancel', mul-add-mod_self_left, dvd-mul_left, eq-one_of_dvd-one}
use Rattle.std.proofs.Math.Dec.{eqb-suc-zero}
use Rattle.st_numbers.specs.Gcd.{gcd_within, gcd}

pub not_zero : (n : ℕ) → 0 < n → (n == 0) ≡ false
not_zero zero l = let none : ⊥ = omega (arith, l) in absurd none
not_zero (suc n) l = eqb-suc-zero n

pub ap2 : {A B C : Type 0} (f : A → B → C) {a a' : A} {b b' : B} → a ≡ a' → b ≡ b' → f a b ≡ f a' b'
ap2 f {a = a} {b' = b'} p q = ap (f a) q ∙ ap (λ x. f x b') p

-- ---- Euclid

step_by : (t : Bool) (a b : ℕ) → t ≡ false → elim t [ true ↦ a | false ↦ b ] ≡ b
step_by true a b e = cc
step_by false a b e = refl

end_by : (t : Bool) (a b : ℕ) → t ≡ true → elim t [ true ↦ a | false ↦ b ] ≡ a
end_by true a b e = refl
end_by false a b e = cc

-- a step, and the last one
step : (steps a b : ℕ) → (b == 0) ≡ false → gcd_within (suc steps) a b ≡ gcd_within steps b (a % b)
unfolding gcd_within
step steps a b e = step_by (b == 0) a (gcd_within steps b (a % b)) e

end : (steps a b : ℕ) → (b == 0) ≡ true → gcd_within (suc steps) a b ≡ a
unfolding gcd_within
end steps a b e = end_by (b == 0) a (gcd_within steps b (a % b)) e

pub gcd_within-is : (steps a b : ℕ) → b < steps → IsGcd a b (gcd_within steps a b)
unfolding gcd_within
gcd_within-is zero a b l = let none : ⊥ = omega (arith, l) in absurd none
gcd_within-is (suc steps) a zero l = IsGcd-from_zero a 0 refl
gcd_within-is (suc steps) a (suc k) l =
    let less : a % suc k < steps = omega arith in
    rw (step steps a (suc k) (eqb-suc-zero k)) (IsGcd-from_mod a (suc k) (gcd_within steps (suc k) (a % suc k)) (gcd_within-is steps (suc k) (a % suc k) less))

pub gcd-is : (a b : ℕ) → IsGcd a b (gcd a b)
unfolding gcd
gcd-is a b = gcd_within-is (suc b) a b (omega arith)

pub gcd_from_is : (a b g : ℕ) → IsGcd a b g → gcd a b ≡ g
gcd_from_is a b g h = same_from_IsGcd a b (gcd a b) g (gcd-is a b) h

pub gcd_comm : (a b : ℕ) → gcd a b ≡ gcd b a
gcd_comm a b = gcd_from_is a b (gcd b a) (IsGcd-swap b a (gcd b a) (gcd-is b a))

-- ---- divisors

-- what divides is a factor
pub factor : (d n : ℕ) → d ∣ n → n ≡ d * (n / d)
factor d n h = sym (mul-div_cancel' d h)

pub gcd-divides_left : (a b : ℕ) → gcd a b ∣ a
gcd-divides_left a b = (gcd-is a b).0

pub gcd-divides_right : (a b : ℕ) → gcd a b ∣ b
gcd-divides_right a b = (gcd-is a b).1

pub gcd-greatest : (a b d : ℕ) → d ∣ a → d ∣ b → d ∣ gcd a b
gcd-greatest a b d h i = (gcd-is a b).2 d h i

-- a divisor that is not 0 unless both are
pub gcd-positive : (a b : ℕ) → 0 < b → 0 < gcd a b
gcd-positive a b l = positive (gcd a b) (factor (gcd a b) b (gcd-divides_right a b))
  where
    positive : (g : ℕ) → b ≡ g * (b / g) → 0 < g
    positive zero e = let none : ⊥ = omega (arith, e, l) in absurd none
    positive (suc g) e = omega arith

-- ---- a common factor

rest-below : (b a : ℕ) → 0 < b → a % b < b
rest-below b a l = omega arith

mod-scaled : (k a b : ℕ) → 0 < k → 0 < b → (k * a) % (k * b) ≡ k * (a % b)
mod-scaled k a b lk lb =
    let parts : b * (a / b) + a % b ≡ a = omega arith in
    let left : k * a ≡ k * b * (a / b) + k * (a % b) = ap (λ n. k * n) (sym parts) ∙ mul-add k (b * (a / b)) (a % b) ∙ ap (λ n. n + k * (a % b)) (sym (mul_assoc k b (a / b))) in
    let below : k * (a % b) < k * b = mul-lt-mul_of_pos_left (rest-below b a lb) lk in
    ap (λ n. n % (k * b)) left ∙ mul-add-mod_self_left (k * b) (a / b) (k * (a % b)) ∙ mod-eq_of_lt below

gcd_within-scaled : (steps k a b : ℕ) → 0 < k → gcd_within steps (k * a) (k * b) ≡ k * gcd_within steps a b
unfolding gcd_within
gcd_within-scaled zero k a b l = refl
gcd_within-scaled (suc steps) k a zero l = end steps (k * a) (k * 0) (ap (λ (n : ℕ). n == 0) (mul-zero k)) ∙ ap (λ (n : ℕ). k * n) (sym (end steps a 0 refl))
gcd_within-scaled (suc steps) k a (suc b) l =
    let there : 0 < k * suc b = mul-pos l (omega arith) in
    let off : (k * suc b == 0) ≡ false = not_zero (k * suc b) there in
    rw (step steps (k * a) (k * suc b) off, step steps a (suc b) (eqb-suc-zero b), mod-scaled k a (suc b) l (omega arith)) (gcd_within-scaled steps k (suc b) (a % suc b) l)

pub gcd-scaled : (k a b : ℕ) → 0 < k → gcd (k * a) (k * b) ≡ k * gcd a b
unfolding gcd
gcd-scaled k a b l =
    let enough : b < suc (k * b) = le_self k b l in
    gcd_within-scaled (suc (k * b)) k a b l ∙ ap (λ g. k * g) (sym (gcd_from_is a b (gcd_within (suc (k * b)) a b) (gcd_within-is (suc (k * b)) a b enough)))
  where
    le_self : (k b : ℕ) → 0 < k → b < suc (k * b)
    le_self zero b l = let none : ⊥ = omega (arith, l) in absurd none
    le_self (suc k) b l = omega arith

-- ---- numbers without a common divisor but 1

-- what divides a product and has no common divisor with one factor divides the other
pub divides_other : (a b c : ℕ) → gcd a b ≡ 1 → a ∣ b * c → a ∣ c
divides_other a b zero e h = dvd-zero a
divides_other a b (suc c') e h =
    let c : ℕ = suc c' in
    let scaled : gcd (c * a) (c * b) ≡ c = gcd-scaled c a b (omega arith) ∙ ap (λ g. c * g) e ∙ mul-one c in
    let both : a ∣ gcd (c * a) (c * b) = gcd-greatest (c * a) (c * b) a (dvd-mul_left a c) (subst (λ n. a ∣ n) (mul_comm b c) h) in
    subst (λ n. a ∣ n) scaled both

pub coprime-divisor : (a b d : ℕ) → gcd a b ≡ 1 → d ∣ a → gcd d b ≡ 1
coprime-divisor a b d e h =
    let one : gcd d b ∣ gcd a b = gcd-greatest a b (gcd d b) (dvd_trans (gcd d b) (gcd-divides_left d b) h) (gcd-divides_right d b) in
    eq-one_of_dvd-one (subst (λ n. gcd d b ∣ n) e one)

pub coprime-product : (a b c : ℕ) → gcd a b ≡ 1 → gcd a c ≡ 1 → gcd a (b * c) ≡ 1
coprime-product a b c e f =
    let with_b : gcd (gcd a (b * c)) b ≡ 1 = coprime-divisor a b (gcd a (b * c)) e (gcd-divides_left a (b * c)) in
    let over : gcd a (b * c) ∣ c = divides_other (gcd a (b * c)) b c with_b (gcd-divides_right a (b * c)) in
    let one : gcd a (b * c) ∣ gcd a c = gcd-greatest a c (gcd a (b * c)) (gcd-divides_left a (b * c)) over in
    eq-one_of_dvd-one (subst (λ n. gcd a (b * c) ∣ n) f one)

-- two numbers divided by their greatest common divisor
pub coprime-reduced : (a b : ℕ) → 0 < b → gcd (a / gcd a b) (b / gcd a b) ≡ 1
coprime-reduced a b l =
    let positive : 0 < gcd a b = gcd-positive a b l in
    let whole : gcd (gcd a b * (a / gcd a b)) (gcd a b * (b / gcd a b)) ≡ gcd a b = ap2 gcd (mul-div_cancel' (gcd a b) (gcd-divides_left a b)) (mul-div_cancel' (gcd a b) (gcd-divides_right a b)) in
    let scaled : gcd a b * gcd (a / gcd a b) (b / gcd a b) ≡ gcd a b = sym (gcd-scaled (gcd a b) (a / gcd a b) (b / gcd a b) positive) ∙ whole in
    one_factor (gcd a b) (gcd (a / gcd a b) (b / gcd a b)) positive scaled
  where
    one_factor : (g n : ℕ) → 0 < g → g * n ≡ g → n ≡ 1
    one_factor g n l e = eq_of_mul-eq-mul_left g l n 1 (e ∙ sym (mul-one g))

pub gcd-one_right : (n : ℕ) → gcd n 1 ≡ 1
gcd-one_right n = eq-one_of_dvd-one (gcd-divides_right n 1)

-- a number that isn't 0 stays so when it is divided by what divides it
pub part-positive : (d n : ℕ) → 0 < n → d ∣ n → 0 < n / d
part-positive d n l h = positive (n / d) (factor d n h)
  where
    positive : (q : ℕ) → n ≡ d * q → 0 < q
    positive zero e = let none : ⊥ = omega (arith, e ∙ mul-zero d, l) in absurd none
    positive (suc q) e = omega arith

-- ---- products in lowest terms

-- a divisor of each of two numbers without a common divisor
pub coprime-parts : (a b c d : ℕ) → gcd a b ≡ 1 → c ∣ a → d ∣ b → gcd c d ≡ 1
coprime-parts a b c d e h i = coprime-divisor' c b d (coprime-divisor a b c e h) i
  where
    coprime-divisor' : (a b d : ℕ) → gcd a b ≡ 1 → d ∣ b → gcd a d ≡ 1
    coprime-divisor' a b d e h = gcd_comm a d ∙ coprime-divisor b a d (gcd_comm b a ∙ e) h

-- a part of a number divides it
pub part-divides : (d n : ℕ) → d ∣ n → n / d ∣ n
part-divides d n h = subst (λ m. n / d ∣ m) (mul-div_cancel' d h) (dvd-mul_left (n / d) d)

-- what two quotients in lowest terms have in common crosswise is all that their product has
pub gcd-cross : (a b c d : ℕ) → gcd a b ≡ 1 → gcd c d ≡ 1 → 0 < b → 0 < d → gcd (a * c) (b * d) ≡ gcd a d * gcd c b
gcd-cross a b c d e f lb ld =
    let fa : a ≡ gcd a d * (a / gcd a d) = factor (gcd a d) a (gcd-divides_left a d) in
    let fd : d ≡ gcd a d * (d / gcd a d) = factor (gcd a d) d (gcd-divides_right a d) in
    let fc : c ≡ gcd c b * (c / gcd c b) = factor (gcd c b) c (gcd-divides_left c b) in
    let fb : b ≡ gcd c b * (b / gcd c b) = factor (gcd c b) b (gcd-divides_right c b) in
    let top : a * c ≡ gcd a d * gcd c b * (a / gcd a d * (c / gcd c b)) = ap2 ◌*◌ fa fc ∙ mul-mul-mul_comm (gcd a d) (a / gcd a d) (gcd c b) (c / gcd c b) in
    let low : b * d ≡ gcd a d * gcd c b * (b / gcd c b * (d / gcd a d)) = ap2 ◌*◌ fb fd ∙ mul-mul-mul_comm (gcd c b) (b / gcd c b) (gcd a d) (d / gcd a d) ∙ ap (λ n. n * (b / gcd c b * (d / gcd a d))) (mul_comm (gcd c b) (gcd a d)) in
    let a_d : gcd (a / gcd a d) (d / gcd a d) ≡ 1 = coprime-reduced a d ld in
    let c_b : gcd (c / gcd c b) (b / gcd c b) ≡ 1 = coprime-reduced c b lb in
    let a_b : gcd (a / gcd a d) (b / gcd c b) ≡ 1 = coprime-parts a b (a / gcd a d) (b / gcd c b) e (part-divides (gcd a d) a (gcd-divides_left a d)) (part-divides (gcd c b) b (gcd-divides_right c b)) in
    let c_d : gcd (c / gcd c b) (d / gcd a d) ≡ 1 = coprime-parts c d (c / gcd c b) (d / gcd a d) f (part-divides (gcd c b) c (gcd-divides_left c b)) (part-divides (gcd a d) d (gcd-divides_right a d)) in
    let one : gcd (a / gcd a d * (c / gcd c b)) (b / gcd c b * (d / gcd a d)) ≡ 1 = coprime-product (a / gcd a d * (c / gcd c b)) (b / gcd c b) (d / gcd a d) (coprime-left (a / gcd a d) (c / gcd c b) (b / gcd c b) a_b c_b) (coprime-left (a / gcd a d) (c / gcd c b) (d / gcd a d) a_d c_d) in
    ap2 gcd top low ∙ gcd-scaled (gcd a d * gcd c b) (a / gcd a d * (c / gcd c b)) (b / gcd c b * (d / gcd a d)) (mul-pos (gcd-positive a d ld) (gcd-positive c b lb)) ∙ ap (λ g. gcd a d * gcd c b * g) one ∙ mul-one (gcd a d * gcd c b)
  where
    coprime-left : (x y z : ℕ) → gcd x z ≡ 1 → gcd y z ≡ 1 → gcd (x * y) z ≡ 1
    coprime-left x y z p q = gcd_comm (x * y) z ∙ coprime-product z x y (gcd_comm z x ∙ p) (gcd_comm z y ∙ q)

-- so the product in lowest terms is that of the parts
pub product-parts : (m n f e : ℕ) → 0 < f → 0 < e → f ∣ m → e ∣ n → m * n / (f * e) ≡ m / f * (n / e)
product-parts m n f e lf le hm hn =
    let top : m * n ≡ f * e * (m / f * (n / e)) = ap2 ◌*◌ (factor f m hm) (factor e n hn) ∙ mul-mul-mul_comm f (m / f) e (n / e) in
    ap (λ k. k / (f * e)) top ∙ mul-div_cancel_left (m / f * (n / e)) (mul-pos lf le)
