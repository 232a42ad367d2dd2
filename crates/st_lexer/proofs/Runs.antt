-- The longest run of bytes that pass, and the bytes behind it.
use Rattle.std.proofs.Common.{◌≡◌, ◌+◌, ◌≤◌, ℕ, zero, suc, Bool, true, false, true≢false, not, ◌&&◌, ◌||◌, ◌==◌, List, [], ◌∷◌, ◌++◌, drop, take, length, refl, ap, sym, ◌∙◌, arith, add-one}
use Rattle.std.specs.List.{prefix_len, list_all}
use Rattle.st_base.specs.TokenBytes.{begins, begins_colon}
use Rattle.st_base.specs.Lexes.{is_run}

pub and_left : (a b : Bool) → (a && b) ≡ true → a ≡ true
and_left true b is = refl
and_left false b is = is

pub and_right : (a b : Bool) → (a && b) ≡ true → b ≡ true
and_right true b is = is
and_right false b is = absurd (true≢false (sym is))

pub and_both : (a b : Bool) → a ≡ true → b ≡ true → (a && b) ≡ true
and_both a b left right = rw (left, right) refl

pub or_left : (a b : Bool) → (a || b) ≡ false → a ≡ false
or_left true b is = is
or_left false b is = refl

pub or_right : (a b : Bool) → (a || b) ≡ false → b ≡ false
or_right true b is = absurd (true≢false is)
or_right false b is = is

pub or_neither : (a b : Bool) → a ≡ false → b ≡ false → (a || b) ≡ false
or_neither a b left right = rw (left, right) refl

one_plus : (n : ℕ) → 1 + n ≡ suc n
one_plus n = omega arith

-- the run of a first byte that passes
pub prefix_len-goes : (p : ℕ → Bool) (c : ℕ) (cs : List ℕ) → p c ≡ true → prefix_len p (c ∷ cs) ≡ suc (prefix_len p cs)
prefix_len-goes p c cs is = rw is (one_plus (prefix_len p cs))

pub prefix_len-stops : (p : ℕ → Bool) (bs : List ℕ) → begins p bs ≡ false → prefix_len p bs ≡ 0
prefix_len-stops p [] off = refl
prefix_len-stops p (c ∷ cs) off = rw off refl

-- a run that no byte goes on with is the longest
pub prefix_len-whole : (p : ℕ → Bool) (t after : List ℕ) → list_all p t ≡ true → begins p after ≡ false → prefix_len p (t ++ after) ≡ length t
prefix_len-whole p [] after all off = prefix_len-stops p after off
prefix_len-whole p (c ∷ cs) after all off =
    prefix_len-goes p c (cs ++ after) (and_left (p c) (list_all p cs) all) ∙ ap suc (prefix_len-whole p cs after (and_right (p c) (list_all p cs) all) off)

-- a run is never longer than the longest
pub prefix_len-covers : (p : ℕ → Bool) (t after : List ℕ) → list_all p t ≡ true → length t ≤ prefix_len p (t ++ after)
prefix_len-covers p [] after all = omega arith
prefix_len-covers p (c ∷ cs) after all =
    let more : prefix_len p (c ∷ (cs ++ after)) ≡ suc (prefix_len p (cs ++ after)) = prefix_len-goes p c (cs ++ after) (and_left (p c) (list_all p cs) all) in
    let rest : length cs ≤ prefix_len p (cs ++ after) = prefix_len-covers p cs after (and_right (p c) (list_all p cs) all) in
    omega arith

-- what the longest run has, and what stands behind it
pub list_all-prefix : (p : ℕ → Bool) (bs : List ℕ) → list_all p (take (prefix_len p bs) bs) ≡ true
list_all-prefix p [] = refl
list_all-prefix p (c ∷ cs) = elim (p c) as (λ v. p c ≡ v → list_all p (take (prefix_len p (c ∷ cs)) (c ∷ cs)) ≡ true) [
  | true ↦ λ is. rw (prefix_len-goes p c cs is) (and_both (p c) _ is (list_all-prefix p cs))
  | false ↦ λ off. rw (prefix_len-stops p (c ∷ cs) off) refl
] refl

pub begins-prefix : (p : ℕ → Bool) (bs : List ℕ) → begins p (drop (prefix_len p bs) bs) ≡ false
begins-prefix p [] = refl
begins-prefix p (c ∷ cs) = elim (p c) as (λ v. p c ≡ v → begins p (drop (prefix_len p (c ∷ cs)) (c ∷ cs)) ≡ false) [
  | true ↦ λ is. rw (prefix_len-goes p c cs is) (begins-prefix p cs)
  | false ↦ λ off. rw (prefix_len-stops p (c ∷ cs) off) off
] refl

-- a run from a first byte that passes
pub is_run-prefix : (p : ℕ → Bool) (c : ℕ) (cs : List ℕ) → p c ≡ true → is_run p (take (prefix_len p (c ∷ cs)) (c ∷ cs)) ≡ true
is_run-prefix p c cs is = rw (prefix_len-goes p c cs is) (and_both (p c) _ is (list_all-prefix p cs))

pub is_run-all : (p : ℕ → Bool) (t : List ℕ) → is_run p t ≡ true → list_all p t ≡ true
is_run-all p [] is = refl
is_run-all p (c ∷ cs) is = is

pub list_all-take : (p : ℕ → Bool) (n : ℕ) (t : List ℕ) → list_all p t ≡ true → list_all p (take n t) ≡ true
list_all-take p zero t all = refl
list_all-take p (suc n) [] all = refl
list_all-take p (suc n) (c ∷ cs) all = and_both (p c) _ (and_left (p c) (list_all p cs) all) (list_all-take p n cs (and_right (p c) (list_all p cs) all))

-- a byte in front of what is taken and dropped
pub begins-split : (b n : ℕ) (bytes : List ℕ) → begins (λ c. c == b) (drop n bytes) ≡ true → drop n bytes ≡ b ∷ drop (n + 1) bytes
begins-split b n bytes is = rw add-one (split b n bytes is)
  where
    split : (b n : ℕ) (bytes : List ℕ) → begins (λ c. c == b) (drop n bytes) ≡ true → drop n bytes ≡ b ∷ drop (suc n) bytes
    split b zero [] is = absurd (true≢false (sym is))
    split b (suc n) [] is = absurd (true≢false (sym is))
    split b zero (c ∷ cs) is = let e : c ≡ b = grind (arith, is) in rw e refl
    split b (suc n) (c ∷ cs) is = split b n cs is

pub begins_colon-split : (n : ℕ) (bytes : List ℕ) → begins_colon (drop n bytes) ≡ true → (drop n bytes ≡ 58 ∷ drop (n + 1) bytes) × (begins (λ c. c == 61) (drop (n + 1) bytes) ≡ false)
begins_colon-split n bytes is = rw add-one (split n bytes is)
  where
    unequal : (a b : Bool) → (a && not b) ≡ true → b ≡ false
    unequal true true is = absurd (true≢false (sym is))
    unequal true false is = refl
    unequal false b is = absurd (true≢false (sym is))

    split : (n : ℕ) (bytes : List ℕ) → begins_colon (drop n bytes) ≡ true → (drop n bytes ≡ 58 ∷ drop (suc n) bytes) × (begins (λ c. c == 61) (drop (suc n) bytes) ≡ false)
    split zero [] is = absurd (true≢false (sym is))
    split (suc n) [] is = absurd (true≢false (sym is))
    split zero (c ∷ cs) is =
        let colon : (c == 58) ≡ true = and_left (c == 58) (not (begins (λ d. d == 61) cs)) is in
        let e : c ≡ 58 = grind (arith, colon) in
        (rw e refl, unequal (c == 58) (begins (λ d. d == 61) cs) is)
    split (suc n) (c ∷ cs) is = split n cs is

-- taking one more
pub take-one_more : (n : ℕ) (bytes rest : List ℕ) (b : ℕ) → drop n bytes ≡ b ∷ rest → take (n + 1) bytes ≡ take n bytes ++ b ∷ []
take-one_more n bytes rest b is = rw add-one (more n bytes is)
  where
    more : (n : ℕ) (bytes : List ℕ) → drop n bytes ≡ b ∷ rest → take (suc n) bytes ≡ take n bytes ++ b ∷ []
    more zero [] is = (cc)
    more (suc n) [] is = (cc)
    more zero (c ∷ cs) is = let e : c ≡ b = (cc) in rw e refl
    more (suc n) (c ∷ cs) is = ap (λ (xs : List ℕ). c ∷ xs) (more n cs is)
