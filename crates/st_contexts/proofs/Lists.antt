-- Lists turned round: what happens at the end of one happens at the front of the other.
use Rattle.std.proofs.Common.{◌≡◌, ℕ, suc, zero, ◌-◌, ◌<◌, ◌≤◌, List, [], ◌∷◌, ◌++◌, length, get_or, take, drop, set, reverse, refl, arith}
use Rattle.std.proofs.lemmas.List.{reverse-append, reverse-reverse, length-reverse, get_or-reverse, take-append-drop, drop_at, length-drop, set_at, set-append_left, drop_more}

pub reverse_push : {A : Type 0} (xs : List A) (y : A) → reverse (xs ++ y ∷ []) ≡ y ∷ reverse xs
reverse_push xs y = rw (reverse-append xs (y ∷ [])) refl

pub reverse_cons : {A : Type 0} (x : A) (xs : List A) → reverse (x ∷ xs) ≡ reverse xs ++ x ∷ []
reverse_cons x xs = reverse-append (x ∷ []) xs

pub reverse_take : {A : Type 0} (n : ℕ) (xs : List A) → n ≤ length xs → reverse (take (length xs - n) xs) ≡ drop n (reverse xs)
reverse_take n xs h =
    let k : ℕ = length xs - n in
    let whole : reverse xs ≡ reverse (drop k xs) ++ reverse (take k xs) = rw (← reverse-append (take k xs) (drop k xs), take-append-drop k xs) refl in
    let size : length (reverse (drop k xs)) ≡ n = omega (arith, length-reverse (drop k xs), length-drop k xs) in
    rw (whole, drop_at (reverse (drop k xs)) (reverse (take k xs)) n size) refl

pub reverse_set : {A : Type 0} (xs : List A) (k : ℕ) (y : A) → k < length xs → reverse (set xs k y) ≡ set (reverse xs) (length xs - 1 - k) y
reverse_set [] k y h = refl
reverse_set (x ∷ xs) zero y h =
    let size : length (reverse xs) ≡ length (x ∷ xs) - 1 - 0 = omega (arith, length-reverse xs) in
    rw (reverse_cons y xs, reverse_cons x xs, set_at (reverse xs) x [] y (length (x ∷ xs) - 1 - 0) size) refl
reverse_set (x ∷ xs) (suc k) y h =
    let inside : length (x ∷ xs) - 1 - suc k < length (reverse xs) = omega (arith, length-reverse xs) in
    let same : length (x ∷ xs) - 1 - suc k ≡ length xs - 1 - k = omega arith in
    rw (reverse_cons x (set xs k y), reverse_cons x xs, set-append_left (reverse xs) (x ∷ []) (length (x ∷ xs) - 1 - suc k) y inside, same, reverse_set xs k y (omega arith)) refl

-- the last element, first
pub reverse_last : {A : Type 0} (xs : List A) (d : A) → 0 < length xs → reverse xs ≡ get_or xs (length xs - 1) d ∷ drop 1 (reverse xs)
reverse_last xs d h =
    let inside : 0 < length (reverse xs) = omega (arith, length-reverse xs) in
    let same : length xs - 1 - 0 ≡ length xs - 1 = omega arith in
    let first : get_or (reverse xs) 0 d ≡ get_or xs (length xs - 1 - 0) d = get_or-reverse xs 0 d h in
    rw (← same, ← first) (drop_more (reverse xs) 0 d inside)

pub reverse_set_last : {A : Type 0} (xs : List A) (y : A) → 0 < length xs → reverse (set xs (length xs - 1) y) ≡ y ∷ drop 1 (reverse xs)
reverse_set_last xs y h =
    let at : length xs - 1 - (length xs - 1) ≡ 0 = omega arith in
    rw (reverse_set xs (length xs - 1) y (omega arith), at, reverse_last xs y h) refl

-- the last of a list, from the front of the list turned round
pub reverse_front : {A : Type 0} (n : ℕ) (xs : List A) → n ≤ length xs → reverse (take n (reverse xs)) ≡ drop (length xs - n) xs
reverse_front n xs h =
    let back : length (reverse xs) - (length xs - n) ≡ n = omega (arith, length-reverse xs, h) in
    let whole : reverse (take (length (reverse xs) - (length xs - n)) (reverse xs)) ≡ drop (length xs - n) (reverse (reverse xs)) = reverse_take (length xs - n) (reverse xs) (omega (arith, length-reverse xs)) in
    rw (back, reverse-reverse xs) at whole
