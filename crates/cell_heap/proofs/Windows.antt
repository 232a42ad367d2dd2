-- Windows of a list, each from a place on, and functions mapped over lists.
use Rattle.std.proofs.Common.{◌≡◌, ◌≢◌, ◌⊎◌, inl, inr, ℕ, suc, zero, ◌+◌, ◌-◌, ◌<◌, ◌≤◌, List, [], ◌∷◌, ◌++◌, length, take, drop, map, set, get_or, refl, ap, arith}
use Rattle.std.proofs.Math.Seq.{take-set-lt}
use Rattle.std.proofs.lemmas.List.{drop-set-lt, drop-set-add, take-set-le, drop-append-le, take-append-le, drop_at, take_all, length-drop}

pub same_map : {A B : Type 0} (f g : A → B) (xs : List A) (d : A) → ((j : ℕ) → j < length xs → f (get_or xs j d) ≡ g (get_or xs j d)) → map f xs ≡ map g xs
same_map f g [] d h = refl
same_map f g (x ∷ xs) d h = rw (h 0 (omega arith), same_map f g xs d (λ j lj. h (suc j) (omega (arith, lj)))) refl

-- a function that differs at one place of a list
pub changed_one : {A B : Type 0} (f g : A → B) (xs : List A) (i : ℕ) (d : A) → i < length xs → ((j : ℕ) → j < length xs → j ≢ i → f (get_or xs j d) ≡ g (get_or xs j d)) → map f xs ≡ set (map g xs) i (f (get_or xs i d))
changed_one f g [] i d l h = refl
changed_one f g (x ∷ xs) zero d l h = ap (λ ys. f x ∷ ys) (same_map f g xs d (λ j lj. h (suc j) (omega (arith, lj)) (omega arith)))
changed_one f g (x ∷ xs) (suc i) d l h =
    rw (h 0 (omega arith) (omega arith), changed_one f g xs i d (omega (arith, l)) (λ j lj n. h (suc j) (omega (arith, lj)) (omega (arith, n)))) refl

pub get_or-map : {A B : Type 0} (f : A → B) (xs : List A) (i : ℕ) (d : A) (e : B) → i < length xs → get_or (map f xs) i e ≡ f (get_or xs i d)
get_or-map f [] i d e l = let none : ⊥ = omega (arith, l) in absurd none
get_or-map f (x ∷ xs) zero d e l = refl
get_or-map f (x ∷ xs) (suc i) d e l = get_or-map f xs i d e (omega (arith, l))

-- a write outside a window
pub outside_window : {A : Type 0} (cells : List A) (a first size : ℕ) (v : A) → (a < first) ⊎ (first + size ≤ a) → take size (drop first (set cells a v)) ≡ take size (drop first cells)
outside_window cells a first size v (inl l) = rw (drop-set-lt first cells a v l) refl
outside_window cells a first size v (inr l) =
    let e : a ≡ first + (a - first) = omega (arith, l) in
    rw (e, drop-set-add first cells (a - first) v, take-set-le size (drop first cells) (a - first) v (omega (arith, l))) refl

pub inside_window : {A : Type 0} (cells : List A) (k first size : ℕ) (v : A) → k < size → take size (drop first (set cells (first + k) v)) ≡ set (take size (drop first cells)) k v
inside_window cells k first size v l = rw (drop-set-add first cells k v, take-set-lt size (drop first cells) k v l) refl

-- a window of a list that has grown at its end
pub window-append : {A : Type 0} (cells more : List A) (first size : ℕ) → first + size ≤ length cells → take size (drop first (cells ++ more)) ≡ take size (drop first cells)
window-append cells more first size l =
    let d : length (drop first cells) ≡ length cells - first = length-drop first cells in
    rw (drop-append-le first cells more (omega (arith, l)), take-append-le size (drop first cells) more (omega (arith, l, d))) refl

-- a window that is all that was added at the end
pub window-added : {A : Type 0} (cells more : List A) (first size : ℕ) → first ≡ length cells → size ≡ length more → take size (drop first (cells ++ more)) ≡ more
window-added cells more first size f s =
    rw (f, drop_at cells more (length cells) refl, take_all size more (omega (arith, s))) refl
