-- First places in lists, and tests of lists.
use Rattle.std.proofs.Common.{◌≡◌, ◌+◌, ℕ, zero, suc, ◌<◌, Bool, true, false, ◌||◌, cond, List, [], ◌∷◌, ◌++◌, length, get_or, take, map, Option, Some, None, ltb, refl, sym, ap, ◌∙◌, arith, is_some, slice_get}
use Rattle.std.specs.List.{list_any, find}
use Rattle.std.specs.Option.{option_map}
use Rattle.std.proofs.lemmas.List.{take_more, length-take}
use Rattle.std.proofs.lemmas.List.Folds.{list_any_more, list_any_at}
use Rattle.std.proofs.lemmas.Bool.Decides.{nat_tests}
use Rattle.st_checks.specs.Declarations.{first_place}
use Rattle.st_checks.specs.Keys.{noted}

noted-suc : (o : Option ℕ) (b : Bool) (n : ℕ) → option_map suc (noted o b n) ≡ noted (option_map suc o) b (suc n)
noted-suc (Some m) b n = refl
noted-suc None true n = refl
noted-suc None false n = refl

first_place-cons : (b : Bool) (o : Option ℕ) (c : Bool) (n : ℕ) → cond b (Some 0) (option_map suc (noted o c n)) ≡ noted (cond b (Some 0) (option_map suc o)) c (suc n)
first_place-cons true o c n = refl
first_place-cons false o c n = noted-suc o c n

pub first_place_push : {A : Type 0} (p : A → Bool) (xs : List A) (y : A) → first_place p (xs ++ y ∷ []) ≡ noted (first_place p xs) (p y) (length xs)
first_place_push p [] y = elim (p y) as (λ b. cond b (Some 0) None ≡ noted None b 0) [ true ↦ refl | false ↦ refl ]
first_place_push p (x ∷ xs) y = ap (λ (o : Option ℕ). cond (p x) (Some 0) (option_map suc o)) (first_place_push p xs y) ∙ first_place-cons (p x) (first_place p xs) (p y) (length xs)

-- one more element, as at a step of a loop
pub first_place_more : {A : Type 0} (p : A → Bool) (xs : List A) (i : ℕ) (d : A) → i < length xs → first_place p (take (i + 1) xs) ≡ noted (first_place p (take i xs)) (p (get_or xs i d)) i
first_place_more p xs i d low =
    let n : length (take i xs) ≡ i = omega (arith, length-take i xs) in
    rw (take_more xs i d low) (first_place_push p (take i xs) (get_or xs i d) ∙ ap (noted (first_place p (take i xs)) (p (get_or xs i d))) n)

some-suc : (o : Option ℕ) → is_some (option_map suc o) ≡ is_some o
some-suc (Some n) = refl
some-suc None = refl

some-cons : (b : Bool) (o : Option ℕ) (l : Bool) → is_some o ≡ l → is_some (cond b (Some 0) (option_map suc o)) ≡ (b || l)
some-cons true o l h = refl
some-cons false o l h = some-suc o ∙ h

pub first_place-some : {A : Type 0} (p : A → Bool) (xs : List A) → is_some (first_place p xs) ≡ list_any p xs
first_place-some p [] = refl
first_place-some p (x ∷ xs) = some-cons (p x) (first_place p xs) (list_any p xs) (first_place-some p xs)

-- a place is there and below n
abbrev pub is_below : Option ℕ → ℕ → Bool
is_below None n = false
is_below (Some i) n = ltb i n

below-zero : (o : Option ℕ) → false ≡ is_below o 0
below-zero None = refl
below-zero (Some i) = grind (arith, nat_tests)

below-suc : (b : Bool) (o : Option ℕ) (l : Bool) (n : ℕ) → l ≡ is_below o n → (b || l) ≡ is_below (cond b (Some 0) (option_map suc o)) (suc n)
below-suc true o l n h = grind (arith, nat_tests)
below-suc false None l n h = h
below-suc false (Some i) l n h = h ∙ grind (arith, nat_tests)

pub first_place-below : {A : Type 0} (p : A → Bool) (xs : List A) (n : ℕ) → list_any p (take n xs) ≡ is_below (first_place p xs) n
first_place-below p [] zero = refl
first_place-below p [] (suc n) = refl
first_place-below p (x ∷ xs) zero = below-zero (first_place p (x ∷ xs))
first_place-below p (x ∷ xs) (suc n) = below-suc (p x) (first_place p xs) (list_any p (take n xs)) n (first_place-below p xs n)

-- ---- tests that agree

pub list_any-same : {A : Type 0} (p q : A → Bool) → ((x : A) → p x ≡ q x) → (xs : List A) → list_any p xs ≡ list_any q xs
list_any-same p q same [] = refl
list_any-same p q same (x ∷ xs) =
    let first : p x ≡ q x = same x in
    let more : list_any p xs ≡ list_any q xs = list_any-same p q same xs in
    rw (first, more) refl

pub list_any-map : {A B : Type 0} (f : A → B) (p : B → Bool) (xs : List A) → list_any p (map f xs) ≡ list_any (λ x. p (f x)) xs
list_any-map f p [] = refl
list_any-map f p (x ∷ xs) = ap (λ (b : Bool). p (f x) || b) (list_any-map f p xs)

pub first_place-map : {A B : Type 0} (f : A → B) (p : B → Bool) (xs : List A) → first_place p (map f xs) ≡ first_place (λ x. p (f x)) xs
first_place-map f p [] = refl
first_place-map f p (x ∷ xs) = ap (λ (o : Option ℕ). cond (p (f x)) (Some 0) (option_map suc o)) (first_place-map f p xs)

-- ---- a loop that returns at the first element that passes

none-suc : (o : Option ℕ) → option_map suc o ≡ None → o ≡ None
none-suc None h = refl
none-suc (Some n) h = absurd (cc)

first-step : (b : Bool) (before all : Option ℕ) (i : ℕ) → cond b (Some 0) (option_map suc before) ≡ None → (before ≡ None → all ≡ Some i) → cond b (Some 0) (option_map suc all) ≡ Some (suc i)
first-step true before all i none h = absurd (cc)
first-step false before all i none h = ap (option_map suc) (h (none-suc before none))

pub first_place_at : {A : Type 0} (p : A → Bool) (xs : List A) (i : ℕ) (d : A) → i < length xs → first_place p (take i xs) ≡ None → p (get_or xs i d) ≡ true → first_place p xs ≡ Some i
first_place_at p [] i d low none here = absurd (omega arith)
first_place_at p (x ∷ xs) zero d low none here = rw here refl
first_place_at p (x ∷ xs) (suc i) d low none here = first-step (p x) (first_place p (take i xs)) (first_place p xs) i none (λ h. first_place_at p xs i d (omega arith) h here)

pub first_place_none : {A : Type 0} (p : A → Bool) (xs : List A) (i : ℕ) (d : A) → i < length xs → first_place p (take i xs) ≡ None → p (get_or xs i d) ≡ false → first_place p (take (i + 1) xs) ≡ None
first_place_none p xs i d low none here = first_place_more p xs i d low ∙ rw (none, here) refl

pub list_any_none : {A : Type 0} (p : A → Bool) (xs : List A) (i : ℕ) (d : A) → i < length xs → list_any p (take i xs) ≡ false → p (get_or xs i d) ≡ false → list_any p (take (i + 1) xs) ≡ false
list_any_none p xs i d low none here = list_any_more p xs i d low ∙ rw (none, here) refl

-- ---- finding

pub find-same : {A : Type 0} (p q : A → Bool) → ((x : A) → p x ≡ q x) → (xs : List A) → find p xs ≡ find q xs
find-same p q same [] = refl
find-same p q same (x ∷ xs) =
    let first : p x ≡ q x = same x in
    let more : find p xs ≡ find q xs = find-same p q same xs in
    rw (first, more) refl

-- the element at a place, where there is one
abbrev pub placed : {A : Type 0} → List A → Option ℕ → Option A
placed xs None = None
placed xs (Some i) = slice_get xs i

placed-suc : {A : Type 0} (x : A) (xs : List A) (o : Option ℕ) → placed xs o ≡ placed (x ∷ xs) (option_map suc o)
placed-suc x xs None = refl
placed-suc x xs (Some i) = refl

find-step : {A : Type 0} (b : Bool) (x : A) (xs : List A) (o : Option ℕ) (f : Option A) → f ≡ placed xs o → cond b (Some x) f ≡ placed (x ∷ xs) (cond b (Some 0) (option_map suc o))
find-step true x xs o f h = refl
find-step false x xs o f h = h ∙ placed-suc x xs o

pub find-placed : {A : Type 0} (p : A → Bool) (xs : List A) → find p xs ≡ placed xs (first_place p xs)
find-placed p [] = refl
find-placed p (x ∷ xs) = find-step (p x) x xs (first_place p xs) (find p xs) (find-placed p xs)

-- ---- a loop over a list that is mapped

pub list_any_mapped : {A B : Type 0} (f : A → B) (p : B → Bool) (xs : List A) (i : ℕ) (x d : A) → i < length xs → x ≡ get_or xs i d → p (f x) ≡ true → true ≡ list_any p (map f xs)
list_any_mapped f p xs i x d low is here =
    let there : p (f (get_or xs i d)) ≡ true = rw (← is) here in
    sym (list_any-map f p xs ∙ list_any_at (λ x. p (f x)) xs i d low there)
