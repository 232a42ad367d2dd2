-- Lists of names, a name at a time.
use Rattle.std.proofs.Common.{◌≡◌, ◌+◌, ◌<◌, ℕ, Bool, true, false, ◌||◌, not, cond, List, [], ◌∷◌, ◌++◌, length, get_or, take, drop, map, Option, Some, None, eqb, is_some, if◌then◌else◌, refl, sym, ap, ◌∙◌, arith}
use Rattle.std.specs.Str.{bytes_eq}
use Rattle.std.specs.List.{list_any}
use Rattle.std.proofs.lemmas.List.{take_more, take-append-drop, map_push}
use Rattle.std.proofs.lemmas.Bool.Decides.{nat_tests}
use Rattle.indexmap.specs.IndexSet.{insert_key}
use Rattle.st_checks.specs.Declarations.{Text, repeats}
use Rattle.st_checks.specs.Lists.{distinct}
use Rattle.st_checks.proofs.Places.{list_any-map}

eqb-sym : (m n : ℕ) → eqb m n ≡ eqb n m
eqb-sym m n = grind (arith, nat_tests)

pub bytes_eq-sym : (xs ys : List ℕ) → bytes_eq xs ys ≡ bytes_eq ys xs
bytes_eq-sym [] [] = refl
bytes_eq-sym [] (y ∷ ys) = refl
bytes_eq-sym (x ∷ xs) [] = refl
bytes_eq-sym (x ∷ xs) (y ∷ ys) =
    let first : eqb x y ≡ eqb y x = eqb-sym x y in
    let more : bytes_eq xs ys ≡ bytes_eq ys xs = bytes_eq-sym xs ys in
    rw (first, more) refl

insert-cond : {K X : Type 0} → (f : K → X) (b : Bool) (k : K) (ks : List K) → map f (cond b ks (ks ++ k ∷ [])) ≡ cond b (map f ks) (map f ks ++ f k ∷ [])
insert-cond f true k ks = refl
insert-cond f false k ks = map_push f ks k

-- what a set has after a name is added, as texts
pub insert_key-texts : {K : Type 0} → (f : K → Text) (ks : List K) (k : K) → map f (insert_key (λ a b. bytes_eq (f a) (f b)) ks k) ≡ (if list_any (bytes_eq (f k)) (map f ks) then map f ks else map f ks ++ f k ∷ [])
insert_key-texts f ks k = insert-cond f (list_any (λ b. bytes_eq (f k) (f b)) ks) k ks ∙ ap (λ (b : Bool). cond b (map f ks) (map f ks ++ f k ∷ [])) (sym (list_any-map f (bytes_eq (f k)) ks))

or-push : (a b c d : Bool) → ((a || (b || false)) || (c || d)) ≡ ((a || c) || (b || d))
or-push true b c d = refl
or-push false true true d = refl
or-push false true false d = refl
or-push false false true d = refl
or-push false false false d = refl

or-assoc : (a b c e : Bool) → b ≡ (c || e) → (a || b) ≡ ((a || c) || e)
or-assoc true b c e h = refl
or-assoc false b c e h = h

pub or-right : (a : Bool) → (a || true) ≡ true
or-right true = refl
or-right false = refl

list_any_push : (p : Text → Bool) (xs : List Text) (y : Text) → list_any p (xs ++ y ∷ []) ≡ (list_any p xs || (p y || false))
list_any_push p [] y = refl
list_any_push p (x ∷ xs) y = or-assoc (p x) (list_any p (xs ++ y ∷ [])) (list_any p xs) (p y || false) (list_any_push p xs y)

repeats_push : (xs : List Text) (y : Text) → repeats (xs ++ y ∷ []) ≡ (repeats xs || list_any (bytes_eq y) xs)
repeats_push [] y = refl
repeats_push (x ∷ xs) y =
    let more : repeats (xs ++ y ∷ []) ≡ (repeats xs || list_any (bytes_eq y) xs) = repeats_push xs y in
    let here : list_any (bytes_eq x) (xs ++ y ∷ []) ≡ (list_any (bytes_eq x) xs || (bytes_eq x y || false)) = list_any_push (bytes_eq x) xs y in
    let turned : bytes_eq x y ≡ bytes_eq y x = bytes_eq-sym x y in
    rw (here, more, turned) (or-push (list_any (bytes_eq x) xs) (bytes_eq y x) (repeats xs) (list_any (bytes_eq y) xs))

repeats_more : (xs : List Text) (i : ℕ) (d : Text) → i < length xs → repeats (take (i + 1) xs) ≡ (repeats (take i xs) || list_any (bytes_eq (get_or xs i d)) (take i xs))
repeats_more xs i d low = rw (take_more xs i d low) (repeats_push (take i xs) (get_or xs i d))

or-true : (a b c : Bool) → (b ≡ true → c ≡ true) → (a || b) ≡ true → (a || c) ≡ true
or-true true b c more h = refl
or-true false b c more h = more h

or-either : (a b c e : Bool) → (a ≡ true → c ≡ true) → (b ≡ true → e ≡ true) → (a || b) ≡ true → (c || e) ≡ true
or-either true b c e f g h = rw (f refl) refl
or-either false b true e f g h = refl
or-either false b false e f g h = g h

list_any-front : (p : Text → Bool) (xs ys : List Text) → list_any p xs ≡ true → list_any p (xs ++ ys) ≡ true
list_any-front p [] ys h = absurd (cc)
list_any-front p (x ∷ xs) ys h = or-true (p x) (list_any p xs) (list_any p (xs ++ ys)) (list_any-front p xs ys) h

repeats-front : (xs ys : List Text) → repeats xs ≡ true → repeats (xs ++ ys) ≡ true
repeats-front [] ys h = absurd (cc)
repeats-front (x ∷ xs) ys h = or-either (list_any (bytes_eq x) xs) (repeats xs) (list_any (bytes_eq x) (xs ++ ys)) (repeats (xs ++ ys)) (list_any-front (bytes_eq x) xs ys) (repeats-front xs ys) h

pub repeats_kept : (n : ℕ) (xs : List Text) → repeats (take n xs) ≡ true → repeats xs ≡ true
repeats_kept n xs h =
    let whole : take n xs ++ drop n xs ≡ xs = take-append-drop n xs in
    rw (← whole) (repeats-front (take n xs) (drop n xs) h)

not-false : (b : Bool) → false ≡ not b → b ≡ true
not-false true h = refl
not-false false h = absurd (cc)

not-true : (b : Bool) → true ≡ not b → b ≡ false
not-true true h = absurd (cc)
not-true false h = refl

-- a name that stands before it in the list
pub distinct_none : (xs set : List Text) (i : ℕ) (x d : Text) → i < length xs → x ≡ get_or xs i d → set ≡ take i xs → false ≡ not (list_any (bytes_eq x) set) → None ≡ distinct xs
distinct_none xs set i x d low is same there =
    let here : list_any (bytes_eq (get_or xs i d)) set ≡ true = rw (← is) (not-false (list_any (bytes_eq x) set) there) in
    let front : repeats (take (i + 1) xs) ≡ true = repeats_more xs i d low ∙ rw (← same, here) (or-right (repeats set)) in
    rw (repeats_kept (i + 1) xs front) refl

-- a name that doesn't
pub distinct_more : (xs set new : List Text) (i : ℕ) (x d : Text) → i < length xs → x ≡ get_or xs i d → (set ≡ take i xs) × (repeats (take i xs) ≡ false) → true ≡ not (list_any (bytes_eq x) set)
    → new ≡ (if list_any (bytes_eq x) set then set else set ++ x ∷ []) → (new ≡ take (i + 1) xs) × (repeats (take (i + 1) xs) ≡ false)
distinct_more xs set new i x d low is so_far there gained =
    let apart : list_any (bytes_eq x) set ≡ false = not-true (list_any (bytes_eq x) set) there in
    let same : set ≡ take i xs = so_far.0 in
    (gained ∙ rw (apart, take_more xs i d low, ← is, ← same) refl, repeats_more xs i d low ∙ rw (so_far.1, ← same, ← is, apart) refl)

distinct-cases : (b : Bool) (names set : List Text) → Some set ≡ cond b None (Some names) → (b ≡ false) × (set ≡ names)
distinct-cases true names set h = absurd (cc)
distinct-cases false names set h = (refl, cc)

distinct-absent : (b : Bool) (names : List Text) → None ≡ cond b None (Some names) → b ≡ true
distinct-absent true names h = refl
distinct-absent false names h = absurd (cc)

-- what is known of a list by its set
pub distinct-some : (names set : List Text) → Some set ≡ distinct names → (repeats names ≡ false) × (set ≡ names)
distinct-some names set h = distinct-cases (repeats names) names set h

pub distinct-none : (names : List Text) → None ≡ distinct names → repeats names ≡ true
distinct-none names h = distinct-absent (repeats names) names h

is-none : (b r : Bool) (names : List Text) → is_some (cond r None (Some names)) ≡ not b → b ≡ r
is-none true true names h = refl
is-none true false names h = absurd (cc)
is-none false true names h = absurd (cc)
is-none false false names h = refl

pub distinct-is_none : (names : List Text) (o : Option (List Text)) (b : Bool) → is_some o ≡ not b → o ≡ distinct names → b ≡ repeats names
distinct-is_none names o b none is = is-none b (repeats names) names (ap is_some (sym is) ∙ none)
