-- Where a text stands among names, as keys and as lists.
use Rattle.std.proofs.Common.{◌≡◌, ◌+◌, ℕ, Bool, List, [], ◌∷◌, ◌++◌, map, Some, cond, refl, ap, sym, ◌∙◌, length, not, ltb, ◌||◌, true, false, suc, ◌<◌, arith}
use Rattle.std.proofs.lemmas.Option.{cond_some}
use borrow.Author.Tests.{ltb-true}
use Rattle.indexmap.specs.IndexSet.{insert_key}
use Rattle.std.specs.List.{position, position_or_len, prefix_len, list_any}
use Rattle.std.proofs.lemmas.List.{length-map, map_push}

pub prefix_len-map : {K X : Type 0} → (f : K → X) (p : X → Bool) (ks : List K) → prefix_len p (map f ks) ≡ prefix_len (λ k. p (f k)) ks
prefix_len-map f p [] = refl
prefix_len-map f p (k ∷ ks) = ap (λ (n : ℕ). cond (p (f k)) (1 + n) 0) (prefix_len-map f p ks)

pub position_or_len-map : {K X : Type 0} → (f : K → X) (p : X → Bool) (ks : List K) → position_or_len p (map f ks) ≡ position_or_len (λ k. p (f k)) ks
position_or_len-map f p ks = prefix_len-map f (λ x. not (p x)) ks

pub position-map : {K X : Type 0} → (f : K → X) (p : X → Bool) (ks : List K) → position p (map f ks) ≡ position (λ k. p (f k)) ks
position-map f p ks = rw (position_or_len-map f p ks, length-map ks f) refl

pub list_any-map : {K X : Type 0} → (f : K → X) (p : X → Bool) (ks : List K) → list_any p (map f ks) ≡ list_any (λ k. p (f k)) ks
list_any-map f p [] = refl
list_any-map f p (k ∷ ks) = ap (λ (b : Bool). p (f k) || b) (list_any-map f p ks)

insert-cond : {K X : Type 0} → (f : K → X) (b : Bool) (k : K) (ks : List K) → map f (cond b ks (ks ++ k ∷ [])) ≡ cond b (map f ks) (map f ks ++ f k ∷ [])
insert-cond f true k ks = refl
insert-cond f false k ks = map_push f ks k

pub insert_key-map : {K X : Type 0} → (f : K → X) (e : X → X → Bool) (ks : List K) (k : K) → map f (insert_key (λ a b. e (f a) (f b)) ks k) ≡ insert_key e (map f ks) (f k)
insert_key-map f e ks k = insert-cond f (list_any (λ b. e (f k) (f b)) ks) k ks ∙ ap (λ (b : Bool). cond b (map f ks) (map f ks ++ f k ∷ [])) (sym (list_any-map f (e (f k)) ks))

found-first : (b l : Bool) (n m : ℕ) → cond (not b) (1 + n) 0 < suc m → (n < m → l ≡ true) → (b || l) ≡ true
found-first true l n m low rest = refl
found-first false l n m low rest = rest (omega arith)

pub found : {X : Type 0} → (p : X → Bool) (xs : List X) → position_or_len p xs < length xs → list_any p xs ≡ true
found p [] low = absurd (omega arith)
found p (x ∷ xs) low = found-first (p x) (list_any p xs) (position_or_len p xs) (length xs) low (found p xs)

-- a text that has a number is added by doing nothing
pub insert_key-there : (e : List ℕ → List ℕ → Bool) (names : List (List ℕ)) (text : List ℕ) (n : ℕ) → Some n ≡ position (e text) names → names ≡ insert_key e names text
insert_key-there e names text n is =
    let low = ltb-true (position_or_len (e text) names) (length names) (cond_some (ltb (position_or_len (e text) names) (length names)) (position_or_len (e text) names) n (sym is)).0 in
    rw (found (e text) names low) refl
