-- Lists with further items between their first ones: what is read, added and set.
use Rattle.std.proofs.Common.{◌≡◌, ℕ, zero, suc, ◌+◌, ◌≤◌, ◌<◌, List, [], ◌∷◌, ◌++◌, map, length, get_or, slice_get, slice_set, Option, Some, None, nat_eq, refl, sym, ap, ◌∙◌, arith}
use Rattle.std.specs.Option.{option_map}
use Rattle.std.proofs.lemmas.List.{map-append, length-map}
use Rattle.law_shake.specs.Renaming.{spread, placed, taken}

module _ {A B : Type 0} (f : A → B) where
  pub map_read : (xs : List A) (n : ℕ) (a : A) → get_or (map f xs) n (f a) ≡ f (get_or xs n a)
  map_read [] n a = refl
  map_read (x ∷ xs) zero a = refl
  map_read (x ∷ xs) (suc n) a = map_read xs n a

  pub map_get : (xs : List A) (n : ℕ) → slice_get (map f xs) n ≡ option_map f (slice_get xs n)
  map_get [] n = refl
  map_get (x ∷ xs) zero = refl
  map_get (x ∷ xs) (suc n) = map_get xs n

  pub map_set : (xs : List A) (n : ℕ) (a : A) → slice_set (map f xs) n (f a) ≡ map f (slice_set xs n a)
  map_set [] n a = refl
  map_set (x ∷ xs) zero a = refl
  map_set (x ∷ xs) (suc n) a = ap (λ ys. f x ∷ ys) (map_set xs n a)

  pub read : (pattern : List (Option B)) (xs : List A) (n : ℕ) (a : A) → get_or (spread f pattern xs) (placed pattern n) (f a) ≡ f (get_or xs n a)
  unfolding spread placed
  read [] xs n a = map_read xs n a
  read (Some b ∷ pattern) xs n a = read pattern xs n a
  read (None ∷ pattern) [] zero a = refl
  read (None ∷ pattern) [] (suc n) a = refl
  read (None ∷ pattern) (x ∷ xs) zero a = refl
  read (None ∷ pattern) (x ∷ xs) (suc n) a = read pattern xs n a

  pub put : (pattern : List (Option B)) (xs : List A) (n : ℕ) (a : A) → slice_set (spread f pattern xs) (placed pattern n) (f a) ≡ spread f pattern (slice_set xs n a)
  unfolding spread placed
  put [] xs n a = map_set xs n a
  put (Some b ∷ pattern) xs n a = ap (λ ys. b ∷ ys) (put pattern xs n a)
  put (None ∷ pattern) [] zero a = refl
  put (None ∷ pattern) [] (suc n) a = refl
  put (None ∷ pattern) (x ∷ xs) zero a = refl
  put (None ∷ pattern) (x ∷ xs) (suc n) a = ap (λ ys. f x ∷ ys) (put pattern xs n a)

  pub added : (pattern : List (Option B)) (xs ys : List A) → taken pattern ≤ length xs → spread f pattern (xs ++ ys) ≡ spread f pattern xs ++ map f ys
  unfolding spread taken
  added [] xs ys h = map-append f xs ys
  added (Some b ∷ pattern) xs ys h = ap (λ zs. b ∷ zs) (added pattern xs ys h)
  added (None ∷ pattern) [] ys h = absurd (omega (arith, h))
  added (None ∷ pattern) (x ∷ xs) ys h = ap (λ zs. f x ∷ zs) (added pattern xs ys (omega (arith, h)))

  pub spread_length : (pattern : List (Option B)) (xs : List A) → taken pattern ≤ length xs → length (spread f pattern xs) ≡ placed pattern (length xs)
  unfolding spread placed taken
  spread_length [] xs h = length-map xs f
  spread_length (Some b ∷ pattern) xs h = ap suc (spread_length pattern xs h)
  spread_length (None ∷ pattern) [] h = absurd (omega (arith, h))
  spread_length (None ∷ pattern) (x ∷ xs) h = ap suc (spread_length pattern xs (omega (arith, h)))

-- places of different numbers differ
pub placed_apart : {B : Type 0} (pattern : List (Option B)) (m n : ℕ) → nat_eq (placed pattern m) (placed pattern n) ≡ nat_eq m n
unfolding placed
placed_apart [] m n = refl
placed_apart (Some b ∷ pattern) m n = let h = placed_apart pattern m n in grind arith
placed_apart (None ∷ pattern) zero zero = refl
placed_apart (None ∷ pattern) zero (suc n) = grind arith
placed_apart (None ∷ pattern) (suc m) zero = grind arith
placed_apart (None ∷ pattern) (suc m) (suc n) = let h = placed_apart pattern m n in grind arith

-- ---- patterns one behind the other

module _ {A B : Type 0} (f : A → B) where
  pub spread_kept : (bs : List B) (pattern : List (Option B)) (xs ys : List A) → length bs ≡ length xs → spread f (map (λ b. None) bs ++ pattern) (xs ++ ys) ≡ map f xs ++ spread f pattern ys
  unfolding spread
  spread_kept [] pattern [] ys e = refl
  spread_kept [] pattern (x ∷ xs) ys e = absurd (omega (arith, e))
  spread_kept (b ∷ bs) pattern [] ys e = absurd (omega (arith, e))
  spread_kept (b ∷ bs) pattern (x ∷ xs) ys e = ap (λ zs. f x ∷ zs) (spread_kept bs pattern xs ys (omega (arith, e)))

  pub spread_dropped : (bs : List B) (pattern : List (Option B)) (xs : List A) → spread f (map Some bs ++ pattern) xs ≡ bs ++ spread f pattern xs
  unfolding spread
  spread_dropped [] pattern xs = refl
  spread_dropped (b ∷ bs) pattern xs = ap (λ zs. b ∷ zs) (spread_dropped bs pattern xs)

module _ {B : Type 0} where
  pub placed_kept : (bs : List B) (pattern : List (Option B)) (k : ℕ) → placed (map (λ b. None) bs ++ pattern) (length bs + k) ≡ length bs + placed pattern k
  unfolding placed
  placed_kept [] pattern k = let e : 0 + k ≡ k = omega arith in let d : 0 + placed pattern k ≡ placed pattern k = omega arith in ap (placed pattern) e ∙ sym d
  placed_kept (b ∷ bs) pattern k =
      let e : suc (length bs) + k ≡ suc (length bs + k) = omega arith in
      let d : suc (length bs + placed pattern k) ≡ suc (length bs) + placed pattern k = omega arith in
      ap (placed (None ∷ map (λ b. None) bs ++ pattern)) e ∙ ap suc (placed_kept bs pattern k) ∙ d

  pub placed_first : (bs : List B) (pattern : List (Option B)) (k : ℕ) → k < length bs → placed (map (λ b. None) bs ++ pattern) k ≡ k
  unfolding placed
  placed_first [] pattern k l = absurd (omega (arith, l))
  placed_first (b ∷ bs) pattern zero l = refl
  placed_first (b ∷ bs) pattern (suc k) l = ap suc (placed_first bs pattern k (omega (arith, l)))

  pub placed_dropped : (bs : List B) (pattern : List (Option B)) (k : ℕ) → placed (map Some bs ++ pattern) k ≡ length bs + placed pattern k
  unfolding placed
  placed_dropped [] pattern k = omega arith
  placed_dropped (b ∷ bs) pattern k = let d : suc (length bs + placed pattern k) ≡ suc (length bs) + placed pattern k = omega arith in ap suc (placed_dropped bs pattern k) ∙ d

  pub taken_kept : (bs : List B) (pattern : List (Option B)) → taken (map (λ b. None) bs ++ pattern) ≡ length bs + taken pattern
  unfolding taken
  taken_kept [] pattern = omega arith
  taken_kept (b ∷ bs) pattern = let d : suc (length bs + taken pattern) ≡ suc (length bs) + taken pattern = omega arith in ap suc (taken_kept bs pattern) ∙ d

  pub taken_dropped : (bs : List B) (pattern : List (Option B)) → taken (map Some bs ++ pattern) ≡ taken pattern
  unfolding taken
  taken_dropped [] pattern = refl
  taken_dropped (b ∷ bs) pattern = taken_dropped bs pattern

  -- behind the pattern
  pub placed_after : (pattern : List (Option B)) (n k : ℕ) → taken pattern ≤ n → placed pattern (n + k) ≡ placed pattern n + k
  unfolding placed taken
  placed_after [] n k h = refl
  placed_after (Some b ∷ pattern) n k h = let d : suc (placed pattern n + k) ≡ suc (placed pattern n) + k = omega arith in ap suc (placed_after pattern n k h) ∙ d
  placed_after (None ∷ pattern) zero k h = absurd (omega (arith, h))
  placed_after (None ∷ pattern) (suc n) k h =
      let e : suc n + k ≡ suc (n + k) = omega arith in
      let d : suc (placed pattern n + k) ≡ suc (placed pattern n) + k = omega arith in
      ap (placed (None ∷ pattern)) e ∙ ap suc (placed_after pattern n k (omega (arith, h))) ∙ d
