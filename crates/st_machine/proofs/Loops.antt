-- What the loops over operands, scopes and variables keep.
use Rattle.std.proofs.Common.{◌≡◌, ℕ, suc, zero, ◌+◌, ◌-◌, ◌<◌, ◌≤◌, List, [], ◌∷◌, ◌++◌, length, get_or, drop, reverse, Bool, true, false, Option, Some, None, refl, ap, arith}
use Rattle.std.proofs.lemmas.List.{drop_more, drop_all, reverse-append}
use Rattle.object_heap.specs.declared.value.Value.{Value}
use Rattle.object_heap.specs.declared.value.Value.TheVariants.{Nil}
use Rattle.object_heap.specs.Store.{Store, scope_at, with_variable}
use Rattle.object_heap.specs.Charges.{Memory, with_store}
use Rattle.st_contexts.specs.Stack.{Stack, value_pushed, value_popped, top_value}
use Rattle.st_collections.specs.Actions.{first}
use Rattle.st_rules.specs.State.{scope_up, count_true}
use Rattle.st_machine.specs.Operands.{taken, but_first, own_pushed}
use Rattle.st_machine.specs.Scopes.{captured_put}

-- ---- operands that are taken

pub taken_step : (n : ℕ) (s s' : Stack) (v : Value) (vs ws : List Value) → 0 < n → s' ≡ value_popped s → v ≡ top_value s → ws ≡ vs ++ v ∷ [] → taken (n - 1) s' (reverse ws) ≡ taken n s (reverse vs)
unfolding taken
taken_step zero s s' v vs ws l e f g = let none : ⊥ = omega (arith, l) in absurd none
taken_step (suc n) s s' v vs ws l e f g =
    let less : suc n - 1 ≡ n = omega arith in
    rw (less, e, g, reverse-append vs (v ∷ []), f) refl

pub taken_end : (n : ℕ) (s : Stack) (vs : List Value) → n ≤ 0 → taken n s vs ≡ record { stack = s; values = vs }
unfolding taken
taken_end zero s vs l = refl
taken_end (suc n) s vs l = let none : ⊥ = omega (arith, l) in absurd none

-- ---- arguments by their place

pub first_at : (vs : List Value) (i : ℕ) → get_or vs i Nil ≡ first (drop i vs)
first_at [] zero = refl
first_at [] (suc i) = refl
first_at (v ∷ vs) zero = refl
first_at (v ∷ vs) (suc i) = first_at vs i

pub rest_at : (vs : List Value) (i : ℕ) → drop (i + 1) vs ≡ but_first (drop i vs)
rest_at [] zero = refl
rest_at [] (suc i) =
    let more : suc i + 1 ≡ suc (i + 1) = omega arith in
    rw more refl
rest_at (v ∷ vs) zero = refl
rest_at (v ∷ vs) (suc i) =
    let more : suc i + 1 ≡ suc (i + 1) = omega arith in
    rw more (rest_at vs i)

-- ---- variables that no block names

own_by : (c : Bool) (captured : List Bool) (vs : List Value) (i : ℕ) (s s' : Stack) → c ≡ false → s' ≡ value_pushed (get_or vs i Nil) s → own_pushed captured (drop (i + 1) vs) s' ≡ own_pushed (c ∷ captured) (drop i vs) s
unfolding own_pushed
own_by c captured vs i s s' free e = rw (free, e, first_at vs i, rest_at vs i) refl

own_past : (c : Bool) (captured : List Bool) (vs : List Value) (i : ℕ) (s : Stack) → c ≡ true → own_pushed captured (drop (i + 1) vs) s ≡ own_pushed (c ∷ captured) (drop i vs) s
unfolding own_pushed
own_past c captured vs i s caught = rw (caught, rest_at vs i) refl

pub own_step : (captured : List Bool) (vs : List Value) (i : ℕ) (d : Bool) (s s' : Stack) → i < length captured → get_or captured i d ≡ false → s' ≡ value_pushed (get_or vs i Nil) s → own_pushed (drop (i + 1) captured) (drop (i + 1) vs) s' ≡ own_pushed (drop i captured) (drop i vs) s
own_step captured vs i d s s' l free e = rw (drop_more captured i d l) (own_by (get_or captured i d) (drop (i + 1) captured) vs i s s' free e)

pub own_stay : (captured : List Bool) (vs : List Value) (i : ℕ) (d : Bool) (s : Stack) → i < length captured → get_or captured i d ≡ true → own_pushed (drop (i + 1) captured) (drop (i + 1) vs) s ≡ own_pushed (drop i captured) (drop i vs) s
own_stay captured vs i d s l caught = rw (drop_more captured i d l) (own_past (get_or captured i d) (drop (i + 1) captured) vs i s caught)

pub own_end : (captured : List Bool) (ws : List Value) (i : ℕ) (s : Stack) → length captured ≤ i → own_pushed (drop i captured) ws s ≡ s
unfolding own_pushed
own_end captured ws i s l = rw (drop_all i captured l) refl

-- ---- variables that a block names

put_by : (c : Bool) (captured : List Bool) (vs : List Value) (i scope k : ℕ) (s : Store) → c ≡ true → captured_put captured (drop (i + 1) vs) scope (k + 1) (with_variable scope k (get_or vs i Nil) s) ≡ captured_put (c ∷ captured) (drop i vs) scope k s
unfolding captured_put
put_by c captured vs i scope k s caught =
    let more : k + 1 ≡ suc k = omega arith in
    rw (caught, more, first_at vs i, rest_at vs i) refl

put_past : (c : Bool) (captured : List Bool) (vs : List Value) (i scope k : ℕ) (s : Store) → c ≡ false → captured_put captured (drop (i + 1) vs) scope k s ≡ captured_put (c ∷ captured) (drop i vs) scope k s
unfolding captured_put
put_past c captured vs i scope k s free = rw (free, rest_at vs i) refl

pub put_step : (captured : List Bool) (vs : List Value) (i : ℕ) (d : Bool) (scope k : ℕ) (s : Store) → i < length captured → get_or captured i d ≡ true → captured_put (drop (i + 1) captured) (drop (i + 1) vs) scope (k + 1) (with_variable scope k (get_or vs i Nil) s) ≡ captured_put (drop i captured) (drop i vs) scope k s
put_step captured vs i d scope k s l caught = rw (drop_more captured i d l) (put_by (get_or captured i d) (drop (i + 1) captured) vs i scope k s caught)

pub put_stay : (captured : List Bool) (vs : List Value) (i : ℕ) (d : Bool) (scope k : ℕ) (s : Store) → i < length captured → get_or captured i d ≡ false → captured_put (drop (i + 1) captured) (drop (i + 1) vs) scope k s ≡ captured_put (drop i captured) (drop i vs) scope k s
put_stay captured vs i d scope k s l free = rw (drop_more captured i d l) (put_past (get_or captured i d) (drop (i + 1) captured) vs i scope k s free)

pub put_end : (captured : List Bool) (ws : List Value) (i scope k : ℕ) (s : Store) → length captured ≤ i → captured_put (drop i captured) ws scope k s ≡ s
unfolding captured_put
put_end captured ws i scope k s l = rw (drop_all i captured l) refl

pub put_more : (captured : List Bool) (vs : List Value) (i : ℕ) (d : Bool) (scope k k' : ℕ) (v : Value) (m m' : Memory) → i < length captured → get_or captured i d ≡ true → v ≡ get_or vs i Nil → k' ≡ k + 1 → m' ≡ with_store (with_variable scope k v m.store) m
    → with_store (captured_put (drop (i + 1) captured) (drop (i + 1) vs) scope k' m'.store) m' ≡ with_store (captured_put (drop i captured) (drop i vs) scope k m.store) m
put_more captured vs i d scope k k' v m m' l caught is more e = rw (e, more, is) (ap (λ s. with_store s m) (put_step captured vs i d scope k m.store l caught))

pub put_none : (captured : List Bool) (vs : List Value) (i : ℕ) (d : Bool) (scope k k' : ℕ) (m m' : Memory) → i < length captured → get_or captured i d ≡ false → k' ≡ k → m' ≡ m
    → with_store (captured_put (drop (i + 1) captured) (drop (i + 1) vs) scope k' m'.store) m' ≡ with_store (captured_put (drop i captured) (drop i vs) scope k m.store) m
put_none captured vs i d scope k k' m m' l free more e = rw (e, more) (ap (λ s. with_store s m) (put_stay captured vs i d scope k m.store l free))

-- ---- a count of those that a block names

count_by : (c : Bool) (bs : List Bool) → c ≡ true → count_true (c ∷ bs) ≡ count_true bs + 1
unfolding count_true
count_by c bs caught = rw caught (omega arith)

count_past : (c : Bool) (bs : List Bool) → c ≡ false → count_true (c ∷ bs) ≡ count_true bs
unfolding count_true
count_past c bs free = rw free refl

pub count_step : (bs : List Bool) (i : ℕ) (d : Bool) → i < length bs → get_or bs i d ≡ true → count_true (drop i bs) ≡ count_true (drop (i + 1) bs) + 1
count_step bs i d l caught = rw (drop_more bs i d l) (count_by (get_or bs i d) (drop (i + 1) bs) caught)

pub count_stay : (bs : List Bool) (i : ℕ) (d : Bool) → i < length bs → get_or bs i d ≡ false → count_true (drop i bs) ≡ count_true (drop (i + 1) bs)
count_stay bs i d l free = rw (drop_more bs i d l) (count_past (get_or bs i d) (drop (i + 1) bs) free)

pub count_end : (bs : List Bool) (i : ℕ) → length bs ≤ i → count_true (drop i bs) ≡ 0
unfolding count_true
count_end bs i l = rw (drop_all i bs l) refl

-- ---- scopes outwards

pub up_step : (n : ℕ) (scope : ℕ) (s : Store) → 0 < n → scope_up s (n - 1) (scope_at scope s).outer ≡ scope_up s n (Some scope)
unfolding scope_up
up_step zero scope s l = let none : ⊥ = omega (arith, l) in absurd none
up_step (suc n) scope s l =
    let less : suc n - 1 ≡ n = omega arith in
    rw less refl

pub up_none : (n : ℕ) (s : Store) → 0 < n → None ≡ scope_up s n None
unfolding scope_up
up_none zero s l = let none : ⊥ = omega (arith, l) in absurd none
up_none (suc n) s l = refl

pub up_end : (n : ℕ) (scope : Option ℕ) (s : Store) → n ≤ 0 → scope_up s n scope ≡ scope
unfolding scope_up
up_end zero scope s l = refl
up_end (suc n) scope s l = let none : ⊥ = omega (arith, l) in absurd none
