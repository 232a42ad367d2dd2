-- The numbers rise with the place, so a search by halves finds the place of one.
use Rattle.std.proofs.Common.{◌≡◌, ◌≢◌, ℕ, suc, zero, ◌+◌, ◌-◌, ◌<◌, ◌≤◌, List, [], ◌∷◌, length, get_or, reverse, nat_lt, nat_eq, Bool, true, false, Some, None, refl, sym, arith}
use Rattle.std.proofs.lemmas.List.{length-reverse, get_or-reverse, get_or_default}
use Rattle.std.proofs.lemmas.Bool.{eq-eqb, ne_eqb, ltb-true, ltb-false}
use Rattle.st_contexts.specs.declared.contexts.Slot.{Slot}
use Rattle.st_contexts.specs.Flat.{Falls, place_in}

pub falls_all : (n : ℕ) (us : List Slot) (d : Slot) (i : ℕ) → Falls n us → i < length us → (get_or us i d).number < n
falls_all n [] d i h l = omega (arith, l)
falls_all n (u ∷ us) d zero h l = h.0
falls_all n (u ∷ us) d (suc i) h l = omega (arith, h.0, falls_all u.number us d i h.1 (omega (arith, l)))

pub falls_at : (n : ℕ) (us : List Slot) (d : Slot) (i j : ℕ) → Falls n us → i < j → j < length us → (get_or us j d).number < (get_or us i d).number
falls_at n [] d i j h l m = omega (arith, m)
falls_at n (u ∷ us) d i zero h l m = omega (arith, l)
falls_at n (u ∷ us) d zero (suc j) h l m = falls_all u.number us d j h.1 (omega (arith, m))
falls_at n (u ∷ us) d (suc i) (suc j) h l m = falls_at u.number us d i j h.1 (omega (arith, l)) (omega (arith, m))

pub rises_at : (n : ℕ) (ss : List Slot) (d : Slot) (i j : ℕ) → Falls n (reverse ss) → i < j → j < length ss → (get_or ss i d).number < (get_or ss j d).number
rises_at n ss d i j h l m =
    let i' : length ss - 1 - (length ss - 1 - i) ≡ i = omega (arith, l, m) in
    let j' : length ss - 1 - (length ss - 1 - j) ≡ j = omega (arith, m) in
    let at_i : get_or (reverse ss) (length ss - 1 - i) d ≡ get_or ss (length ss - 1 - (length ss - 1 - i)) d = get_or-reverse ss (length ss - 1 - i) d (omega (arith, m)) in
    let at_j : get_or (reverse ss) (length ss - 1 - j) d ≡ get_or ss (length ss - 1 - (length ss - 1 - j)) d = get_or-reverse ss (length ss - 1 - j) d (omega (arith, m)) in
    let less : (get_or (reverse ss) (length ss - 1 - i) d).number < (get_or (reverse ss) (length ss - 1 - j) d).number = falls_at n (reverse ss) d (length ss - 1 - j) (length ss - 1 - i) h (omega (arith, l, m)) (omega (arith, length-reverse ss, m)) in
    rw (at_i, at_j, i', j') at less

-- ---- the search by halves

pub place_found : (next n : ℕ) (us : List Slot) (d : Slot) (k : ℕ) → Falls next us → k < length us → (get_or us k d).number ≡ n → place_in n us ≡ Some (length us - 1 - k)
unfolding place_in
place_found next n [] d k h l e = let none : ⊥ = omega (arith, l) in absurd none
place_found next n (u ∷ us) d zero h l e =
    let here : nat_eq n u.number ≡ true = eq-eqb n u.number (sym e) in
    let place : length (u ∷ us) - 1 - 0 ≡ length us = omega arith in
    rw (here, place) refl
place_found next n (u ∷ us) d (suc k) h l e =
    let under : (get_or us k d).number < u.number = falls_all u.number us d k h.1 (omega (arith, l)) in
    let other : nat_eq n u.number ≡ false = ne_eqb n u.number (λ same. let none : ⊥ = omega (arith, same, e, under) in none) in
    let place : length (u ∷ us) - 1 - suc k ≡ length us - 1 - k = omega arith in
    rw (other, place) (place_found u.number n us d k h.1 (omega (arith, l)) e)

pub place_none : (n : ℕ) (us : List Slot) → ((k : ℕ) (d : Slot) → k < length us → (get_or us k d).number ≢ n) → place_in n us ≡ None
unfolding place_in
place_none n [] h = refl
place_none n (u ∷ us) h =
    let other : nat_eq n u.number ≡ false = ne_eqb n u.number (λ e. h 0 u (omega arith) (sym e)) in
    rw other (place_none n us (λ k d l. h (suc k) d (omega (arith, l))))

pub code_place_found : (next n : ℕ) (ss : List Slot) (d : Slot) (k : ℕ) → Falls next (reverse ss) → k < length ss → (get_or ss k d).number ≡ n → place_in n (reverse ss) ≡ Some k
code_place_found next n ss d k h l e =
    let k' : length ss - 1 - (length ss - 1 - k) ≡ k = omega (arith, l) in
    let at_k : get_or (reverse ss) (length ss - 1 - k) d ≡ get_or ss (length ss - 1 - (length ss - 1 - k)) d = get_or-reverse ss (length ss - 1 - k) d (omega (arith, l)) in
    let number : (get_or (reverse ss) (length ss - 1 - k) d).number ≡ n = rw (at_k, k') e in
    let found : place_in n (reverse ss) ≡ Some (length (reverse ss) - 1 - (length ss - 1 - k)) = place_found next n (reverse ss) d (length ss - 1 - k) h (omega (arith, length-reverse ss, l)) number in
    rw (length-reverse ss, k') at found

pub code_place_none : (n : ℕ) (ss : List Slot) → ((k : ℕ) (d : Slot) → k < length ss → (get_or ss k d).number ≢ n) → place_in n (reverse ss) ≡ None
code_place_none n ss h = place_none n (reverse ss) (λ k d l.
    let l' : k < length ss = omega (arith, length-reverse ss, l) in
    rw (get_or-reverse ss k d l') (h (length ss - 1 - k) d (omega (arith, l'))))

-- what a search by halves has shut out
pub record Searched (ss : List Slot) (n low high : ℕ) : Type 0 where
  pub order : low ≤ high
  pub within : high ≤ length ss
  pub below : (k : ℕ) (d : Slot) → k < low → (get_or ss k d).number < n
  pub above : (k : ℕ) (d : Slot) → high ≤ k → k < length ss → n < (get_or ss k d).number

pub searched_up : (next n low high m : ℕ) (ss : List Slot) (e : Slot) → Falls next (reverse ss) → Searched ss n low high → low ≤ m → m < high → (get_or ss m e).number < n → Searched ss n (m + 1) high
searched_up next n low high m ss e falls h lm mh less =
    record {
      order = omega (arith, mh);
      within = h.within;
      below = λ k d l. go k d l (nat_lt k m) refl;
      above = h.above;
    }
  where
    go : (k : ℕ) (d : Slot) → k < m + 1 → (b : Bool) → nat_lt k m ≡ b → (get_or ss k d).number < n
    go k d l true t =
        let here : get_or ss m d ≡ get_or ss m e = get_or_default ss m d e (omega (arith, mh, h.within)) in
        let under : (get_or ss k d).number < (get_or ss m d).number = rises_at next ss d k m falls (ltb-true k m t) (omega (arith, mh, h.within)) in
        let under_it : (get_or ss k d).number < (get_or ss m e).number = rw here at under in
        omega (arith, under_it, less)
    go k d l false t =
        let same : k ≡ m = omega (arith, l, ltb-false k m t) in
        let here : get_or ss m d ≡ get_or ss m e = get_or_default ss m d e (omega (arith, mh, h.within)) in
        rw (same, here) less

pub searched_down : (next n low high m : ℕ) (ss : List Slot) (e : Slot) → Falls next (reverse ss) → Searched ss n low high → low ≤ m → m < high → n ≤ (get_or ss m e).number → (get_or ss m e).number ≢ n → Searched ss n low m
searched_down next n low high m ss e falls h lm mh least other =
    record {
      order = lm;
      within = omega (arith, mh, h.within);
      below = h.below;
      above = λ k d l lk. go k d l lk (nat_lt m k) refl;
    }
  where
    go : (k : ℕ) (d : Slot) → m ≤ k → k < length ss → (b : Bool) → nat_lt m k ≡ b → n < (get_or ss k d).number
    go k d l lk true t =
        let here : get_or ss m d ≡ get_or ss m e = get_or_default ss m d e (omega (arith, mh, h.within)) in
        let over : (get_or ss m d).number < (get_or ss k d).number = rises_at next ss d m k falls (ltb-true m k t) lk in
        let over_it : (get_or ss m e).number < (get_or ss k d).number = rw here at over in
        omega (arith, over_it, least)
    go k d l lk false t =
        let same : k ≡ m = omega (arith, l, ltb-false m k t) in
        let here : get_or ss m d ≡ get_or ss m e = get_or_default ss m d e (omega (arith, mh, h.within)) in
        let more : n < (get_or ss m e).number = omega (arith, least, other) in
        rw (same, here) more

pub searched_none : (n low high : ℕ) (ss : List Slot) → Searched ss n low high → high ≤ low → (k : ℕ) (d : Slot) → k < length ss → (get_or ss k d).number ≢ n
searched_none n low high ss h l k d lk e = go (nat_lt k low) refl
  where
    go : (b : Bool) → nat_lt k low ≡ b → ⊥
    go true t = omega (arith, h.below k d (ltb-true k low t), e)
    go false t = omega (arith, h.above k d (omega (arith, l, ltb-false k low t)) lk, e)
