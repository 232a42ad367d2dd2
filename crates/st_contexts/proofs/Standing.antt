-- What is found at a place is what stands with its number.
use Rattle.std.proofs.Common.{◌≡◌, ℕ, suc, zero, ◌+◌, ◌-◌, ◌<◌, ◌≤◌, List, [], ◌∷◌, ◌++◌, length, get_or, take, drop, reverse, nat_lt, nat_eq, Bool, true, false, Option, Some, None, refl, ap, sym, ◌∙◌, arith, if◌then◌else◌}
use Rattle.std.proofs.lemmas.List.{length-reverse, get_or-reverse, get_or_append_left, reverse-reverse, reverse-append, take-append-drop, append_assoc, length-take-le, length-append, length-drop}
use Rattle.std.proofs.lemmas.Bool.{ltb-true, ltb-false}
use Rattle.object_heap.specs.declared.value.Value.{Value}
use Rattle.object_heap.specs.declared.value.Value.TheVariants.{Nil}
use Rattle.st_contexts.specs.declared.contexts.Slot.{Slot}
use Rattle.st_contexts.specs.Stack.{standing_in, stands_in, outer_in, innermost_of, kept_of, env_of, operands_in, operands_of, operand_at, numbered_at, entry_in}
use Rattle.st_contexts.specs.Marks.{entry_of}
use Rattle.st_contexts.specs.Flat.{standing, standings, Windows, place_in}
use Rattle.st_contexts.proofs.Flatten.{operand_in_window, no_operand_in_window}

-- where a place is found, it is one of the places
pub place_within : (n : ℕ) (us : List Slot) (i : ℕ) → place_in n us ≡ Some i → i < length us
unfolding place_in
place_within n [] i e = cc
place_within n (u ∷ us) i e = within_step (nat_eq n u.number) refl e (λ rest. place_within n us i rest)
  where
    within_step : (b : Bool) → nat_eq n u.number ≡ b → place_in n (u ∷ us) ≡ Some i → (place_in n us ≡ Some i → i < length us) → i < length (u ∷ us)
    within_step true t w ih =
        let whole : Some (length us) ≡ Some i = rw t at w in
        let same : length us ≡ i = cc in
        omega (arith, same)
    within_step false t w ih =
        let rest : place_in n us ≡ Some i = rw t at w in
        omega (arith, ih rest)

-- a slot as it stands, with the values that it and those outside it have
pub record FoundAt (w n : ℕ) (us : List Slot) (vs : List Value) (x : Slot) : Type 0 where
  pub outside : List Slot
  pub above : List Value
  pub values : List Value
  pub whole : vs ≡ above ++ values
  pub windows : Windows w (x ∷ outside) values
  pub found : standing_in n (standings us vs) ≡ Some (standing x (take x.count values))

found_deeper : (w n : ℕ) (u : Slot) (us : List Slot) (vs : List Value) (x : Slot) → nat_eq n u.number ≡ false → FoundAt w n us (drop u.count vs) x → FoundAt w n (u ∷ us) vs x
unfolding standing_in
found_deeper w n u us vs x other f =
    record {
      outside = f.outside;
      above = take u.count vs ++ f.above;
      values = f.values;
      whole = rw (append_assoc (take u.count vs) f.above f.values, ← f.whole) (sym (take-append-drop u.count vs));
      windows = f.windows;
      found = rw other f.found;
    }

found_here : (w n : ℕ) (u : Slot) (us : List Slot) (vs : List Value) → nat_eq n u.number ≡ true → Windows w (u ∷ us) vs → FoundAt w n (u ∷ us) vs u
unfolding standing_in
found_here w n u us vs here h = record { outside = us; above = []; values = vs; whole = refl; windows = h; found = rw here refl }

pub found_at : (w n : ℕ) (us : List Slot) (vs : List Value) (i : ℕ) (d : Slot) → Windows w us vs → place_in n us ≡ Some i → FoundAt w n us vs (get_or us (length us - 1 - i) d)
unfolding place_in
found_at w n [] vs i d h e = cc
found_at w n (u ∷ us) vs i d h e = found_step (nat_eq n u.number) refl e (λ rest. found_at w n us (drop u.count vs) i d h.3 rest)
  where
    found_step : (b : Bool) → nat_eq n u.number ≡ b → place_in n (u ∷ us) ≡ Some i → (place_in n us ≡ Some i → FoundAt w n us (drop u.count vs) (get_or us (length us - 1 - i) d)) → FoundAt w n (u ∷ us) vs (get_or (u ∷ us) (length (u ∷ us) - 1 - i) d)
    found_step true t p ih =
        let whole : Some (length us) ≡ Some i = rw t at p in
        let place : length us ≡ i = cc in
        let first : length (u ∷ us) - 1 - i ≡ 0 = omega (arith, place) in
        rw first (found_here w n u us vs t h)
    found_step false t p ih =
        let rest : place_in n us ≡ Some i = rw t at p in
        let next : length (u ∷ us) - 1 - i ≡ suc (length us - 1 - i) = omega (arith, place_within n us i rest) in
        rw next (found_deeper w n u us vs (get_or us (length us - 1 - i) d) t (ih rest))

pub none_at : (n : ℕ) (us : List Slot) (vs : List Value) → place_in n us ≡ None → standing_in n (standings us vs) ≡ None
unfolding place_in standing_in
none_at n [] vs e = refl
none_at n (u ∷ us) vs e = none_step (nat_eq n u.number) refl e (λ rest. none_at n us (drop u.count vs) rest)
  where
    none_step : (b : Bool) → nat_eq n u.number ≡ b → place_in n (u ∷ us) ≡ None → (place_in n us ≡ None → standing_in n (standings us (drop u.count vs)) ≡ None) → standing_in n (standings (u ∷ us) vs) ≡ None
    none_step true t p ih = let whole : Some (length us) ≡ None = rw t at p in cc
    none_step false t p ih = let rest : place_in n us ≡ None = rw t at p in rw t (ih rest)

operand_of_found : (w k : ℕ) (x : Slot) (outside : List Slot) (above values vs : List Value) → reverse vs ≡ above ++ values → Windows w (x ∷ outside) values → (b : Bool) → nat_lt k x.count ≡ b → (if nat_lt k x.count then get_or vs (x.start + k) Nil else Nil) ≡ operand_at k (take x.count values)
operand_of_found w k x outside above values vs whole h true t =
    let less : k < x.count = ltb-true k x.count t in
    let back : reverse (reverse vs) ≡ reverse (above ++ values) = ap reverse whole in
    let parts : vs ≡ reverse values ++ reverse above = sym (reverse-reverse vs) ∙ back ∙ reverse-append above values in
    let within : x.start + k < length (reverse values) = omega (arith, less, h.1, h.2, length-drop x.count values, length-reverse values) in
    let here : get_or vs (x.start + k) Nil ≡ get_or (reverse values) (x.start + k) Nil = ap (λ l. get_or l (x.start + k) Nil) parts ∙ get_or_append_left (reverse values) (reverse above) Nil (x.start + k) within in
    let h' : Windows w (x ∷ outside) (reverse (reverse values)) = rw (reverse-reverse values) h in
    let window : get_or (reverse values) (x.start + k) Nil ≡ operand_at k (take x.count (reverse (reverse values))) = operand_in_window w k x outside (reverse values) h' in
    let window' : get_or (reverse values) (x.start + k) Nil ≡ operand_at k (take x.count values) = rw (reverse-reverse values) at window in
    rw t (here ∙ window')
operand_of_found w k x outside above values vs whole h false t =
    let more : x.count ≤ k = ltb-false k x.count t in
    let h' : Windows w (x ∷ outside) (reverse (reverse values)) = rw (reverse-reverse values) h in
    let window : Nil ≡ operand_at k (take x.count (reverse (reverse values))) = no_operand_in_window w k x outside (reverse values) h' more in
    let window' : Nil ≡ operand_at k (take x.count values) = rw (reverse-reverse values) at window in
    rw t window'

-- ---- as the code has it

-- the place in the vector
pub found_slot : (w n : ℕ) (ss : List Slot) (vs : List Value) (i : ℕ) (x : Slot) → Windows w (reverse ss) (reverse vs) → Some i ≡ place_in n (reverse ss) → x ≡ get_or ss i x → FoundAt w n (reverse ss) (reverse vs) x
found_slot w n ss vs i x h e is =
    let within : i < length ss = omega (arith, place_within n (reverse ss) i (sym e), length-reverse ss) in
    let at : length (reverse ss) - 1 - i < length ss = omega (arith, length-reverse ss, within) in
    let back : length ss - 1 - (length (reverse ss) - 1 - i) ≡ i = omega (arith, length-reverse ss, within) in
    let turned : get_or (reverse ss) (length (reverse ss) - 1 - i) x ≡ get_or ss (length ss - 1 - (length (reverse ss) - 1 - i)) x = get_or-reverse ss (length (reverse ss) - 1 - i) x at in
    let same : get_or (reverse ss) (length (reverse ss) - 1 - i) x ≡ x = turned ∙ rw back (sym is) in
    rw same at (found_at w n (reverse ss) (reverse vs) i x h (sym e))

pub found_place : (n : ℕ) (ss : List Slot) (i : ℕ) → Some i ≡ place_in n (reverse ss) → i < length ss
found_place n ss i e = omega (arith, place_within n (reverse ss) i (sym e), length-reverse ss)

module _ (w n : ℕ) (ss : List Slot) (vs : List Value) (i : ℕ) (x : Slot) (h : Windows w (reverse ss) (reverse vs)) (e : Some i ≡ place_in n (reverse ss)) (is : x ≡ get_or ss i x) where
  pub code_kept : Some x.kept ≡ kept_of n (standings (reverse ss) (reverse vs))
  code_kept = let f : FoundAt w n (reverse ss) (reverse vs) x = found_slot w n ss vs i x h e is in rw f.found refl

  pub code_env : Some x.env ≡ env_of n (standings (reverse ss) (reverse vs))
  code_env = let f : FoundAt w n (reverse ss) (reverse vs) x = found_slot w n ss vs i x h e is in rw f.found refl

  pub code_operands : x.count ≡ length (operands_of n (standings (reverse ss) (reverse vs)))
  code_operands =
      let f : FoundAt w n (reverse ss) (reverse vs) x = found_slot w n ss vs i x h e is in
      rw (ap operands_in f.found) (sym (length-take-le x.count f.values f.windows.1))

  pub code_operand_within : x.start + x.count ≤ length vs
  code_operand_within =
      let f : FoundAt w n (reverse ss) (reverse vs) x = found_slot w n ss vs i x h e is in
      let size : length (reverse vs) ≡ length (f.above ++ f.values) = ap length f.whole in
      omega (arith, size, length-append f.above f.values, length-reverse vs, length-drop x.count f.values, f.windows.1, f.windows.2)

  pub code_operand : (k : ℕ) → (if nat_lt k x.count then get_or vs (x.start + k) Nil else Nil) ≡ operand_at k (operands_of n (standings (reverse ss) (reverse vs)))
  code_operand k =
      let f : FoundAt w n (reverse ss) (reverse vs) x = found_slot w n ss vs i x h e is in
      rw (ap operands_in f.found) (operand_of_found w k x f.outside f.above f.values vs f.whole f.windows (nat_lt k x.count) refl)

  pub code_entry : nat_eq n 0 ≡ false → entry_of x.number x.kept x.env ≡ entry_in n (standings (reverse ss) (reverse vs))
  code_entry some = let f : FoundAt w n (reverse ss) (reverse vs) x = found_slot w n ss vs i x h e is in rw (some, f.found) refl

module _ (n : ℕ) (ss : List Slot) (vs : List Value) (e : None ≡ place_in n (reverse ss)) where
  pub code_no_kept : None ≡ kept_of n (standings (reverse ss) (reverse vs))
  code_no_kept = rw (none_at n (reverse ss) (reverse vs) (sym e)) refl

  pub code_no_env : None ≡ env_of n (standings (reverse ss) (reverse vs))
  code_no_env = rw (none_at n (reverse ss) (reverse vs) (sym e)) refl

  pub code_no_operands : 0 ≡ length (operands_of n (standings (reverse ss) (reverse vs)))
  code_no_operands = rw (ap operands_in (none_at n (reverse ss) (reverse vs) (sym e))) refl

  pub code_no_operand : (k : ℕ) → Nil ≡ operand_at k (operands_of n (standings (reverse ss) (reverse vs)))
  code_no_operand k = rw (ap operands_in (none_at n (reverse ss) (reverse vs) (sym e))) refl

  pub code_no_entry : nat_eq n 0 ≡ false → None ≡ entry_in n (standings (reverse ss) (reverse vs))
  code_no_entry some = rw (some, none_at n (reverse ss) (reverse vs) (sym e)) refl

-- ---- whether one stands, and what is outside it

pub stands_at : (n : ℕ) (us : List Slot) (vs : List Value) (i : ℕ) → place_in n us ≡ Some i → stands_in n (standings us vs) ≡ true
unfolding place_in stands_in
stands_at n [] vs i e = cc
stands_at n (u ∷ us) vs i e = stands_step (nat_eq n u.number) refl e (λ rest. stands_at n us (drop u.count vs) i rest)
  where
    stands_step : (b : Bool) → nat_eq n u.number ≡ b → place_in n (u ∷ us) ≡ Some i → (place_in n us ≡ Some i → stands_in n (standings us (drop u.count vs)) ≡ true) → stands_in n (standings (u ∷ us) vs) ≡ true
    stands_step true t p ih = rw t refl
    stands_step false t p ih = let rest : place_in n us ≡ Some i = rw t at p in rw t (ih rest)

pub stands_nowhere : (n : ℕ) (us : List Slot) (vs : List Value) → place_in n us ≡ None → stands_in n (standings us vs) ≡ false
unfolding place_in stands_in
stands_nowhere n [] vs e = refl
stands_nowhere n (u ∷ us) vs e = nowhere_step (nat_eq n u.number) refl e (λ rest. stands_nowhere n us (drop u.count vs) rest)
  where
    nowhere_step : (b : Bool) → nat_eq n u.number ≡ b → place_in n (u ∷ us) ≡ None → (place_in n us ≡ None → stands_in n (standings us (drop u.count vs)) ≡ false) → stands_in n (standings (u ∷ us) vs) ≡ false
    nowhere_step true t p ih = let whole : Some (length us) ≡ None = rw t at p in cc
    nowhere_step false t p ih = let rest : place_in n us ≡ None = rw t at p in rw t (ih rest)

-- the number directly outside the place
abbrev pub number_before : List Slot → ℕ → Slot → Option ℕ
number_before us zero d = None
number_before us (suc j) d = Some (get_or us (length us - 1 - j) d).number

first_is : (us : List Slot) (vs : List Value) (d : Slot) → innermost_of (standings us vs) ≡ number_before us (length us) d
first_is [] vs d = refl
first_is (u ∷ us) vs d = let first : length (u ∷ us) - 1 - length us ≡ 0 = omega arith in rw first refl

same_before : (u : Slot) (us : List Slot) (d : Slot) → number_before us (length us) d ≡ number_before (u ∷ us) (length us) d
same_before u [] d = refl
same_before u (v ∷ us) d =
    let next : length (u ∷ v ∷ us) - 1 - length us ≡ suc (length (v ∷ us) - 1 - length us) = omega arith in
    rw next refl

number_deeper : (u : Slot) (us : List Slot) (i : ℕ) (d : Slot) → i < length us → number_before us i d ≡ number_before (u ∷ us) i d
number_deeper u us zero d l = refl
number_deeper u us (suc j) d l =
    let next : length (u ∷ us) - 1 - j ≡ suc (length us - 1 - j) = omega (arith, l) in
    rw next refl

pub outer_at : (n : ℕ) (us : List Slot) (vs : List Value) (i : ℕ) (d : Slot) → place_in n us ≡ Some i → outer_in n (standings us vs) ≡ number_before us i d
unfolding place_in outer_in
outer_at n [] vs i d e = cc
outer_at n (u ∷ us) vs i d e = outer_step (nat_eq n u.number) refl e (λ rest. outer_at n us (drop u.count vs) i d rest)
  where
    outer_step : (b : Bool) → nat_eq n u.number ≡ b → place_in n (u ∷ us) ≡ Some i → (place_in n us ≡ Some i → outer_in n (standings us (drop u.count vs)) ≡ number_before us i d) → outer_in n (standings (u ∷ us) vs) ≡ number_before (u ∷ us) i d
    outer_step true t p ih =
        let whole : Some (length us) ≡ Some i = rw t at p in
        let place : length us ≡ i = cc in
        rw (t, ← place) (first_is us (drop u.count vs) d ∙ same_before u us d)
    outer_step false t p ih =
        let rest : place_in n us ≡ Some i = rw t at p in
        rw t (ih rest ∙ number_deeper u us i d (place_within n us i rest))

pub outer_nowhere : (n : ℕ) (us : List Slot) (vs : List Value) → place_in n us ≡ None → outer_in n (standings us vs) ≡ None
unfolding place_in outer_in
outer_nowhere n [] vs e = refl
outer_nowhere n (u ∷ us) vs e = nowhere_step (nat_eq n u.number) refl e (λ rest. outer_nowhere n us (drop u.count vs) rest)
  where
    nowhere_step : (b : Bool) → nat_eq n u.number ≡ b → place_in n (u ∷ us) ≡ None → (place_in n us ≡ None → outer_in n (standings us (drop u.count vs)) ≡ None) → outer_in n (standings (u ∷ us) vs) ≡ None
    nowhere_step true t p ih = let whole : Some (length us) ≡ None = rw t at p in cc
    nowhere_step false t p ih = let rest : place_in n us ≡ None = rw t at p in rw t (ih rest)

pub code_stands : (n : ℕ) (ss : List Slot) (vs : List Value) (i : ℕ) → Some i ≡ place_in n (reverse ss) → true ≡ stands_in n (standings (reverse ss) (reverse vs))
code_stands n ss vs i e = sym (stands_at n (reverse ss) (reverse vs) i (sym e))

pub code_stands_not : (n : ℕ) (ss : List Slot) (vs : List Value) → None ≡ place_in n (reverse ss) → false ≡ stands_in n (standings (reverse ss) (reverse vs))
code_stands_not n ss vs e = sym (stands_nowhere n (reverse ss) (reverse vs) (sym e))

pub code_outer : (n : ℕ) (ss : List Slot) (vs : List Value) (i : ℕ) (x : Slot) → Some i ≡ place_in n (reverse ss) → 0 < i → x ≡ get_or ss (i - 1) x → Some x.number ≡ outer_in n (standings (reverse ss) (reverse vs))
code_outer n ss vs i x e some is =
    let within : i < length ss = found_place n ss i e in
    let next : i ≡ suc (i - 1) = omega (arith, some) in
    let at : length (reverse ss) - 1 - (i - 1) < length ss = omega (arith, length-reverse ss, within) in
    let back : length ss - 1 - (length (reverse ss) - 1 - (i - 1)) ≡ i - 1 = omega (arith, length-reverse ss, within, some) in
    let turned : get_or (reverse ss) (length (reverse ss) - 1 - (i - 1)) x ≡ get_or ss (length ss - 1 - (length (reverse ss) - 1 - (i - 1))) x = get_or-reverse ss (length (reverse ss) - 1 - (i - 1)) x at in
    let same : get_or (reverse ss) (length (reverse ss) - 1 - (i - 1)) x ≡ x = turned ∙ rw back (sym is) in
    let is_before : outer_in n (standings (reverse ss) (reverse vs)) ≡ number_before (reverse ss) (suc (i - 1)) x = outer_at n (reverse ss) (reverse vs) (suc (i - 1)) x (sym e ∙ ap Some next) in
    sym (is_before ∙ ap (λ y. Some y.number) same)

outermost_at : (n : ℕ) (us : List Slot) (vs : List Value) → place_in n us ≡ Some 0 → outer_in n (standings us vs) ≡ None
unfolding place_in
outermost_at n [] vs e = cc
outermost_at n (u ∷ us) vs e = outer_at n (u ∷ us) vs 0 u e

pub code_outermost : (n : ℕ) (ss : List Slot) (vs : List Value) (i : ℕ) → Some i ≡ place_in n (reverse ss) → i ≤ 0 → None ≡ outer_in n (standings (reverse ss) (reverse vs))
code_outermost n ss vs i e none =
    let first : i ≡ 0 = omega (arith, none) in
    sym (outermost_at n (reverse ss) (reverse vs) (sym e ∙ ap Some first))

pub code_no_outer : (n : ℕ) (ss : List Slot) (vs : List Value) → None ≡ place_in n (reverse ss) → None ≡ outer_in n (standings (reverse ss) (reverse vs))
code_no_outer n ss vs e = sym (outer_nowhere n (reverse ss) (reverse vs) (sym e))

-- ---- by place, the innermost being 0

pub numbered_found : (us : List Slot) (vs : List Value) (k : ℕ) (d : Slot) → k < length us → numbered_at k (standings us vs) ≡ Some (record { number = (get_or us k d).number; env = (get_or us k d).env; kept = (get_or us k d).kept })
numbered_found [] vs k d l = let none : ⊥ = omega (arith, l) in absurd none
numbered_found (u ∷ us) vs zero d l = refl
numbered_found (u ∷ us) vs (suc k) d l = numbered_found us (drop u.count vs) k d (omega (arith, l))

pub numbered_past : (us : List Slot) (vs : List Value) (k : ℕ) → length us ≤ k → numbered_at k (standings us vs) ≡ None
numbered_past [] vs k l = refl
numbered_past (u ∷ us) vs zero l = let none : ⊥ = omega (arith, l) in absurd none
numbered_past (u ∷ us) vs (suc k) l = numbered_past us (drop u.count vs) k (omega (arith, l))

pub code_numbered : (ss : List Slot) (vs : List Value) (k : ℕ) (x : Slot) → k < length ss → x ≡ get_or ss (length ss - 1 - k) x → Some (record { number = x.number; env = x.env; kept = x.kept }) ≡ numbered_at k (standings (reverse ss) (reverse vs))
code_numbered ss vs k x l is =
    let turned : get_or (reverse ss) k x ≡ get_or ss (length ss - 1 - k) x = get_or-reverse ss k x l in
    let same : get_or (reverse ss) k x ≡ x = turned ∙ sym is in
    sym (numbered_found (reverse ss) (reverse vs) k x (omega (arith, l, length-reverse ss)) ∙ ap (λ y. Some (record { number = y.number; env = y.env; kept = y.kept })) same)

pub code_numbered_past : (ss : List Slot) (vs : List Value) (k : ℕ) → length ss ≤ k → None ≡ numbered_at k (standings (reverse ss) (reverse vs))
code_numbered_past ss vs k l = sym (numbered_past (reverse ss) (reverse vs) k (omega (arith, l, length-reverse ss)))
