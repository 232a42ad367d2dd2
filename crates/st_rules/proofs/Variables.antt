-- The variables of a body by place: those that a block names stand in a scope, the others are its first operands.
use Rattle.std.proofs.Common.{◌≡◌, ℕ, zero, suc, ◌-◌, ◌<◌, ◌≤◌, List, [], ◌∷◌, ◌++◌, length, get_or, set, reverse, Bool, true, false, refl, sym, ap, ◌∙◌, arith, true≢false}
use Rattle.std.proofs.lemmas.List.{reverse-append, reverse-reverse, get_or_append_left, set-append_left}
use Rattle.object_heap.specs.declared.value.Value.{Value}
use Rattle.object_heap.specs.declared.value.Value.TheVariants.{Nil}
use Rattle.st_code.specs.Compiled.{any_captured, count_uncaptured}
use Rattle.st_rules.specs.State.{first_variables}
use Rattle.st_rules.specs.Flat.{own_variables, captured_variables, operand_at, with_operand}

-- how many of the first so many variables are captured, and how many aren't
abbrev pub captured_place : ℕ → List Bool → ℕ
captured_place zero captured = 0
captured_place (suc n) [] = 0
captured_place (suc n) (true ∷ captured) = suc (captured_place n captured)
captured_place (suc n) (false ∷ captured) = captured_place n captured

abbrev pub own_place : ℕ → List Bool → ℕ
own_place zero captured = 0
own_place (suc n) [] = suc n
own_place (suc n) (true ∷ captured) = own_place n captured
own_place (suc n) (false ∷ captured) = suc (own_place n captured)

captured_place_least : (n : ℕ) (c : List Bool) → captured_place n c ≤ n
captured_place_least zero c = omega arith
captured_place_least (suc n) [] = omega arith
captured_place_least (suc n) (true ∷ c) = let h = captured_place_least n c in omega arith
captured_place_least (suc n) (false ∷ c) = let h = captured_place_least n c in omega arith

pub own_place_is : (n : ℕ) (c : List Bool) → own_place n c ≡ n - captured_place n c
own_place_is zero c = omega arith
own_place_is (suc n) [] = omega arith
own_place_is (suc n) (true ∷ c) = let h = own_place_is n c in let l = captured_place_least n c in omega arith
own_place_is (suc n) (false ∷ c) = let h = own_place_is n c in let l = captured_place_least n c in omega arith

other_way : {A : Type 0} → false ≡ true → A
other_way e = let none : ⊥ = true≢false (sym e) in absurd none

-- ---- captured variables

pub captured_read : (c : List Bool) (vs : List Value) (n : ℕ) → get_or c n false ≡ true → get_or (captured_variables c vs) (captured_place n c) Nil ≡ get_or vs n Nil
unfolding captured_variables
captured_read [] vs n e = other_way e
captured_read (b ∷ c) [] n e = refl
captured_read (true ∷ c) (v ∷ vs) zero e = refl
captured_read (false ∷ c) (v ∷ vs) zero e = other_way e
captured_read (true ∷ c) (v ∷ vs) (suc n) e = captured_read c vs n e
captured_read (false ∷ c) (v ∷ vs) (suc n) e = captured_read c vs n e

pub captured_written : (c : List Bool) (vs : List Value) (n : ℕ) (v : Value) → get_or c n false ≡ true → captured_variables c (set vs n v) ≡ set (captured_variables c vs) (captured_place n c) v
unfolding captured_variables
captured_written [] vs n v e = refl
captured_written (b ∷ c) [] n v e = refl
captured_written (true ∷ c) (u ∷ vs) zero v e = refl
captured_written (false ∷ c) (u ∷ vs) zero v e = other_way e
captured_written (true ∷ c) (u ∷ vs) (suc n) v e = ap (λ us. u ∷ us) (captured_written c vs n v e)
captured_written (false ∷ c) (u ∷ vs) (suc n) v e = captured_written c vs n v e

pub own_unchanged : (c : List Bool) (vs : List Value) (n : ℕ) (v : Value) → get_or c n false ≡ true → own_variables c (set vs n v) ≡ own_variables c vs
unfolding own_variables
own_unchanged [] vs n v e = refl
own_unchanged (b ∷ c) [] n v e = refl
own_unchanged (true ∷ c) (u ∷ vs) zero v e = refl
own_unchanged (false ∷ c) (u ∷ vs) zero v e = other_way e
own_unchanged (true ∷ c) (u ∷ vs) (suc n) v e = own_unchanged c vs n v e
own_unchanged (false ∷ c) (u ∷ vs) (suc n) v e = ap (λ us. u ∷ us) (own_unchanged c vs n v e)

pub some_captured : (c : List Bool) (n : ℕ) → get_or c n false ≡ true → any_captured c ≡ true
some_captured [] n e = other_way e
some_captured (true ∷ c) n e = refl
some_captured (false ∷ c) zero e = other_way e
some_captured (false ∷ c) (suc n) e = some_captured c n e

-- ---- own variables

pub own_read : (c : List Bool) (vs : List Value) (n : ℕ) → get_or c n false ≡ false → n < length c → length vs ≡ length c → (own_place n c < length (own_variables c vs)) × (get_or (own_variables c vs) (own_place n c) Nil ≡ get_or vs n Nil)
unfolding own_variables
own_read [] vs n e l s = let none : ⊥ = omega (arith, l) in absurd none
own_read (b ∷ c) [] n e l s = let none : ⊥ = omega (arith, s) in absurd none
own_read (true ∷ c) (v ∷ vs) zero e l s = other_way (sym e)
own_read (false ∷ c) (v ∷ vs) zero e l s = (omega arith, refl)
own_read (true ∷ c) (v ∷ vs) (suc n) e l s = own_read c vs n e (omega (arith, l)) (omega (arith, s))
own_read (false ∷ c) (v ∷ vs) (suc n) e l s = let h = own_read c vs n e (omega (arith, l)) (omega (arith, s)) in (omega (arith, h.0), h.1)

own_set : (c : List Bool) (vs : List Value) (n : ℕ) (v : Value) → get_or c n false ≡ false → own_variables c (set vs n v) ≡ set (own_variables c vs) (own_place n c) v
unfolding own_variables
own_set [] vs n v e = refl
own_set (b ∷ c) [] n v e = refl
own_set (true ∷ c) (u ∷ vs) zero v e = other_way (sym e)
own_set (false ∷ c) (u ∷ vs) zero v e = refl
own_set (true ∷ c) (u ∷ vs) (suc n) v e = own_set c vs n v e
own_set (false ∷ c) (u ∷ vs) (suc n) v e = ap (λ us. u ∷ us) (own_set c vs n v e)

pub captured_unchanged : (c : List Bool) (vs : List Value) (n : ℕ) (v : Value) → get_or c n false ≡ false → captured_variables c (set vs n v) ≡ captured_variables c vs
unfolding captured_variables
captured_unchanged [] vs n v e = refl
captured_unchanged (b ∷ c) [] n v e = refl
captured_unchanged (true ∷ c) (u ∷ vs) zero v e = other_way (sym e)
captured_unchanged (false ∷ c) (u ∷ vs) zero v e = refl
captured_unchanged (true ∷ c) (u ∷ vs) (suc n) v e = ap (λ us. u ∷ us) (captured_unchanged c vs n v e)
captured_unchanged (false ∷ c) (u ∷ vs) (suc n) v e = captured_unchanged c vs n v e

-- ---- sizes

pub captured_there : (c : List Bool) (vs : List Value) (n : ℕ) → get_or c n false ≡ true → length vs ≡ length c → captured_place n c < length (captured_variables c vs)
unfolding captured_variables
captured_there [] vs n e s = other_way e
captured_there (b ∷ c) [] n e s = let none : ⊥ = omega (arith, s) in absurd none
captured_there (true ∷ c) (v ∷ vs) zero e s = omega arith
captured_there (false ∷ c) (v ∷ vs) zero e s = other_way e
captured_there (true ∷ c) (v ∷ vs) (suc n) e s = let h = captured_there c vs n e (omega (arith, s)) in omega (arith, h)
captured_there (false ∷ c) (v ∷ vs) (suc n) e s = captured_there c vs n e (omega (arith, s))

pub own_size : (c : List Bool) (vs : List Value) → length vs ≡ length c → length (own_variables c vs) ≡ count_uncaptured c
unfolding own_variables
own_size [] vs s = refl
own_size (b ∷ c) [] s = let none : ⊥ = omega (arith, s) in absurd none
own_size (true ∷ c) (v ∷ vs) s = own_size c vs (omega (arith, s))
own_size (false ∷ c) (v ∷ vs) s = ap suc (own_size c vs (omega (arith, s)))

pub first_size : (c : List Bool) (args : List Value) → length (first_variables c args) ≡ length c
unfolding first_variables
first_size [] args = refl
first_size (b ∷ c) [] = ap suc (first_size c [])
first_size (b ∷ c) (v ∷ args) = ap suc (first_size c args)

-- ---- the own variables as the first operands, below these

turned : (above own : List Value) → reverse (above ++ reverse own) ≡ own ++ reverse above
turned above own = reverse-append above (reverse own) ∙ ap (λ vs. vs ++ reverse above) (reverse-reverse own)

pub operand_read : (c : List Bool) (vs above : List Value) (n : ℕ) → get_or c n false ≡ false → n < length c → length vs ≡ length c → operand_at (n - captured_place n c) (above ++ reverse (own_variables c vs)) ≡ get_or vs n Nil
unfolding operand_at
operand_read c vs above n e l s =
    let h = own_read c vs n e l s in
    let own = own_variables c vs in
    ap (λ k. get_or (reverse (above ++ reverse own)) k Nil) (sym (own_place_is n c))
    ∙ ap (λ us. get_or us (own_place n c) Nil) (turned above own)
    ∙ get_or_append_left own (reverse above) Nil (own_place n c) h.0
    ∙ h.1

pub operand_written : (c : List Bool) (vs above : List Value) (n : ℕ) (v : Value) → get_or c n false ≡ false → n < length c → length vs ≡ length c → with_operand (n - captured_place n c) v (above ++ reverse (own_variables c vs)) ≡ above ++ reverse (own_variables c (set vs n v))
unfolding with_operand
operand_written c vs above n v e l s =
    let h = own_read c vs n e l s in
    let own = own_variables c vs in
    ap (λ k. reverse (set (reverse (above ++ reverse own)) k v)) (sym (own_place_is n c))
    ∙ ap (λ us. reverse (set us (own_place n c) v)) (turned above own)
    ∙ ap reverse (set-append_left own (reverse above) (own_place n c) v h.0)
    ∙ reverse-append (set own (own_place n c) v) (reverse above)
    ∙ ap (λ us. us ++ reverse (set own (own_place n c) v)) (reverse-reverse above)
    ∙ ap (λ us. above ++ reverse us) (sym (own_set c vs n v e))
