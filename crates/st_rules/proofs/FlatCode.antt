-- The code of bodies as the flat machine has it: instructions by position, and the room that operands take.
use Rattle.std.proofs.Common.{◌≡◌, ℕ, zero, suc, ◌+◌, ◌-◌, ◌<◌, ◌≤◌, max, ◌⊎◌, inl, inr, List, [], ◌∷◌, map, drop, length, get_or, slice_get, Some, Bool, true, false, refl, sym, ap, ◌∙◌, subst, arith, nat_lt, ltb-true, ltb-false, if◌then◌else◌}
use Rattle.st_code.specs.declared.instruction.Instruction.{Instruction}
use Rattle.st_code.specs.declared.instruction.Instruction.TheVariants as instruction
use Rattle.st_code.specs.Program.{Program, Body, body_at}
use Rattle.st_code.specs.Code.{Instr, PushConstant, PushSelf, Pop, Dup, PushVariable, Store, SendMessage, SendSuper, MakeBlock, MethodReturn, HomeReturn, BlockEnd, code_body}
use Rattle.st_code.specs.Compiled.{Compiled, count_uncaptured, instruction_of, compiled_body, compile_of}
use Rattle.st_rules.specs.Flat.{no_code, code_at, greatest_width}
use Rattle.st_rules.proofs.Flattening.{standing_after, most, whole, captured}

-- ---- code that is left

pub record Taken {A : Type 0} (before : ℕ) (xs : List A) (i : A) (rest : List A) : Type 0 where
  pub there : slice_get xs before ≡ Some i
  pub left : drop (suc before) xs ≡ rest
  pub size : before + suc (length rest) ≡ length xs

pub taken_off : {A : Type 0} (before : ℕ) (xs : List A) (i : A) (rest : List A) → drop before xs ≡ i ∷ rest → Taken before xs i rest
taken_off {A} zero xs i rest e = subst (λ ys. Taken zero ys i rest) (sym e) (record { there = refl; left = refl; size = omega arith })
taken_off {A} (suc before) [] i rest e = let none : ⊥ = grind (arith, e) in absurd none
taken_off {A} (suc before) (x ∷ xs) i rest e = let h = taken_off before xs i rest e in record { there = h.there; left = h.left; size = omega (arith, h.size) }

-- ---- operands

pub most_least : (is : List Instr) (n : ℕ) → n ≤ most is n
most_least [] n = omega arith
most_least (i ∷ is) n = omega arith

abbrev after : Instruction → ℕ → ℕ
after (instruction.PushConstant c) n = suc n
after instruction.PushSelf n = suc n
after (instruction.PushVariable v) n = suc n
after (instruction.Store v) n = n
after instruction.Pop n = n - 1
after instruction.Dup n = suc n
after (instruction.Send selector count) n = n - count
after (instruction.SuperSend selector count) n = n - count
after (instruction.MakeBlock code) n = suc n
after instruction.MethodReturn n = n - 1
after instruction.HomeReturn n = n - 1
after instruction.BlockEnd n = n - 1

abbrev most_of : List Instruction → ℕ → ℕ
most_of [] n = n
most_of (i ∷ is) n = max n (most_of is (after i n))

after_same : (p : Program) (code : ℕ) (i : Instr) (n : ℕ) → after (instruction_of p code i) n ≡ standing_after i n
after_same p code (PushConstant v) n = refl
after_same p code PushSelf n = refl
after_same p code Pop n = refl
after_same p code Dup n = refl
after_same p code (PushVariable place) n = refl
after_same p code (Store place) n = refl
after_same p code (SendMessage selector count) n = refl
after_same p code (SendSuper selector count) n = refl
after_same p code (MakeBlock m) n = refl
after_same p code MethodReturn n = refl
after_same p code HomeReturn n = refl
after_same p code BlockEnd n = refl

most_same : (p : Program) (code : ℕ) (is : List Instr) (n : ℕ) → most_of (map (instruction_of p code) is) n ≡ most is n
most_same p code [] n = refl
most_same p code (i ∷ is) n = ap (λ k. max n (most_of (map (instruction_of p code) is) k)) (after_same p code i n) ∙ ap (λ k. max n k) (most_same p code is (standing_after i n))

width_is : (p : Program) (code : ℕ) (body : Body) → (compiled_body p code body).width ≡ count_uncaptured body.captured + most (code_body body.kind body.statements) 0
unfolding compiled_body
width_is p code body = ap (λ k. count_uncaptured body.captured + k) (most_same p code (code_body body.kind body.statements) 0)

-- ---- codes by number

abbrev compiled_list : Program → ℕ → List Body → List Compiled
compiled_list p code [] = []
compiled_list p code (body ∷ bodies) = compiled_body p code body ∷ compiled_list p (suc code) bodies

pub list_size : (p : Program) (k : ℕ) (bodies : List Body) → length (compiled_list p k bodies) ≡ length bodies
list_size p k [] = refl
list_size p k (body ∷ bodies) = ap suc (list_size p (suc k) bodies)

listed : (p : Program) (k i : ℕ) (bodies : List Body) (d : Body) → i < length bodies → get_or (compiled_list p k bodies) i no_code ≡ compiled_body p (k + i) (get_or bodies i d)
listed p k i [] d l = let none : ⊥ = omega (arith, l) in absurd none
listed p k zero (body ∷ bodies) d l = let e : k ≡ k + 0 = omega arith in ap (λ n. compiled_body p n body) e
listed p k (suc i) (body ∷ bodies) d l =
    let e : suc k + i ≡ k + suc i = omega arith in
    listed p (suc k) i bodies d (omega (arith, l)) ∙ ap (λ n. compiled_body p n (get_or bodies i d)) e

pub code_is : (p : Program) (code : ℕ) → code < length p.bodies → code_at (compile_of p) code ≡ compiled_body p code (body_at p code)
unfolding code_at compile_of body_at
code_is p code l = let e : 0 + code ≡ code = omega arith in listed p 0 code p.bodies _ l ∙ ap (λ n. compiled_body p n (body_at p code)) e

greater : (b : Bool) (m n k : ℕ) → nat_lt m n ≡ b → (k ≤ m) ⊎ (k ≤ n) → k ≤ (if b then n else m)
greater true m n k e (inl l) = omega (arith, l, ltb-true m n e)
greater true m n k e (inr l) = l
greater false m n k e (inl l) = l
greater false m n k e (inr l) = omega (arith, l, ltb-false m n e)

greatest : (cs : List Compiled) (i : ℕ) → i < length cs → (get_or cs i no_code).width ≤ greatest_width cs
greatest [] i l = let none : ⊥ = omega (arith, l) in absurd none
greatest (c ∷ cs) zero l = greater (nat_lt (greatest_width cs) c.width) (greatest_width cs) c.width c.width refl (inr (omega arith))
greatest (c ∷ cs) (suc i) l = greater (nat_lt (greatest_width cs) c.width) (greatest_width cs) c.width (get_or cs i no_code).width refl (inl (greatest cs i (omega (arith, l))))

pub room_for : (p : Program) (code : ℕ) → code < length p.bodies → count_uncaptured (captured p code) + most (whole p code) 0 ≤ greatest_width (compile_of p)
unfolding code_at compile_of
room_for p code l =
    let w : (code_at (compile_of p) code).width ≤ greatest_width (compile_of p) = greatest (compile_of p) code (omega (arith, l, list_size p 0 p.bodies)) in
    subst (λ k. k ≤ greatest_width (compile_of p)) (ap (λ (c : Compiled). c.width) (code_is p code l) ∙ width_is p code (body_at p code)) w
