-- The greatest count of parameters or arguments so far, and of the rest.
use Rattle.std.proofs.Common.{◌≡◌, ℕ, zero, suc, ◌+◌, ◌-◌, ◌<◌, ◌≤◌, ◌^◌, max, min, List, [], ◌∷◌, length, drop, map, slice_get, Option, Some, None, refl, ap, sym, ◌∙◌, arith}
use Rattle.std.proofs.lemmas.List.{drop_all}
use Rattle.st_code.specs.Texts.{Text, arity}
use Rattle.st_code.specs.declared.instruction.Code.{Code}
use Rattle.st_code.specs.Compiled.{seen_code}
use Rattle.st_machine.specs.Plans.{greatest_arity, greatest_parameters}

pub parameters_end : (codes : List Code) (i most : ℕ) → length codes ≤ i → most ≡ max most (greatest_parameters (map seen_code (drop i codes)))
parameters_end codes i most l = rw (drop_all i codes l) (omega arith)

rest_of : (names : List Text) (i : ℕ) (text : Text) → slice_get names i ≡ Some text → drop i names ≡ text ∷ drop (i + 1) names
rest_of [] i text e = absurd (let no : ⊥ = cc in no)
rest_of (name ∷ names) zero text e = let same : name ≡ text = cc in ap (λ (t : Text). t ∷ names) same
rest_of (name ∷ names) (suc i) text e = let more : suc i + 1 ≡ suc (i + 1) = omega arith in rw more (rest_of names i text e)

limited_max : (a b most : ℕ) → max (max most (min a (2 ^ 32 - 1))) (min b (2 ^ 32 - 1)) ≡ max most (min (max a b) (2 ^ 32 - 1))
limited_max a b most = omega arith

pub arity_more : (names : List Text) (i most : ℕ) (text : Text) → slice_get names i ≡ Some text → max (max most (min (arity text) (2 ^ 32 - 1))) (min (greatest_arity (drop (i + 1) names)) (2 ^ 32 - 1)) ≡ max most (min (greatest_arity (drop i names)) (2 ^ 32 - 1))
arity_more names i most text e = rw (rest_of names i text e) (limited_max (arity text) (greatest_arity (drop (i + 1) names)) most)

pub arity_end : (names : List Text) (i most : ℕ) → length names ≤ i → most ≡ max most (min (greatest_arity (drop i names)) (2 ^ 32 - 1))
arity_end names i most l = rw (drop_all i names l) (omega arith)
