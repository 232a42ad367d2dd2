-- Codes that have few instructions, and selectors whose arguments can be counted.
use Rattle.std.proofs.Common.{◌≡◌, ℕ, zero, suc, ◌+◌, ◌-◌, ◌<◌, ◌≤◌, ◌^◌, Bool, true, false, ◌&&◌, List, [], ◌∷◌, length, drop, nat_lt, slice_get, Some, Result, Ok, Err, IfOk, refl, ap, sym, ◌∙◌, arith}
use Rattle.std.proofs.lemmas.Bool.{ltb-true}
use Rattle.std.proofs.lemmas.Bool.Decides.{nat_tests}
use Rattle.std.proofs.lemmas.List.{drop_all}
use Rattle.st_code.specs.Compiled.{Compiled}
use Rattle.st_code.specs.Texts.{Text, arity}
use Rattle.st_rules.specs.Flat.{code_at}
use Rattle.st_machine.specs.Plans.{program_in, greatest_arity}
use Rattle.st_machine.specs.Seen.{Plan}
use Rattle.st_opening.specs.Opened.{are_counted, are_few, HasRoom, HaveFew}

and-left : (a b : Bool) → (a && b) ≡ true → a ≡ true
and-left true b is = refl
and-left false b is = is

and-right : (a b : Bool) → (a && b) ≡ true → b ≡ true
and-right true b is = is
and-right false b is = absurd (grind (arith, is))

-- ---- instructions

lengths-of : (codes : List Compiled) → are_few codes ≡ true → (code : ℕ) → length (code_at codes code).instructions < 2 ^ 22
unfolding code_at
lengths-of [] is code = omega arith
lengths-of (c ∷ codes) is zero = ltb-true (length c.instructions) (2 ^ 22) (and-left (nat_lt (length c.instructions) (2 ^ 22)) (are_few codes) is)
lengths-of (c ∷ codes) is (suc code) = lengths-of codes (and-right (nat_lt (length c.instructions) (2 ^ 22)) (are_few codes) is) code

pub have-few : (codes : List Compiled) → are_few codes ≡ true → HaveFew codes
have-few codes is = record { lengths = lengths-of codes is }

-- ---- arguments

arities-below : (names : List Text) → are_counted names ≡ true → greatest_arity names < 2 ^ 32 - 1
arities-below [] is = omega arith
arities-below (name ∷ names) is =
    let here : arity name < 2 ^ 32 - 1 = ltb-true (arity name) (2 ^ 32 - 1) (and-left (nat_lt (arity name) (2 ^ 32 - 1)) (are_counted names) is) in
    let there : greatest_arity names < 2 ^ 32 - 1 = arities-below names (and-right (nat_lt (arity name) (2 ^ 32 - 1)) (are_counted names) is) in
    omega (arith, here, there)

pub has-room : (plan : Plan) → are_counted (program_in plan).names ≡ true → HasRoom plan
has-room plan is =
    let below : greatest_arity (program_in plan).names < 2 ^ 32 - 1 = arities-below (program_in plan).names is in
    record { arities = omega (arith, below) }

rest-of : (names : List Text) (i : ℕ) (text : Text) → slice_get names i ≡ Some text → drop i names ≡ text ∷ drop (i + 1) names
rest-of [] i text e = absurd (let no : ⊥ = cc in no)
rest-of (name ∷ names) zero text e = let same : name ≡ text = cc in ap (λ (t : Text). t ∷ names) same
rest-of (name ∷ names) (suc i) text e = let more : suc i + 1 ≡ suc (i + 1) = omega arith in rw more (rest-of names i text e)

-- one more name that takes few
pub counted-more : (names : List Text) (i : ℕ) (text : Text) → slice_get names i ≡ Some text → arity text < 2 ^ 32 - 1 → are_counted (drop (i + 1) names) ≡ are_counted (drop i names)
counted-more names i text e few =
    let is : nat_lt (arity text) (2 ^ 32 - 1) ≡ true = grind (arith, few, nat_tests) in
    sym (ap are_counted (rest-of names i text e) ∙ ap (λ b. b && are_counted (drop (i + 1) names)) is)

-- and one that takes more
pub counted-less : (names : List Text) (i : ℕ) (text : Text) → slice_get names i ≡ Some text → 2 ^ 32 - 1 ≤ arity text → are_counted (drop i names) ≡ false
counted-less names i text e many =
    let is : nat_lt (arity text) (2 ^ 32 - 1) ≡ false = grind (arith, many, nat_tests) in
    ap are_counted (rest-of names i text e) ∙ ap (λ b. b && are_counted (drop (i + 1) names)) is

pub counted-end : (names : List Text) (i : ℕ) → length names ≤ i → are_counted (drop i names) ≡ true
counted-end names i l = ap are_counted (drop_all i names l)

pub if-any : {A E : Type 0} → (r : Result A E) (P : Type 0) → P → IfOk r (λ _. P)
if-any (Ok a) P p = p
if-any (Err e) P p = tt
