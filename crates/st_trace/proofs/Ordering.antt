-- The numbers that are open fall outwards, and a turn that is open is so behind one more.
use Rattle.std.proofs.Common.{◌≡◌, ℕ, ◌<◌, ◌≤◌, List, [], ◌∷◌, Some, Bool, true, false, ap, ◌∙◌, arith, nat_eq, if◌then◌else◌, eq-eqb, ne_eqb, eqb-true, refl}
use Rattle.st_trace.specs.Automaton.{Item, handled_by, turn_inside}

-- the numbers fall outwards, from below a bound
abbrev pub Ordered : ℕ → List Item → Type 0
Ordered b [] = Unit {0}
Ordered b (i ∷ is) = (i.number < b) × Ordered i.number is

pub ordered_later : (a b : ℕ) (is : List Item) → a ≤ b → Ordered a is → Ordered b is
ordered_later a b [] le h = tt
ordered_later a b (i ∷ is) le h = (omega (arith, h.0, le), h.1)

-- a test for a number at itself
pub here : {A : Type 0} (n : ℕ) (x y : A) → (if nat_eq n n then x else y) ≡ x
here n x y = ap (λ c. if c then x else y) (eq-eqb n n refl)

-- ---- turns that are open

below_bound : (k b : ℕ) (is : List Item) (x : List ℕ) → Ordered b is → turn_inside k is ≡ Some x → k < b
below_bound k b [] x o e = let none : ⊥ = grind (arith, e) in absurd none
below_bound k b (i ∷ is) x o e = go (nat_eq k i.number) refl (below_bound k i.number is x o.1) e
  where
    go : (c : Bool) → nat_eq k i.number ≡ c → (turn_inside k is ≡ Some x → k < i.number) → (if c then handled_by i.kind i.inside else turn_inside k is) ≡ Some x → k < b
    go true y on z = let s : k ≡ i.number = eqb-true k i.number y in omega (arith, s, o.0)
    go false y on z = let s : k < i.number = on z in omega (arith, s, o.0)

-- one that is open is so behind one more
pub turn_behind : (k b : ℕ) (i : Item) (is : List Item) (x : List ℕ) → Ordered b (i ∷ is) → turn_inside k is ≡ Some x → turn_inside k (i ∷ is) ≡ Some x
turn_behind k b i is x o e =
    let s : k < i.number = below_bound k i.number is x o.1 e in
    let ne : nat_eq k i.number ≡ false = ne_eqb k i.number (λ q. let none : ⊥ = omega (arith, q, s) in none) in
    ap (λ c. if c then handled_by i.kind i.inside else turn_inside k is) ne ∙ e
