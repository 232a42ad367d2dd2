-- Literals that are gathered one behind the other.
use Rattle.std.proofs.Common.{◌≡◌, ℕ, suc, ◌+◌, ◌<◌, ◌≤◌, List, [], ◌∷◌, ◌++◌, drop, length, get_or, refl, ap, sym, ◌∙◌, Option, Some, None, OnOk, Result, subst, arith}
use Rattle.std.proofs.Math.Seq.{drop-cons}
use Rattle.std.proofs.lemmas.List.{drop_all, append_assoc, append-nil}
use Rattle.st_tree.specs.declared.units.Unit.{Unit}
use Rattle.st_code.specs.Named.{Literal, NamedUnit}
use Rattle.st_code.specs.Written.{named_unit, named_units, with_named}
use Rattle.st_literals.specs.Gathered.{kind_literals, units_literals}

-- some literals, and those behind them
pub gathered-both : (old new xs ys zs : List Literal) → new ≡ old ++ xs → zs ≡ xs ++ ys → new ++ ys ≡ old ++ zs
gathered-both old new xs ys zs is all = rw (is, all) (append_assoc old xs ys)

-- a last call that gathers those behind
pub gathered-then : {R E : Type 0} → (r : Result R E) (old new last ys zs : List Literal) → OnOk r (last ≡ new ++ ys) → new ++ ys ≡ old ++ zs → OnOk r (last ≡ old ++ zs)
gathered-then r old new last ys zs is all = subst (λ n. OnOk r (last ≡ n)) all is

-- a loop that gathers the literals of each item
pub gathered-next : {X : Type 0} → (literals : List X → List Literal) (of_one : X → List Literal) → ((x : X) (xs : List X) → literals (x ∷ xs) ≡ of_one x ++ literals xs)
    → (now new whole : List Literal) (items : List X) (i : ℕ) (x : X) → x ≡ get_or items i x → i < length items
    → now ++ literals (drop i items) ≡ whole → new ≡ now ++ of_one x → new ++ literals (drop (i + 1) items) ≡ whole
gathered-next literals of_one one now new whole items i x there low sofar is =
    let next : suc i ≡ i + 1 = omega arith in
    let ahead : literals (drop i items) ≡ of_one x ++ literals (drop (suc i) items) = ap literals (drop-cons items i x low) ∙ ap (λ y. literals (y ∷ drop (suc i) items)) (sym there) ∙ one x (drop (suc i) items) in
    subst (λ n. new ++ literals (drop n items) ≡ whole) next (gathered-both now new (of_one x) (literals (drop (suc i) items)) (literals (drop i items)) is ahead ∙ sofar)

pub gathered-end : {X : Type 0} → (literals : List X → List Literal) → literals [] ≡ [] → (now whole : List Literal) (items : List X) (i : ℕ) → length items ≤ i → now ++ literals (drop i items) ≡ whole → now ≡ whole
gathered-end literals none now whole items i past sofar = sym (ap (λ ls. now ++ ls) (ap literals (drop_all i items past) ∙ none) ∙ append-nil now) ∙ sofar

kind-first : (o : Option NamedUnit) (units : List NamedUnit) → units_literals (with_named o units) ≡ kind_literals o ++ units_literals units
kind-first None units = refl
kind-first (Some u) units = refl

-- those of a unit, and those behind it
pub unit-first : (u : Unit) (units : List Unit) → units_literals (named_units (u ∷ units)) ≡ kind_literals (named_unit u) ++ units_literals (named_units units)
unfolding named_units
unit-first u units = kind-first (named_unit u) (named_units units)
