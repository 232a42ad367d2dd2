-- The first break, a unit at a time.
use Rattle.std.proofs.Common.{◌≡◌, ◌+◌, ◌-◌, ◌^◌, ◌<◌, ◌≤◌, ℕ, List, [], length, get_or, take, drop, lit≤, None, Some, refl, sym, ◌∙◌, arith, add-one}
use Rattle.std.specs.Option.{option_map, option_or}
use Rattle.std.proofs.Math.Seq.{drop-cons}
use Rattle.std.proofs.lemmas.List.{nil_from_length, length-drop}
use Rattle.st_tree.specs.Numbers.{unit, element_of, elements_in, elements_of, elements_of_kind}
use Rattle.st_tree.specs.declared.units.UnitKind.{UnitKind}
use Rattle.st_tree.specs.declared.units.UnitKind.TheVariants as kinds
use Rattle.std.proofs.lemmas.List.Sums.{sum_by_more_le}
use Rattle.st_tree.specs.declared.units.Unit.{Unit}
use Rattle.st_checks.specs.StaticRules.{Fault, break_of, unit_fault, first_break_from, first_break}

pub first_break_init : (units : List Unit) → first_break units ≡ first_break_from units 0 (drop 0 units)
unfolding first_break
first_break_init units = refl

unit-first : (units : List Unit) (i : ℕ) (u d : Unit) → i < length units → u ≡ get_or units i d
    → first_break_from units i (drop i units) ≡ option_or (option_map (break_of (element_of units i)) (unit_fault units i u.kind)) (first_break_from units (i + 1) (drop (i + 1) units))
unit-first units i u d low is = rw (drop-cons units i d low, ← is, add-one i) refl

pub first_break_more : (units : List Unit) (i : ℕ) (u d : Unit) → i < length units → u ≡ get_or units i d → unit_fault units i u.kind ≡ None
    → first_break units ≡ first_break_from units i (drop i units) → first_break units ≡ first_break_from units (i + 1) (drop (i + 1) units)
first_break_more units i u d low is none so_far = so_far ∙ unit-first units i u d low is ∙ rw none refl

pub first_break_here : (units : List Unit) (i : ℕ) (u d : Unit) (f : Fault) → i < length units → u ≡ get_or units i d → unit_fault units i u.kind ≡ Some f
    → first_break units ≡ first_break_from units i (drop i units) → Some (break_of (element_of units i) f) ≡ first_break units
first_break_here units i u d f low is some so_far = sym (so_far ∙ unit-first units i u d low is ∙ rw some refl)

pub first_break_none : (units : List Unit) (i : ℕ) → length units ≤ i → first_break units ≡ first_break_from units i (drop i units) → None ≡ first_break units
first_break_none units i past so_far =
    let none : drop i units ≡ [] = nil_from_length (drop i units) (omega (arith, length-drop i units)) in
    sym (so_far ∙ rw none refl)

one_element : (k : UnitKind) → 1 ≤ elements_of_kind k
one_element k = elim k as (λ k. 1 ≤ elements_of_kind k) [ kinds.Version t ↦ lit≤ tt | _ ↦ lit≤ tt ]

-- a unit that is there leaves room for its second element
pub element_fits : (units : List Unit) (n : ℕ) → n < length units → elements_in units < 2 ^ 32 - 1 → element_of units n + 1 < 2 ^ 32
element_fits units n low few =
    let d : Unit = unit (kinds.Comment []) [] in
    let within : elements_in (take n units) + elements_of (get_or units n d) ≤ elements_in units = sum_by_more_le elements_of units n d low in
    let one : 1 ≤ elements_of_kind (get_or units n d).kind = one_element (get_or units n d).kind in
    omega arith
