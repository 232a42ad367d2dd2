-- A class with those above it, a class at a time.
use Rattle.std.proofs.Common.{◌≡◌, ◌+◌, ◌-◌, ◌<◌, ◌≤◌, ℕ, zero, suc, List, [], ◌∷◌, ◌++◌, length, Option, Some, None, refl, sym, ap, ◌∙◌, arith, append_assoc, append-nil}
use Rattle.st_tree.specs.declared.units.ClassUnit.{ClassUnit}
use Rattle.st_tree.specs.declared.units.Unit.{Unit}
use Rattle.st_checks.specs.Declarations.{Text, class_named, from_class, ancestors}

from_none : (n : ℕ) (units : List Unit) → from_class n units None ≡ []
from_none zero units = refl
from_none (suc n) units = refl

pub ancestors_init : (units : List Unit) (name : Text) (n : ℕ) (o : Option ClassUnit) → n ≡ length units → o ≡ class_named units name → from_class (n - 0) units o ≡ ancestors units name
unfolding ancestors
ancestors_init units name n o all is =
    let same : n - 0 ≡ length units = omega arith in
    rw (same, is) refl

pub ancestors_none : (units : List Unit) (line whole : List ClassUnit) (n : ℕ) → line ++ from_class n units None ≡ whole → line ≡ whole
ancestors_none units line whole n so_far = sym (append-nil line) ∙ ap (λ (cs : List ClassUnit). line ++ cs) (sym (from_none n units)) ∙ so_far

pub ancestors_all : (units : List Unit) (line whole : List ClassUnit) (n step : ℕ) (o : Option ClassUnit) → n ≤ step → line ++ from_class (n - step) units o ≡ whole → line ≡ whole
ancestors_all units line whole n step o done so_far =
    let none : n - step ≡ 0 = omega arith in
    sym (append-nil line) ∙ rw none at so_far

pub ancestors_more : (units : List Unit) (line new whole : List ClassUnit) (n step : ℕ) (c : ClassUnit) (o : Option ClassUnit) → step < n → new ≡ line ++ c ∷ [] → o ≡ class_named units c.superclass
    → line ++ from_class (n - step) units (Some c) ≡ whole → new ++ from_class (n - (step + 1)) units o ≡ whole
ancestors_more units line new whole n step c o low gained is so_far =
    let one : n - step ≡ suc (n - (step + 1)) = omega arith in
    let here : line ++ (c ∷ from_class (n - (step + 1)) units (class_named units c.superclass)) ≡ whole = rw one at so_far in
    rw (gained, is, append_assoc) here
