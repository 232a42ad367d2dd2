-- What a class declares, beside those before it.
use Rattle.std.proofs.Common.{◌≡◌, ℕ, suc, ◌+◌, ◌<◌, ◌^◌, true, ◌&&◌, List, [], ◌∷◌, ◌++◌, map, drop, length, get_or, Option, Some, None, Result, Ok, Err, OnOk, OnErr, refl, ap, sym, ◌∙◌, subst, arith, nat_lt}
use Rattle.std.proofs.Math.Seq.{drop-cons}
use Rattle.std.proofs.lemmas.List.{length-map, map_push, get_or-map, append_assoc}
use Rattle.std.proofs.lemmas.Bool.{lt-ltb}
use Rattle.st_tree.specs.declared.units.Unit.{Unit}
use Rattle.st_code.specs.Texts.{Text}
use Rattle.st_code.specs.Named.{NamedClass, NamedUnit}
use Rattle.st_code.specs.Written.{named_unit, named_units, with_named}
use Rattle.st_code.specs.Resolved.{ClassName, ClassInstanceName, SharedName, ClassNames, Names, no_names, class_in, class_names_at}
use Rattle.st_code.specs.Definitions.{class_over, class_variables, with_class, declared_class, declared_units, or_zero}
use Rattle.program_image.specs.declared.class.Class.{Class}
use Rattle.program_image.specs.declared.class.SharedVariable.{SharedVariable}
use Rattle.program_image.specs.Classes.{seen_class, seen_variable, seen_names, is_below, falls, IsNumbered, declared_kind}
use Rattle.program_image.proofs.Classes.{falls-push}

abbrev names_with : List Text → List ClassNames → List SharedName → Names
names_with names classes shared = record { names = names; classes = classes; shared = shared }

-- the variables of a class stand behind those before it
variables-added : (number : ℕ) (c : Class) (s0 s1 s2 : List SharedVariable)
    → map seen_variable s1 ≡ map seen_variable s0 ++ map (ClassName number) c.class_names
    → map seen_variable s2 ≡ map seen_variable s1 ++ map (ClassInstanceName number) c.class_instance_names
    → map seen_variable s2 ≡ map seen_variable s0 ++ class_variables number (seen_class c)
variables-added number c s0 s1 s2 first second =
    second ∙ ap (λ ss. ss ++ map (ClassInstanceName number) c.class_instance_names) first
    ∙ append_assoc (map seen_variable s0) (map (ClassName number) c.class_names) (map (ClassInstanceName number) c.class_instance_names)

class-added : (names : List Text) (classes : List Class) (c : Class) (number : ℕ) (s0 s1 s2 : List SharedVariable)
    → number ≡ length classes
    → map seen_variable s1 ≡ map seen_variable s0 ++ map (ClassName number) c.class_names
    → map seen_variable s2 ≡ map seen_variable s1 ++ map (ClassInstanceName number) c.class_instance_names
    → seen_names names (classes ++ c ∷ []) s2 ≡ with_class (seen_names names classes s0) (seen_class c)
class-added names classes c number s0 s1 s2 count first second =
    ap (λ cs. names_with names cs (map seen_variable s2)) (map_push seen_class classes c)
    ∙ ap (λ ss. names_with names (map seen_class classes ++ seen_class c ∷ []) ss)
    (variables-added number c s0 s1 s2 first second ∙ ap (λ n. map seen_variable s0 ++ class_variables n (seen_class c)) (count ∙ sym (length-map classes seen_class)))

-- a class over the one at the place of its superclass
class-made : (u : NamedClass) (classes : List Class) (above : Class) (shared : List SharedVariable) (made : ClassNames) (s variables : ℕ)
    → made ≡ class_over u s (seen_class above) variables → s ≡ or_zero (class_in 0 (map seen_class classes) u.superclass) → above ≡ get_or classes s above → s < length classes → variables ≡ length shared
    → made ≡ class_over u (or_zero (class_in 0 (map seen_class classes) u.superclass)) (class_names_at (map seen_class classes) (or_zero (class_in 0 (map seen_class classes) u.superclass))) (length (map seen_variable shared))
class-made u classes above shared made s variables is place there low count =
    is ∙ ap (λ a. class_over u s a variables) (ap seen_class there ∙ sym (get_or-map seen_class classes s above no_names low))
    ∙ ap (λ n. class_over u s (class_names_at (map seen_class classes) s) n) (count ∙ sym (length-map shared seen_variable))
    ∙ ap (λ n. class_over u n (class_names_at (map seen_class classes) n) (length (map seen_variable shared))) place

pub class-declared : (names : List Text) (u : NamedClass) (classes : List Class) (c above : Class) (s0 s1 s2 : List SharedVariable) (s number variables : ℕ)
    → seen_class c ≡ class_over u s (seen_class above) variables → s ≡ or_zero (class_in 0 (map seen_class classes) u.superclass) → above ≡ get_or classes s above → s < length classes
    → number ≡ length classes → variables ≡ length s0
    → map seen_variable s1 ≡ map seen_variable s0 ++ map (ClassName number) c.class_names
    → map seen_variable s2 ≡ map seen_variable s1 ++ map (ClassInstanceName number) c.class_instance_names
    → seen_names names (classes ++ c ∷ []) s2 ≡ declared_class (seen_names names classes s0) u
class-declared names u classes c above s0 s1 s2 s number variables is place there low count counted first second =
    class-added names classes c number s0 s1 s2 count first second
    ∙ ap (λ made. with_class (seen_names names classes s0) made) (class-made u classes above s0 (seen_class c) s variables is place there low counted)

pub on-ok : {X E P Q : Type 0} → (r : Result X E) → (P → Q) → OnOk r P → OnOk r Q
on-ok (Ok x) f p = f p
on-ok (Err e) f p = p

-- ---- classes fit their numbers

fall-pushed : (old : List Class) (c : Class) (s : ℕ) → falls 0 (map seen_class old) ≡ true → c.superclass ≡ Some s → s < length old → falls 0 (map seen_class (old ++ c ∷ [])) ≡ true
fall-pushed old c s fall above low =
    let under : nat_lt s (0 + length (map seen_class old)) ≡ true = lt-ltb s (0 + length (map seen_class old)) (omega (arith, length-map old seen_class)) in
    ap (falls 0) (map_push seen_class old c) ∙ falls-push 0 (map seen_class old) (seen_class c)
    ∙ ap (λ b. b && is_below c.superclass (0 + length (map seen_class old))) fall ∙ ap (λ o. is_below o (0 + length (map seen_class old))) above ∙ under

pub class-numbered : {X E : Type 0} → (r : Result X E) (names : List Text) (old new : List Class) (s0 s2 : List SharedVariable) (c : Class) (s : ℕ)
    → IsNumbered (seen_names names old s0) → OnOk r (new ≡ old ++ c ∷ []) → OnErr r (new ≡ old) → length new < 2 ^ 32 → length s2 < 2 ^ 32
    → c.superclass ≡ Some s → s < length old → IsNumbered (seen_names names new s2)
class-numbered (Ok x) names old new s0 s2 c s before ok err fits few above low =
    record {
      some = subst (λ n. 0 < n) (sym (length-map new seen_class ∙ ap length ok)) (some-pushed old c);
      classes = subst (λ n. n < 2 ^ 32) (sym (length-map new seen_class)) fits;
      shared = subst (λ n. n < 2 ^ 32) (sym (length-map s2 seen_variable)) few;
      fall = ap (λ cs. falls 0 (map seen_class cs)) ok ∙ fall-pushed old c s before.fall above low;
    }
  where
    some-pushed : (old : List Class) (c : Class) → 0 < length (old ++ c ∷ [])
    some-pushed [] c = omega arith
    some-pushed (d ∷ old) c = omega arith
class-numbered (Err e) names old new s0 s2 c s before ok err fits few above low =
    record {
      some = subst (λ cs. 0 < length (map seen_class cs)) (sym err) before.some;
      classes = subst (λ n. n < 2 ^ 32) (sym (length-map new seen_class)) fits;
      shared = subst (λ n. n < 2 ^ 32) (sym (length-map s2 seen_variable)) few;
      fall = ap (λ cs. falls 0 (map seen_class cs)) err ∙ before.fall;
    }

-- ---- units one behind the other

kind-declared : (x : Names) (o : Option NamedUnit) (units : List NamedUnit) → declared_units x (with_named o units) ≡ declared_units (declared_kind x o) units
kind-declared x None units = refl
kind-declared x (Some u) units = refl

pub unit-declared : (x : Names) (u : Unit) (units : List Unit) → declared_units x (named_units (u ∷ units)) ≡ declared_units (declared_kind x (named_unit u)) (named_units units)
unfolding named_units
unit-declared x u units = kind-declared x (named_unit u) (named_units units)

pub over-superclass : (c : Class) (u : NamedClass) (s : ℕ) (above : ClassNames) (variables : ℕ) → seen_class c ≡ class_over u s above variables → c.superclass ≡ Some s
over-superclass c u s above variables is = ap (λ (x : ClassNames). x.row.superclass) is

-- a loop that declares each unit
pub units-declared : (now new whole : Names) (units : List Unit) (i : ℕ) (u : Unit) → u ≡ get_or units i u → i < length units
    → declared_units now (named_units (drop i units)) ≡ whole → new ≡ declared_kind now (named_unit u) → declared_units new (named_units (drop (i + 1) units)) ≡ whole
units-declared now new whole units i u there low sofar is =
    let next : suc i ≡ i + 1 = omega arith in
    let at : drop i units ≡ u ∷ drop (suc i) units = drop-cons units i u low ∙ ap (λ v. v ∷ drop (suc i) units) (sym there) in
    subst (λ n. declared_units new (named_units (drop n units)) ≡ whole) next
    (ap (λ x. declared_units x (named_units (drop (suc i) units))) is ∙ sym (unit-declared now u (drop (suc i) units)) ∙ sym (ap (λ us. declared_units now (named_units us)) at) ∙ sofar)
