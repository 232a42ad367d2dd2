-- Sets of names and maps of classes, as they are filled.
use Rattle.std.proofs.Common.{◌≡◌, ◌+◌, ◌<◌, ℕ, Bool, true, false, cond, ◌||◌, List, [], ◌∷◌, ◌++◌, length, get_or, take, Option, None, Some, refl, ap, sym, ◌∙◌}
use Rattle.std.proofs.lemmas.List.{take_more}
use Rattle.std.proofs.lemmas.List.Folds.{list_any-append}
use Rattle.std.specs.HashMap.{HashMap, get, get_by}
use Rattle.std.specs.HashSet.{HashSet}
use Rattle.std.specs.List.{list_any, find}
use Rattle.std.specs.Option.{option_or}
use Rattle.std.specs.Str.{bytes_eq}
use Rattle.indexmap.specs.IndexSet.{insert_key}
use Rattle.st_tree.specs.declared.units.ClassUnit.{ClassUnit}
use Rattle.st_tree.specs.declared.units.UnitKind.{UnitKind}
use Rattle.st_tree.specs.declared.units.UnitKind.TheVariants as kinds
use Rattle.st_tree.specs.declared.units.Unit.{Unit as FileUnit}
use Rattle.st_checks.specs.Declarations.{Text, declares_class, class_of_unit}
use Rattle.st_checks.specs.NameSets.{Bytes, same_bytes, IsSetOf, HasClasses, GainsClass, class_if_named}
use Rattle.st_checks.proofs.Repeats.{any-push, bytes_eq-is, or-false}
use Rattle.st_checks.proofs.NameLists.{bytes_eq-sym}

absorb : (l e : Bool) → (e ≡ true → l ≡ true) → l ≡ (l || e)
absorb true e h = refl
absorb false true h = h refl
absorb false false h = refl

insert-any : (name : Text) (ks : List Bytes) (k : Bytes) → list_any (λ (x : Bytes). bytes_eq name x.now) (insert_key same_bytes ks k) ≡ (list_any (λ (x : Bytes). bytes_eq name x.now) ks || bytes_eq name k.now)
insert-any name ks k = by (list_any (same_bytes k) ks) refl
  where
    by : (b : Bool) → list_any (same_bytes k) ks ≡ b → list_any (λ (x : Bytes). bytes_eq name x.now) (cond b ks (ks ++ k ∷ [])) ≡ (list_any (λ (x : Bytes). bytes_eq name x.now) ks || bytes_eq name k.now)
    by true e = absorb (list_any (λ (x : Bytes). bytes_eq name x.now) ks) (bytes_eq name k.now) (λ same. ap (λ (t : Text). list_any (λ (x : Bytes). bytes_eq t x.now) ks) (bytes_eq-is name k.now same) ∙ e)
    by false e = list_any-append (λ (x : Bytes). bytes_eq name x.now) ks (k ∷ []) ∙ ap (λ (b : Bool). list_any (λ (x : Bytes). bytes_eq name x.now) ks || b) (or-false (bytes_eq name k.now))

-- a set with one name more
pub set-more : {S : Type 0} (s t : HashSet Bytes S) (names : List Text) (i : ℕ) (name : Text) (k : Bytes) → i < length names → name ≡ get_or names i name → k.now ≡ name → IsSetOf (take i names) s → t.keys ≡ insert_key same_bytes s.keys k → IsSetOf (take (i + 1) names) t
set-more s t names i name k low is same so_far gained =
    let whole : take i names ++ name ∷ [] ≡ take (i + 1) names = rw (take_more names i name low, ← is) refl in
    record {
      each = λ (n : Text).
          ap (list_any (λ (x : Bytes). bytes_eq n x.now)) gained
          ∙ insert-any n s.keys k
          ∙ ap (λ (b : Bool). b || bytes_eq n k.now) (so_far.each n)
          ∙ ap (λ (u : Text). list_any (bytes_eq n) (take i names) || bytes_eq n u) same
          ∙ sym (any-push n (take i names) name)
          ∙ ap (list_any (bytes_eq n)) whole;
    }

-- ---- classes

gained-class : (class : ClassUnit) (b : Bool) (o h : Option ClassUnit) → h ≡ cond b (Some class) o → (b ≡ true → o ≡ None) → h ≡ option_or o (cond b (Some class) None)
gained-class class true (Some x) h e none = absurd (let n : Some x ≡ None = none refl in cc)
gained-class class true None h e none = e
gained-class class false (Some x) h e none = e
gained-class class false None h e none = e

class_if-kind : (name : Text) (u : FileUnit) (class : ClassUnit) → u.kind ≡ kinds.Class class → cond (bytes_eq name class.name) (Some class) None ≡ class_if_named name u
class_if-kind name u class is = ap (λ (k : UnitKind). class_if_named name (record u { kind = k })) (sym is)

pub gains-class : {S : Type 0} (m0 m1 : HashMap Bytes ClassUnit S) (u : FileUnit) (class : ClassUnit) (k : Bytes) → u.kind ≡ kinds.Class class → k.now ≡ class.name → get same_bytes m0 k ≡ None → ((q : Bytes) → get same_bytes m1 q ≡ cond (same_bytes k q) (Some class) (get same_bytes m0 q)) → GainsClass m0 u m1
gains-class m0 m1 u class k is same none update = record {
  each = λ (q : Bytes).
      let test : same_bytes k q ≡ bytes_eq q.now class.name = bytes_eq-sym k.now q.now ∙ ap (bytes_eq q.now) same in
      gained-class class (bytes_eq q.now class.name) (get same_bytes m0 q) (get same_bytes m1 q) (update q ∙ ap (λ (b : Bool). cond b (Some class) (get same_bytes m0 q)) test) (λ there. ap (λ (t : Text). get_by (λ (x : Bytes). bytes_eq t x.now) m0) (bytes_eq-is q.now class.name there ∙ sym same) ∙ none)
      ∙ ap (option_or (get same_bytes m0 q)) (class_if-kind q.now u class is);
}

some-class : (name : Text) (u : FileUnit) (o : Option ClassUnit) → declares_class name u ≡ true → class_of_unit (Some u) ≡ option_or (class_of_unit (Some u)) o
some-class name u o = elim u.kind as (λ k. declares_class name (record u { kind = k }) ≡ true → class_of_unit (Some (record u { kind = k })) ≡ option_or (class_of_unit (Some (record u { kind = k }))) o) [
  | kinds.Class c ↦ λ h. refl
  | _ ↦ λ h. absurd (cc)
]

found-class : (b : Bool) (u : FileUnit) → class_of_unit (cond b (Some u) None) ≡ cond b (class_of_unit (Some u)) None
found-class true u = refl
found-class false u = refl

found-before : (b : Bool) (name : Text) (x : FileUnit) (before all : Option FileUnit) (o : Option ClassUnit) → declares_class name x ≡ b → class_of_unit all ≡ option_or (class_of_unit before) o → class_of_unit (cond b (Some x) all) ≡ option_or (class_of_unit (cond b (Some x) before)) o
found-before true name x before all o is rest = some-class name x o is
found-before false name x before all o is rest = rest

push-class : (name : Text) (units : List FileUnit) (u : FileUnit) → class_of_unit (find (declares_class name) (units ++ u ∷ [])) ≡ option_or (class_of_unit (find (declares_class name) units)) (class_if_named name u)
push-class name [] u = found-class (declares_class name u) u
push-class name (x ∷ xs) u = found-before (declares_class name x) name x (find (declares_class name) xs) (find (declares_class name) (xs ++ u ∷ [])) (class_if_named name u) refl (push-class name xs u)

-- the classes of one unit more
pub classes-more : {S : Type 0} (m0 m1 : HashMap Bytes ClassUnit S) (units : List FileUnit) (i : ℕ) (u : FileUnit) → i < length units → u ≡ get_or units i u → HasClasses (take i units) m0 → GainsClass m0 u m1 → HasClasses (take (i + 1) units) m1
classes-more m0 m1 units i u low is so_far gained =
    let whole : take i units ++ u ∷ [] ≡ take (i + 1) units = rw (take_more units i u low, ← is) refl in
    record {
      each = λ (q : Bytes).
          gained.each q
          ∙ ap (λ (o : Option ClassUnit). option_or o (class_if_named q.now u)) (so_far.each q)
          ∙ sym (push-class q.now (take i units) u)
          ∙ ap (λ (us : List FileUnit). class_of_unit (find (declares_class q.now) us)) whole;
    }
