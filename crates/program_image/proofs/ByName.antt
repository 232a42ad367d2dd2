-- The numbers of classes by their names, as classes are added.
use Rattle.std.proofs.Common.{◌≡◌, ℕ, suc, ◌+◌, Bool, true, false, cond, List, [], ◌∷◌, ◌++◌, map, length, Option, Some, None, refl, ap, sym, ◌∙◌, arith}
use Rattle.std.proofs.lemmas.Cmp.{nat_list_eq_equiv}
use Rattle.std.proofs.lemmas.List.{length-map, map_push}
use Rattle.std.proofs.lemmas.Slice.Eq.{bytes_eq-Decides}
use Rattle.std.specs.HashMap.{HashMap, get_by}
use Rattle.std.specs.Map.{lookup}
use Rattle.std.specs.Option.{option_or, is_some}
use Rattle.std.specs.Str.{bytes_eq}
use Rattle.std.specs.declared.vec.Vec.{Vec}
use Rattle.indexmap.specs.IndexMap.{insert_entry}
use Rattle.indexmap.proofs.CallerLemmas.{insert_entry-new}
use Rattle.st_code.specs.Texts.{Text, same_text}
use Rattle.st_code.specs.Resolved.{ClassNames, class_in}
use Rattle.program_image.specs.declared.class.Class.{Class}
use Rattle.program_image.specs.Classes.{seen_class, is_name, HasNumbers, GainsName}
use Rattle.program_image.proofs.Places.{same_text-bytes_eq}

-- ---- a class behind the others

one-class : (b d : Bool) (n m : ℕ) → b ≡ d → n ≡ m → elim b [ true ↦ Some n | false ↦ None ] ≡ cond d (Some m) None
one-class true true n m is same = ap Some same
one-class false false n m is same = refl
one-class true false n m is same = absurd (grind (arith, is))
one-class false true n m is same = absurd (grind (arith, is))

more-classes : (b : Bool) (n : ℕ) (o p q : Option ℕ) → o ≡ option_or p q → elim b [ true ↦ Some n | false ↦ o ] ≡ option_or (elim b [ true ↦ Some n | false ↦ p ]) q
more-classes true n o p q is = refl
more-classes false n o p q is = is

class_in-push : (classes : List ClassNames) (c : ClassNames) (t : Text) (n : ℕ) → class_in n (classes ++ c ∷ []) t ≡ option_or (class_in n classes t) (cond (bytes_eq t c.row.name) (Some (n + length classes)) None)
class_in-push [] c t n = one-class (same_text c.row.name t) (bytes_eq t c.row.name) n (n + 0) (same_text-bytes_eq c.row.name t ∙ nat_list_eq_equiv.symm c.row.name t) (omega arith)
class_in-push (d ∷ classes) c t n =
    more-classes (same_text d.row.name t) n (class_in (suc n) (classes ++ c ∷ []) t) (class_in (suc n) classes t) (cond (bytes_eq t c.row.name) (Some (n + suc (length classes))) None)
    (class_in-push classes c t (suc n) ∙ ap (λ m. option_or (class_in (suc n) classes t) (cond (bytes_eq t c.row.name) (Some m) None)) (omega arith))

-- ---- a name that is noted

or-there : (b : Bool) (n : ℕ) (o : Option ℕ) → (b ≡ true → is_some o ≡ true) → o ≡ option_or o (cond b (Some n) None)
or-there b n (Some m) some = refl
or-there true n None some = absurd (let e : false ≡ true = some refl in grind (arith, e))
or-there false n None some = refl

none-of : (o : Option ℕ) → is_some o ≡ false → o ≡ None
none-of None is = refl
none-of (Some n) is = absurd (cc)

more-entries : (b : Bool) (n : ℕ) (o p q : Option ℕ) → o ≡ option_or p q → cond b (Some n) o ≡ option_or (cond b (Some n) p) q
more-entries true n o p q is = refl
more-entries false n o p q is = is

abbrev same_name : {Z : Type 0} → Vec ℕ Z → Vec ℕ Z → Bool
same_name a b = bytes_eq a.items b.items

lookup-push : {K : Type 0} → (test : K → Bool) (es : List (K × ℕ)) (k : K) (v : ℕ) → lookup test (es ++ (k, v) ∷ []) ≡ option_or (lookup test es) (cond (test k) (Some v) None)
lookup-push test [] k v = refl
lookup-push test (e ∷ es) k v = more-entries (test e.0) e.1 (lookup test (es ++ (k, v) ∷ [])) (lookup test es) (cond (test k) (Some v) None) (lookup-push test es k v)

module _ {Z S : Type 0} where
  pub gains-there : (m : HashMap (Vec ℕ Z) ℕ S) (name : Text) (number : ℕ) → is_some (get_by (is_name name) m) ≡ true → GainsName m name number m
  gains-there m name number there = record {
    each = λ t. or-there (bytes_eq t name) number (get_by (is_name t) m) (λ is. ap (λ (u : Text). is_some (get_by (is_name u) m)) ((bytes_eq-Decides t name).0 is) ∙ there);
  }

  pub gains-new : (m m2 : HashMap (Vec ℕ Z) ℕ S) (k : Vec ℕ Z) (number : ℕ) → is_some (get_by (is_name k.items) m) ≡ false → m2.entries ≡ insert_entry same_name m.entries k number → GainsName m k.items number m2
  gains-new m m2 k number none is = record {
    each = λ t. ap (lookup (is_name t)) (is ∙ insert_entry-new same_name m k number (none-of (get_by (is_name k.items) m) none)) ∙ lookup-push (is_name t) m.entries k number;
  }

  -- the numbers of one class more
  pub numbers-push : (classes : List Class) (c : Class) (m0 m1 m2 : HashMap (Vec ℕ Z) ℕ S) (name : Text) (number : ℕ) → HasNumbers classes m0 → m1.entries ≡ m0.entries → name ≡ c.name → number ≡ length classes → GainsName m1 name number m2 → HasNumbers (classes ++ c ∷ []) m2
  numbers-push classes c m0 m1 m2 name number before same is count gains =
      let all = length-map classes seen_class in
      let place : number ≡ 0 + length (map seen_class classes) = omega (arith, count, all) in
      record {
        each = λ t.
            gains.each t
            ∙ ap (λ o. option_or o (cond (bytes_eq t name) (Some number) None)) (ap (lookup (is_name t)) same ∙ before.each t)
            ∙ ap (λ (u : Text). option_or (class_in 0 (map seen_class classes) t) (cond (bytes_eq t u) (Some number) None)) is
            ∙ ap (λ n. option_or (class_in 0 (map seen_class classes) t) (cond (bytes_eq t c.name) (Some n) None)) place
            ∙ sym (class_in-push (map seen_class classes) (seen_class c) t 0)
            ∙ ap (λ cs. class_in 0 cs t) (sym (map_push seen_class classes c));
      }

  -- room that is made changes no number
  pub numbers-kept : (classes : List Class) (m0 m1 : HashMap (Vec ℕ Z) ℕ S) → HasNumbers classes m0 → m1.entries ≡ m0.entries → HasNumbers classes m1
  numbers-kept classes m0 m1 before same = record { each = λ t. ap (lookup (is_name t)) same ∙ before.each t }

  pub no-numbers : (m : HashMap (Vec ℕ Z) ℕ S) → m.entries ≡ [] → HasNumbers [] m
  no-numbers m empty = record { each = λ t. ap (lookup (is_name t)) empty }
