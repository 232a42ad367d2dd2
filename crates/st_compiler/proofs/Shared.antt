-- Maps of the places of variables, as variables are noted.
use Rattle.std.proofs.Common.{◌≡◌, ℕ, suc, ◌+◌, ◌<◌, Bool, true, false, ◌&&◌, cond, List, [], ◌∷◌, ◌++◌, map, take, length, get_or, Option, Some, None, refl, ap, sym, ◌∙◌, arith, nat_eq}
use Rattle.std.proofs.lemmas.Bool.{eqb-true}
use Rattle.std.proofs.lemmas.Cmp.{nat_list_eq_equiv}
use Rattle.std.proofs.lemmas.List.{length-map, length-take-le, map_push, take_more}
use Rattle.std.proofs.lemmas.Slice.Eq.{bytes_eq-Decides}
use Rattle.std.specs.HashMap.{HashMap, get_by}
use Rattle.std.specs.Map.{lookup}
use Rattle.std.specs.Option.{option_or, is_some}
use Rattle.std.specs.Str.{bytes_eq}
use Rattle.indexmap.specs.IndexMap.{insert_entry}
use Rattle.indexmap.proofs.CallerLemmas.{insert_entry-new}
use Rattle.st_code.specs.Texts.{Text, same_text}
use Rattle.st_code.specs.Resolved.{SharedName, GlobalName, PoolName, ClassName, ClassInstanceName, same_shared, place_in}
use Rattle.program_image.specs.declared.class.SharedVariable.{SharedVariable}
use Rattle.program_image.specs.Classes.{seen_variable}
use Rattle.program_image.proofs.Places.{same_text-bytes_eq}
use Rattle.st_compiler.specs.declared.lookup.Key.{Key}
use Rattle.st_compiler.specs.declared.lookup.Key.TheVariants as key
use Rattle.st_compiler.specs.contracts.lookup.KeyPartialEq.TheImpl.{eq-value}
use Rattle.st_compiler.specs.Around.{seen_key}
use Rattle.st_compiler.specs.Shared.{keyed, is_key_of, HasPlaces, GainsPlace}

-- ---- keys are equal where they are keys of one variable

text-swap : (t u : Text) → bytes_eq t u ≡ same_text u t
text-swap t u = nat_list_eq_equiv.symm t u ∙ sym (same_text-bytes_eq u t)

number-swap : (a b : ℕ) → nat_eq a b ≡ nat_eq b a
number-swap a b = grind (arith)

pub eq-keys : (a b : Key) → eq-value.it a b ≡ is_key_of (seen_key a) b
eq-keys (key.Global t) b = elim b as (λ b. eq-value.it (key.Global t) b ≡ is_key_of (seen_key (key.Global t)) b) [ key.Global u ↦ text-swap t.now u.now | _ ↦ refl ]
eq-keys (key.Pool p t) b = elim b as (λ b. eq-value.it (key.Pool p t) b ≡ is_key_of (seen_key (key.Pool p t)) b) [ key.Pool q u ↦ rw (← text-swap p.now q.now, ← text-swap t.now u.now) refl | _ ↦ refl ]
eq-keys (key.OfClass c t) b = elim b as (λ b. eq-value.it (key.OfClass c t) b ≡ is_key_of (seen_key (key.OfClass c t)) b) [ key.OfClass d u ↦ rw (number-swap d c, ← text-swap t.now u.now) refl | _ ↦ refl ]

text-is : (t u : Text) → same_text t u ≡ true → t ≡ u
text-is t u is = (bytes_eq-Decides t u).0 (sym (same_text-bytes_eq t u) ∙ is)

both : (a b : Bool) → (a && b) ≡ true → (a ≡ true) × (b ≡ true)
both true b is = (refl, is)
both false b is = absurd (grind (arith, is))

pub same-is : (x y : SharedName) → same_shared x y ≡ true → x ≡ y
same-is (GlobalName t) (GlobalName u) is = ap GlobalName (text-is t u is)
same-is (PoolName p t) (PoolName q u) is =
    let e = both (same_text p q) (same_text t u) is in
    ap (λ r. PoolName r t) (text-is p q e.0) ∙ ap (PoolName q) (text-is t u e.1)
same-is (ClassName c t) (ClassName d u) is =
    let e = both (nat_eq c d) (same_text t u) is in
    ap (λ n. ClassName n t) (eqb-true c d e.0) ∙ ap (ClassName d) (text-is t u e.1)
same-is (ClassInstanceName c t) (ClassInstanceName d u) is =
    let e = both (nat_eq c d) (same_text t u) is in
    ap (λ n. ClassInstanceName n t) (eqb-true c d e.0) ∙ ap (ClassInstanceName d) (text-is t u e.1)
same-is _ _ is = absurd (grind (arith, is))

pub keyed-is : (x y : SharedName) → Some y ≡ keyed x → y ≡ x
keyed-is (GlobalName t) y is = cc
keyed-is (PoolName p t) y is = cc
keyed-is (ClassName c t) y is = cc
keyed-is (ClassInstanceName c t) y is = absurd (cc)

unkeyed : (x : SharedName) (k : Key) → None ≡ keyed x → same_shared x (seen_key k) ≡ false
unkeyed (GlobalName t) k is = absurd (cc)
unkeyed (PoolName p t) k is = absurd (cc)
unkeyed (ClassName c t) k is = absurd (cc)
unkeyed (ClassInstanceName c t) k is = elim k as (λ k. same_shared (ClassInstanceName c t) (seen_key k) ≡ false) [ key.Global u ↦ refl | _ ↦ refl ]

-- ---- a variable behind the others

more-places : (b : Bool) (n : ℕ) (o p q : Option ℕ) → o ≡ option_or p q → elim b [ true ↦ Some n | false ↦ o ] ≡ option_or (elim b [ true ↦ Some n | false ↦ p ]) q
more-places true n o p q is = refl
more-places false n o p q is = is

one-place : (b : Bool) (n m : ℕ) → n ≡ m → elim b [ true ↦ Some n | false ↦ None ] ≡ cond b (Some m) None
one-place true n m same = ap Some same
one-place false n m same = refl

place_in-push : (xs : List SharedName) (x y : SharedName) (n : ℕ) → place_in n (xs ++ x ∷ []) y ≡ option_or (place_in n xs y) (cond (same_shared x y) (Some (n + length xs)) None)
place_in-push [] x y n = one-place (same_shared x y) n (n + 0) (omega arith)
place_in-push (z ∷ xs) x y n =
    more-places (same_shared z y) n (place_in (suc n) (xs ++ x ∷ []) y) (place_in (suc n) xs y) (cond (same_shared x y) (Some (n + suc (length xs))) None)
    (place_in-push xs x y (suc n) ∙ ap (λ m. option_or (place_in (suc n) xs y) (cond (same_shared x y) (Some m) None)) (omega arith))

-- ---- a variable that is noted

or-none : (b : Bool) (n : ℕ) (o : Option ℕ) → b ≡ false → o ≡ option_or o (cond b (Some n) None)
or-none true n o is = absurd (grind (arith, is))
or-none false n None is = refl
or-none false n (Some m) is = refl

or-there : (b : Bool) (n : ℕ) (o : Option ℕ) → (b ≡ true → is_some o ≡ true) → o ≡ option_or o (cond b (Some n) None)
or-there b n (Some m) some = refl
or-there true n None some = absurd (let e : false ≡ true = some refl in grind (arith, e))
or-there false n None some = refl

none-of : (o : Option ℕ) → is_some o ≡ false → o ≡ None
none-of None is = refl
none-of (Some n) is = absurd (cc)

same-entry : (b d : Bool) (n : ℕ) (o p : Option ℕ) → b ≡ d → o ≡ p → cond b (Some n) o ≡ cond d (Some n) p
same-entry true true n o p e is = refl
same-entry false false n o p e is = is
same-entry true false n o p e is = absurd (grind (arith, e))
same-entry false true n o p e is = absurd (grind (arith, e))

same-lookup : {K : Type 0} → (f g : K → Bool) → ((k : K) → f k ≡ g k) → (es : List (K × ℕ)) → lookup f es ≡ lookup g es
same-lookup f g same [] = refl
same-lookup f g same (e ∷ es) = same-entry (f e.0) (g e.0) e.1 (lookup f es) (lookup g es) (same e.0) (same-lookup f g same es)

more-entries : (b : Bool) (n : ℕ) (o p q : Option ℕ) → o ≡ option_or p q → cond b (Some n) o ≡ option_or (cond b (Some n) p) q
more-entries true n o p q is = refl
more-entries false n o p q is = is

lookup-push : {K : Type 0} → (test : K → Bool) (es : List (K × ℕ)) (k : K) (v : ℕ) → lookup test (es ++ (k, v) ∷ []) ≡ option_or (lookup test es) (cond (test k) (Some v) None)
lookup-push test [] k v = refl
lookup-push test (e ∷ es) k v = more-entries (test e.0) e.1 (lookup test (es ++ (k, v) ∷ [])) (lookup test es) (cond (test k) (Some v) None) (lookup-push test es k v)

module _ {S : Type 0} where
  pub gains-nothing : (m : HashMap Key ℕ S) (x : SharedName) (place : ℕ) → None ≡ keyed x → GainsPlace m x place m
  gains-nothing m x place is = record { each = λ q. or-none (same_shared x (seen_key q)) place (get_by (is_key_of (seen_key q)) m) (unkeyed x q is) }

  pub get-key : (m : HashMap Key ℕ S) (k : Key) → get_by (eq-value.it k) m ≡ get_by (is_key_of (seen_key k)) m
  get-key m k = same-lookup (eq-value.it k) (is_key_of (seen_key k)) (eq-keys k) m.entries

  pub gains-there : (m : HashMap Key ℕ S) (x : SharedName) (place : ℕ) (k : Key) → seen_key k ≡ x → is_some (get_by (eq-value.it k) m) ≡ true → GainsPlace m x place m
  gains-there m x place k is there = record {
    each = λ q.
        or-there (same_shared x (seen_key q)) place (get_by (is_key_of (seen_key q)) m)
        (λ same. ap (λ y. is_some (get_by (is_key_of y) m)) (sym (is ∙ same-is x (seen_key q) same)) ∙ ap is_some (sym (get-key m k)) ∙ there);
  }

  pub gains-new : (m m2 : HashMap Key ℕ S) (x : SharedName) (place : ℕ) (k : Key) → seen_key k ≡ x → is_some (get_by (eq-value.it k) m) ≡ false → m2.entries ≡ insert_entry eq-value.it m.entries k place → GainsPlace m x place m2
  gains-new m m2 x place k is none added = record {
    each = λ q.
        ap (lookup (is_key_of (seen_key q))) (added ∙ insert_entry-new eq-value.it m k place (none-of (get_by (eq-value.it k) m) none))
        ∙ lookup-push (is_key_of (seen_key q)) m.entries k place
        ∙ ap (λ y. option_or (get_by (is_key_of (seen_key q)) m) (cond (same_shared y (seen_key q)) (Some place) None)) is;
  }

  -- the places of one variable more
  pub places-more : (m0 m1 : HashMap Key ℕ S) (variables : List SharedVariable) (i : ℕ) (x : SharedVariable) → x ≡ get_or variables i x → i < length variables
      → HasPlaces (map seen_variable (take i variables)) m0 → GainsPlace m0 (seen_variable x) i m1 → HasPlaces (map seen_variable (take (i + 1) variables)) m1
  places-more m0 m1 variables i x is low before gains =
      let whole : take i variables ++ x ∷ [] ≡ take (i + 1) variables = rw (take_more variables i x low, ← is) refl in
      let count : i ≡ 0 + length (map seen_variable (take i variables)) = omega (arith, length-map (take i variables) seen_variable, length-take-le i variables (omega (arith, low))) in
      record {
        each = λ q.
            gains.each q
            ∙ ap (λ o. option_or o (cond (same_shared (seen_variable x) (seen_key q)) (Some i) None)) (before.each q)
            ∙ ap (λ n. option_or (place_in 0 (map seen_variable (take i variables)) (seen_key q)) (cond (same_shared (seen_variable x) (seen_key q)) (Some n) None)) count
            ∙ sym (place_in-push (map seen_variable (take i variables)) (seen_variable x) (seen_key q) 0)
            ∙ ap (λ xs. place_in 0 xs (seen_key q)) (sym (map_push seen_variable (take i variables) x) ∙ ap (map seen_variable) whole);
      }
