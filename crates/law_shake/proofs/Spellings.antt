-- The names of a program number the selectors and symbols of its units: each is inserted where it isn't there yet.
use Rattle.std.proofs.Common.{◌≡◌, ◌⊎◌, inl, inr, ℕ, zero, suc, ◌<◌, List, [], ◌∷◌, ◌++◌, map, drop, length, get_or, cond, Option, Some, None, Bool, true, false, refl, sym, ap, ◌∙◌, subst, arith, codes}
use Rattle.std.specs.List.{list_any}
use Rattle.std.specs.Str.{bytes_eq}
use Rattle.indexmap.specs.IndexSet.{insert_key}
use Rattle.st_base.specs.BuiltIns.{messages}
use Rattle.st_code.specs.Texts.{Text, same_text}
use Rattle.st_code.specs.Named.{NamedUnit}
use Rattle.st_code.specs.Resolved.{has_text, text_in, number_or_last}
use Rattle.program_image.specs.Spelled.{names_in, selector_of, spelled, units_texts}
use Rattle.st_shake.specs.Needed.{Has}
use Rattle.st_shake.proofs.Texts.{has_at, has_before, has_behind, has_itself, list_any-has, same_is, same_itself}
use Rattle.st_shake.proofs.Spelling.{all_kept, all_there, none_else}
use Rattle.law_shake.specs.Names.{Spells}
use Rattle.law_shake.specs.Renaming.{Sent, sends_value, sends_value_with, sends_values, sends_equal, sends_default, sends_resumable, sends_handles, sends_not_understood, sends_print}

-- ---- each once

abbrev Apart : List Text → Type 0
Apart [] = Unit {0}
Apart (t ∷ names) = (has_text names t ≡ false) × Apart names

not_behind : (names : List Text) (t u : Text) → has_text names u ≡ false → same_text t u ≡ false → has_text (names ++ t ∷ []) u ≡ false
not_behind [] t u h e = ap (λ b. elim b [ true ↦ true | false ↦ false ]) e
not_behind (v ∷ names) t u h e = by (same_text v u) h (λ g. not_behind names t u g e)
  where
    by : (b : Bool) → elim b [ true ↦ true | false ↦ has_text names u ] ≡ false → (has_text names u ≡ false → has_text (names ++ t ∷ []) u ≡ false) → elim b [ true ↦ true | false ↦ has_text (names ++ t ∷ []) u ] ≡ false
    by true g later = cc
    by false g later = later g

apart_one : (names : List Text) (t : Text) → Apart names → has_text names t ≡ false → Apart (names ++ t ∷ [])
apart_one [] t a h = (refl, tt)
apart_one (u ∷ names) t a h = (not_behind names t u a.0 (other (same_text t u) refl), apart_one names t a.1 (rest (same_text u t) refl h))
  where
    rest : (b : Bool) → same_text u t ≡ b → elim b [ true ↦ true | false ↦ has_text names t ] ≡ false → has_text names t ≡ false
    rest true e g = cc
    rest false e g = g

    other : (b : Bool) → same_text t u ≡ b → same_text t u ≡ false
    other false e = e
    other true e =
        let same : t ≡ u = same_is t u e in
        let yes' : has_text (u ∷ names) t ≡ true = subst (λ v. has_text (u ∷ names) v ≡ true) (sym same) (has_itself u names) in
        cc

apart_if : (b : Bool) (names : List Text) (t : Text) → has_text names t ≡ b → Apart names → Apart (cond b names (names ++ t ∷ []))
apart_if true names t e a = a
apart_if false names t e a = apart_one names t a e

apart_all : (names texts : List Text) → Apart names → Apart (spelled names texts)
apart_all names [] a = a
apart_all names (t ∷ texts) a = apart_all (insert_key bytes_eq names t) texts (apart_if (list_any (bytes_eq t) names) names t (sym (list_any-has names t)) a)

distinct : (names : List Text) → Apart names → (m n : ℕ) → m < length names → n < length names → get_or names m [] ≡ get_or names n [] → m ≡ n
distinct [] a m n l k e = absurd (omega (arith, l))
distinct (t ∷ names) a zero zero l k e = refl
distinct (t ∷ names) a zero (suc n) l k e = let h : has_text names t ≡ true = subst (λ u. Has names u) (sym e) (has_at names n (omega (arith, k))) in let g = a.0 in cc
distinct (t ∷ names) a (suc m) zero l k e = let h : has_text names t ≡ true = subst (λ u. Has names u) e (has_at names m (omega (arith, l))) in let g = a.0 in cc
distinct (t ∷ names) a (suc m) (suc n) l k e = ap suc (distinct names a.1 m n (omega (arith, l)) (omega (arith, k)) e)

-- ---- what stands first

record Begins (t : Text) (names : List Text) : Type 0 where
  rest : List Text
  is : names ≡ t ∷ rest

begins_if : (b : Bool) (t : Text) (names : List Text) (u : Text) → Begins t names → Begins t (cond b names (names ++ u ∷ []))
begins_if true t names u h = h
begins_if false t names u h = record { rest = h.rest ++ u ∷ []; is = ap (λ ns. ns ++ u ∷ []) h.is }

begins_all : (t : Text) (names texts : List Text) → Begins t names → Begins t (spelled names texts)
begins_all t names [] h = h
begins_all t names (u ∷ texts) h = begins_all t (insert_key bytes_eq names u) texts (begins_if (list_any (bytes_eq u) names) t names u h)

abbrev or_last : ℕ → Option ℕ → ℕ
or_last last (Some n) = n
or_last last None = last

first_number : (t : Text) (names : List Text) → number_or_last (t ∷ names) t ≡ 0
first_number t names = found (same_text t t) (same_itself t)
  where
    found : (b : Bool) → b ≡ true → ◌≡◌ {A = ℕ} (or_last (length (t ∷ names)) (elim b [ true ↦ Some 0 | false ↦ text_in 1 names t ])) 0
    found true e = refl
    found false e = cc

-- ---- what every program has first

abbrev pub base : List Text
base = map selector_of messages

base_begins : Begins (codes "=") base
unfolding messages
base_begins = record { rest = drop 1 base; is = refl }

first_spelled : (names : List Text) → Begins (codes "=") names → Begins (codes "=") (spelled [] names)
first_spelled names b =
    let one : Begins (codes "=") (codes "=" ∷ []) = record { rest = []; is = refl } in
    subst (λ ns. Begins (codes "=") (spelled [] ns)) (sym b.is) (begins_all (codes "=") (codes "=" ∷ []) b.rest one)

pub own_names : (t : Text) → Sent t → Has base t
unfolding messages same_text
own_names t sends_value = refl
own_names t sends_value_with = refl
own_names t sends_values = refl
own_names t sends_equal = refl
own_names t sends_default = refl
own_names t sends_resumable = refl
own_names t sends_handles = refl
own_names t sends_not_understood = refl
own_names t sends_print = refl

-- the names of units, behind those
pub names_spell : (units : List NamedUnit) → Spells base (names_in units) units
unfolding names_in
names_spell units =
    let firsts = spelled [] base in
    let b : Begins (codes "=") (spelled firsts (units_texts units)) = begins_all (codes "=") firsts (units_texts units) (first_spelled base base_begins) in
    record {
      distinct = distinct (spelled firsts (units_texts units)) (apart_all firsts (units_texts units) (apart_all [] base tt));
      base_there = λ t h. all_kept firsts (units_texts units) t (all_there [] base t h);
      all = λ t h. all_there firsts (units_texts units) t h;
      only = λ n l. by (units_texts units) (get_or (spelled firsts (units_texts units)) n []) (none_else firsts (units_texts units) _ (has_at (spelled firsts (units_texts units)) n l));
      equal_first = ap (λ ns. number_or_last ns (codes "=")) b.is ∙ first_number (codes "=") b.rest;
    }
  where
    old : (u : Text) → Has [] u ⊎ Has base u → Has base u
    old u (inl k) = cc
    old u (inr k) = k

    by : (texts : List Text) (u : Text) → Has (spelled [] base) u ⊎ Has texts u → Has (base ++ texts) u
    by texts u (inl k) = has_before base texts u (old u (none_else [] base u k))
    by texts u (inr k) = has_behind base texts u k
