-- The numbers of symbols: a needed one has the number of its text in the other names, any other that of the second copy.
use Rattle.std.proofs.Common.{◌≡◌, ◌⊎◌, inl, inr, ℕ, suc, ◌+◌, ◌<◌, ◌≤◌, List, [], ◌∷◌, ◌++◌, length, get_or, Option, Some, None, Bool, true, false, nat_eq, nat_lt, ltb-true, lt-ltb, refl, sym, ap, ◌∙◌, subst, arith}
use Rattle.std.proofs.lemmas.List.{length-append, get_or_append_left, get_or-append-add, get_or_past}
use Rattle.std.proofs.lemmas.Bool.{ltb-false, le-ltb, eqb-true, eq-eqb}
use Rattle.st_code.specs.Texts.{Text, same_text}
use Rattle.st_code.specs.Program.{number_from}
use Rattle.st_code.specs.Resolved.{has_text, text_in, number_or_last}
use Rattle.st_shake.specs.Needed.{Has}
use Rattle.st_shake.proofs.Texts.{same_is}

-- ---- the number of a text that is there

-- it names the text
pub record IsNumber (names : List Text) (t : Text) (n : ℕ) : Type 0 where
  pub below : n < length names
  pub is : get_or names n [] ≡ t

abbrev FoundAt : List Text → Text → ℕ → Option ℕ → Type 0
FoundAt names t k None = ⊥
FoundAt names t k (Some n) = (m : ℕ) × (n ≡ k + m) × IsNumber names t m

found_text : (names : List Text) (t : Text) (k : ℕ) → Has names t → FoundAt names t k (text_in k names t)
found_text [] t k h = cc
found_text (u ∷ names) t k h = by (same_text u t) refl h (λ g. found_text names t (suc k) g)
  where
    next : (o : Option ℕ) → FoundAt names t (suc k) o → FoundAt (u ∷ names) t k o
    next None f = f
    next (Some n) f = (suc f.0, (let e = f.1 in omega arith), record { below = let l = f.2.below in omega arith; is = f.2.is })

    by : (b : Bool) → same_text u t ≡ b → elim b [ true ↦ true | false ↦ has_text names t ] ≡ true → (Has names t → FoundAt names t (suc k) (text_in (suc k) names t)) → FoundAt (u ∷ names) t k (elim b [ true ↦ Some k | false ↦ text_in (suc k) names t ])
    by true e g later = (0, (omega arith), record { below = omega arith; is = same_is u t e })
    by false e g later = next (text_in (suc k) names t) (later g)

pub number_is : (names : List Text) (t : Text) → Has names t → IsNumber names t (number_or_last names t)
number_is names t h = by (text_in 0 names t) (found_text names t 0 h)
  where
    by : (o : Option ℕ) → FoundAt names t 0 o → IsNumber names t (elim o [ Some n ↦ n | None ↦ length names ])
    by None f = absurd f
    by (Some n) f = let e : f.0 ≡ n = let g = f.1 in omega arith in subst (λ k. IsNumber names t k) e f.2

-- the first number of a text, by both searches, in the names and in the names twice
from_is : (names : List Text) (t : Text) (k : ℕ) → Has names t → text_in k names t ≡ Some (number_from names t k)
from_is [] t k h = cc
from_is (u ∷ names) t k h = by (same_text u t) h (λ g. from_is names t (k + 1) g)
  where
    same : k + 1 ≡ suc k
    same = omega arith

    by : (b : Bool) → elim b [ true ↦ true | false ↦ has_text names t ] ≡ true → (Has names t → text_in (k + 1) names t ≡ Some (number_from names t (k + 1))) → elim b [ true ↦ Some k | false ↦ text_in (suc k) names t ] ≡ Some (elim b [ true ↦ k | false ↦ number_from names t (k + 1) ])
    by true g later = refl
    by false g later = ap (λ j. text_in j names t) (sym same) ∙ later g

pub from_number : (names : List Text) (t : Text) → Has names t → number_from names t 0 ≡ number_or_last names t
from_number names t h = sym (ap (λ o. elim o [ Some n ↦ n | None ↦ length names ]) (from_is names t 0 h))

from_twice : (names others : List Text) (t : Text) (k : ℕ) → Has names t → number_from (names ++ others) t k ≡ number_from names t k
from_twice [] others t k h = cc
from_twice (u ∷ names) others t k h = by (same_text u t) h (λ g. from_twice names others t (k + 1) g)
  where
    by : (b : Bool) → elim b [ true ↦ true | false ↦ has_text names t ] ≡ true → (Has names t → number_from (names ++ others) t (k + 1) ≡ number_from names t (k + 1)) → ◌≡◌ {A = ℕ} (elim b [ true ↦ k | false ↦ number_from (names ++ others) t (k + 1) ]) (elim b [ true ↦ k | false ↦ number_from names t (k + 1) ])
    by true g later = refl
    by false g later = later g

-- ---- the numbers

module _ (needed names names' : List Text) where
  abbrev pub N' : ℕ
  N' = length names'

  abbrev pub by_need : Bool → Text → ℕ
  by_need true t = number_or_last names' t
  by_need false t = N' + number_or_last names' t

  abbrev pub by_place : Bool → ℕ → ℕ
  by_place true n = by_need (has_text needed (get_or names n [])) (get_or names n [])
  by_place false n = N' + N' + n

  unfoldable pub symbol_in : ℕ → ℕ
  symbol_in n = by_place (nat_lt n (length names)) n

  -- the names stand apart, each of them is in the other names
  pub record NamesFit : Type 0 where
    pub distinct : (m n : ℕ) → m < length names → n < length names → get_or names m [] ≡ get_or names n [] → m ≡ n
    pub inside : (n : ℕ) → n < length names → Has names' (get_or names n [])

  module _ (fit : NamesFit) where
    -- where a number is there
    record Inside (n : ℕ) : Type 0 where
      below : symbol_in n < N' + N'
      is : get_or (names' ++ names') (symbol_in n) [] ≡ get_or names n []

    need_inside : (b : Bool) (t : Text) → Has names' t → (by_need b t < N' + N') × (get_or (names' ++ names') (by_need b t) [] ≡ t)
    need_inside true t h =
        let i = number_is names' t h in
        let l = i.below in
        (omega arith, get_or_append_left names' names' [] (number_or_last names' t) i.below ∙ i.is)
    need_inside false t h =
        let i = number_is names' t h in
        let l = i.below in
        (omega arith, get_or-append-add names' names' (number_or_last names' t) [] ∙ i.is)

    inside_at : (n : ℕ) → n < length names → Inside n
    unfolding symbol_in
    inside_at n l =
        let t = get_or names n [] in
        let h = need_inside (has_text needed t) t (fit.inside n l) in
        let e : by_place (nat_lt n (length names)) n ≡ by_need (has_text needed t) t = ap (λ b. by_place b n) (lt-ltb n (length names) l) in
        record { below = subst (λ k. k < N' + N') (sym e) h.0; is = ap (λ k. get_or (names' ++ names') k []) e ∙ h.1 }

    place_inside : (n : ℕ) → n < length names → symbol_in n ≡ by_need (has_text needed (get_or names n [])) (get_or names n [])
    unfolding symbol_in
    place_inside n l = ap (λ b. by_place b n) (lt-ltb n (length names) l)

    outside_at : (n : ℕ) → length names ≤ n → symbol_in n ≡ N' + N' + n
    unfolding symbol_in
    outside_at n l = ap (λ b. by_place b n) (le-ltb n (length names) l)

    split : (n : ℕ) → (n < length names) ⊎ (length names ≤ n)
    split n = by (nat_lt n (length names)) refl
      where
        by : (b : Bool) → nat_lt n (length names) ≡ b → (n < length names) ⊎ (length names ≤ n)
        by true e = inl (ltb-true n (length names) e)
        by false e = inr (ltb-false n (length names) e)

    pub texts_same : (n : ℕ) → get_or (names' ++ names') (symbol_in n) [] ≡ get_or names n []
    texts_same n = by (split n)
      where
        by : (n < length names) ⊎ (length names ≤ n) → get_or (names' ++ names') (symbol_in n) [] ≡ get_or names n []
        by (inl l) = (inside_at n l).is
        by (inr l) =
            let e = outside_at n l in
            let d = length-append names' names' in
            get_or_past (names' ++ names') (symbol_in n) [] (omega (arith, e, d)) ∙ sym (get_or_past names n [] l)

    one_number : (m n : ℕ) → symbol_in m ≡ symbol_in n → m ≡ n
    one_number m n e = by (split m) (split n)
      where
        by : (m < length names) ⊎ (length names ≤ m) → (n < length names) ⊎ (length names ≤ n) → m ≡ n
        by (inl l) (inl k) = fit.distinct m n l k (sym (inside_at m l).is ∙ ap (λ j. get_or (names' ++ names') j []) e ∙ (inside_at n k).is)
        by (inl l) (inr k) = let a = (inside_at m l).below in let b = outside_at n k in absurd (omega (arith, a, b, e))
        by (inr l) (inl k) = let a = (inside_at n k).below in let b = outside_at m l in absurd (omega (arith, a, b, e))
        by (inr l) (inr k) = let a = outside_at m l in let b = outside_at n k in omega (arith, a, b, e)

    pub numbers_apart : (m n : ℕ) → nat_eq (symbol_in m) (symbol_in n) ≡ nat_eq m n
    numbers_apart m n = by (nat_eq m n) refl (nat_eq (symbol_in m) (symbol_in n)) refl
      where
        by : (b : Bool) → nat_eq m n ≡ b → (c : Bool) → nat_eq (symbol_in m) (symbol_in n) ≡ c → c ≡ b
        by true e true f = refl
        by false e false f = refl
        by true e false f = sym f ∙ eq-eqb _ _ (ap symbol_in (eqb-true m n e))
        by false e true f = let d = eq-eqb m n (one_number m n (eqb-true _ _ f)) in sym d ∙ e

    -- a needed text that is there
    pub needed_number : (t : Text) → Has names t → Has needed t → symbol_in (number_or_last names t) ≡ number_or_last names' t
    unfolding symbol_in
    needed_number t h g =
        let i = number_is names t h in
        ap (λ b. by_place b (number_or_last names t)) (lt-ltb (number_or_last names t) (length names) i.below)
        ∙ ap (λ u. by_need (has_text needed u) u) i.is
        ∙ ap (λ b. by_need b t) g

    pub sent_number : (t : Text) → Has names t → Has names' t → Has needed t → number_from (names' ++ names') t 0 ≡ symbol_in (number_from names t 0)
    sent_number t h h' g =
        from_twice names' names' t 0 h' ∙ from_number names' t h' ∙ sym (needed_number t h g) ∙ ap symbol_in (sym (from_number names t h))

    -- no number leads to a text that isn't needed
    pub gone_number : (t : Text) → Has names' t → has_text needed t ≡ false → (n : ℕ) → nat_eq (number_or_last names' t) (symbol_in n) ≡ false
    gone_number t h g n = by (nat_eq (number_or_last names' t) (symbol_in n)) refl (split n)
      where
        at : (u : Text) (b : Bool) → has_text needed u ≡ b → Has names' u → number_or_last names' t ≡ by_need b u → true ≡ false
        at u true e k same =
            let i = number_is names' t h in
            let j = number_is names' u k in
            let tu : t ≡ u = sym i.is ∙ ap (λ m. get_or names' m []) same ∙ j.is in
            sym e ∙ ap (has_text needed) (sym tu) ∙ g
        at u false e k same = let i = number_is names' t h in let l = i.below in absurd (omega (arith, l, same))

        reach : (n < length names) ⊎ (length names ≤ n) → number_or_last names' t ≡ symbol_in n → true ≡ false
        reach (inl l) same =
            at (get_or names n []) (has_text needed (get_or names n [])) refl (fit.inside n l) (same ∙ place_inside n l)
        reach (inr l) same = let i = number_is names' t h in let b = i.below in let o = outside_at n l in absurd (omega (arith, b, o, same))

        by : (b : Bool) → nat_eq (number_or_last names' t) (symbol_in n) ≡ b → (n < length names) ⊎ (length names ≤ n) → b ≡ false
        by false e s = refl
        by true e s = reach s (eqb-true _ _ e)
