-- Names by number: the number of a text, and that each text has one.
use Rattle.std.proofs.Common.{◌≡◌, ℕ, zero, suc, ◌+◌, ◌<◌, Bool, true, false, not, ◌||◌, cond, List, [], ◌∷◌, ◌++◌, map, length, get_or, Option, Some, None, refl, ap, sym, ◌∙◌, arith, nat_eq, nat_lt, if◌then◌else◌}
use Rattle.std.specs.Str.{bytes_eq}
use Rattle.std.specs.List.{position, position_or_len, list_any}
use Rattle.std.proofs.lemmas.Bool.{ltb-false}
use Rattle.std.proofs.lemmas.Bool.Decides.{nat_tests}
use Rattle.std.proofs.lemmas.Option.{cond_some}
use Rattle.std.proofs.lemmas.List.Sums.{prefix_len-le-length}
use Rattle.std.proofs.lemmas.Cmp.{nat_list_eq_equiv}
use Rattle.std.proofs.lemmas.Slice.Eq.{bytes_eq-Decides}
use Rattle.indexmap.specs.IndexSet.{insert_key}
use Rattle.st_base.specs.BuiltIns.{messages}
use Rattle.st_code.specs.Texts.{Text, same_text}
use Rattle.st_code.specs.Named.{NamedUnit}
use Rattle.st_code.specs.Resolved.{text_in, number_or_last}
use Rattle.program_image.specs.Spelled.{spelled, names_in, selector_of, units_texts}
use Rattle.program_image.proofs.Places.{same_text-bytes_eq}

-- ---- the number of a text is its first place

abbrev or_end : Option ℕ → ℕ → ℕ
or_end (Some m) e = m
or_end None e = e

number-or : (o : Option ℕ) (e : ℕ) → elim o [ Some n ↦ n | None ↦ e ] ≡ or_end o e
number-or None e = refl
number-or (Some n) e = refl

place-step : (b c : Bool) → b ≡ c → (n k at : ℕ) (o : Option ℕ) → or_end o (suc n + k) ≡ suc n + at → or_end (elim b [ true ↦ Some n | false ↦ o ]) (n + suc k) ≡ n + cond (not c) (1 + at) 0
place-step true true same n k at o is = omega arith
place-step false false same n k at o is = ap (or_end o) (omega arith) ∙ is ∙ omega arith
place-step true false same n k at o is = absurd (grind (arith, same))
place-step false true same n k at o is = absurd (grind (arith, same))

bytes-same : (t u : Text) → same_text u t ≡ bytes_eq t u
bytes-same t u = same_text-bytes_eq u t ∙ nat_list_eq_equiv.symm u t

text-place : (names : List Text) (t : Text) (n : ℕ) → or_end (text_in n names t) (n + length names) ≡ n + position_or_len (bytes_eq t) names
text-place [] t n = refl
text-place (u ∷ names) t n =
    place-step (same_text u t) (bytes_eq t u) (bytes-same t u) n (length names) (position_or_len (bytes_eq t) names) (text_in (suc n) names t) (text-place names t (suc n))

pub number-place : (names : List Text) (t : Text) → number_or_last names t ≡ position_or_len (bytes_eq t) names
number-place names t =
    number-or (text_in 0 names t) (length names) ∙ ap (or_end (text_in 0 names t)) (omega arith) ∙ text-place names t 0 ∙ omega arith

pub named-there : (names : List Text) (t : Text) (n : ℕ) → Some n ≡ position (bytes_eq t) names → n ≡ number_or_last names t
named-there names t n is = sym (cond_some (nat_lt (position_or_len (bytes_eq t) names) (length names)) (position_or_len (bytes_eq t) names) n (sym is)).1 ∙ sym (number-place names t)

not-lower : (b : Bool) (n : ℕ) → None ≡ cond b (Some n) None → b ≡ false
not-lower true n is = absurd (grind (arith, is))
not-lower false n is = refl

pub named-not : (names : List Text) (t : Text) → None ≡ position (bytes_eq t) names → length names ≡ number_or_last names t
named-not names t is =
    let past = ltb-false (position_or_len (bytes_eq t) names) (length names) (not-lower (nat_lt (position_or_len (bytes_eq t) names) (length names)) (position_or_len (bytes_eq t) names) is) in
    let most = prefix_len-le-length (λ (u : Text). not (bytes_eq t u)) names in
    let end : length names ≡ position_or_len (bytes_eq t) names = omega (arith, past, most) in
    end ∙ sym (number-place names t)

-- ---- each text once

abbrev pub IsDistinct : List Text → Type 0
IsDistinct [] = Unit {0}
IsDistinct (t ∷ names) = (list_any (bytes_eq t) names ≡ false) × IsDistinct names

left-false : (a b : Bool) → (a || b) ≡ false → a ≡ false
left-false true b is = is
left-false false b is = refl

right-false : (a b : Bool) → (a || b) ≡ false → b ≡ false
right-false true b is = absurd (grind (arith, is))
right-false false b is = is

any-last : (p : Text → Bool) (names : List Text) (t : Text) → list_any p names ≡ false → p t ≡ false → list_any p (names ++ t ∷ []) ≡ false
any-last p [] t none is = ap (λ b. b || false) is
any-last p (u ∷ names) t none is =
    ap (λ b. b || list_any p (names ++ t ∷ [])) (left-false (p u) (list_any p names) none) ∙ any-last p names t (right-false (p u) (list_any p names) none) is

distinct-last : (names : List Text) (t : Text) → IsDistinct names → list_any (bytes_eq t) names ≡ false → IsDistinct (names ++ t ∷ [])
distinct-last [] t apart new = (refl, tt)
distinct-last (u ∷ names) t apart new = (
  any-last (bytes_eq u) names t apart.0 (nat_list_eq_equiv.symm u t ∙ left-false (bytes_eq t u) (list_any (bytes_eq t) names) new),
  distinct-last names t apart.1 (right-false (bytes_eq t u) (list_any (bytes_eq t) names) new),
)

distinct-if : (b : Bool) (names : List Text) (t : Text) → list_any (bytes_eq t) names ≡ b → IsDistinct names → IsDistinct (if b then names else names ++ t ∷ [])
distinct-if true names t is apart = apart
distinct-if false names t is apart = distinct-last names t apart is

distinct-spelled : (names texts : List Text) → IsDistinct names → IsDistinct (spelled names texts)
distinct-spelled names [] apart = apart
distinct-spelled names (t ∷ texts) apart = distinct-spelled (insert_key bytes_eq names t) texts (distinct-if (list_any (bytes_eq t) names) names t refl apart)

pub names-distinct : (units : List NamedUnit) → IsDistinct (names_in units)
unfolding names_in
names-distinct units = distinct-spelled (spelled [] (map selector_of messages)) (units_texts units) (distinct-spelled [] (map selector_of messages) tt)

-- ---- a number is a text's exactly where the text stands there

any-at : (p : Text → Bool) (names : List Text) (s : ℕ) → s < length names → list_any p names ≡ false → p (get_or names s []) ≡ false
any-at p [] s low none = absurd (omega (arith, low))
any-at p (u ∷ names) zero low none = left-false (p u) (list_any p names) none
any-at p (u ∷ names) (suc s) low none = any-at p names s (omega (arith, low)) (right-false (p u) (list_any p names) none)

first-text : (b : Bool) (at : ℕ) → nat_eq (cond (not b) (1 + at) 0) 0 ≡ b
first-text true at = refl
first-text false at = grind (arith, nat_tests)

zero-not : (s : ℕ) → nat_eq 0 (suc s) ≡ false
zero-not s = grind (arith, nat_tests)

later-text : (b c : Bool) (at s : ℕ) → (b ≡ true → c ≡ false) → nat_eq at s ≡ c → nat_eq (cond (not b) (1 + at) 0) (suc s) ≡ c
later-text true c at s apart is = zero-not s ∙ sym (apart refl)
later-text false c at s apart is = next-equal at s ∙ is
  where
    next-equal : (m n : ℕ) → nat_eq (1 + m) (suc n) ≡ nat_eq m n
    next-equal m n = grind (arith, nat_tests)

stands-at : (names : List Text) (t : Text) (s : ℕ) → IsDistinct names → s < length names → nat_eq (position_or_len (bytes_eq t) names) s ≡ bytes_eq t (get_or names s [])
stands-at [] t s apart low = absurd (omega (arith, low))
stands-at (u ∷ names) t zero apart low = first-text (bytes_eq t u) (position_or_len (bytes_eq t) names)
stands-at (u ∷ names) t (suc s) apart low =
    later-text (bytes_eq t u) (bytes_eq t (get_or names s [])) (position_or_len (bytes_eq t) names) s
    (λ is. ap (λ (v : Text). bytes_eq v (get_or names s [])) ((bytes_eq-Decides t u).0 is) ∙ any-at (bytes_eq u) names s (omega (arith, low)) apart.0)
    (stands-at names t s apart.1 (omega (arith, low)))

pub number-is : (names : List Text) (t : Text) (s : ℕ) → IsDistinct names → s < length names → nat_eq (number_or_last names t) s ≡ same_text t (get_or names s [])
number-is names t s apart low = ap (λ n. nat_eq n s) (number-place names t) ∙ stands-at names t s apart low ∙ sym (same_text-bytes_eq t (get_or names s []))
