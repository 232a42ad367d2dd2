-- Texts in lists of texts.
use Rattle.std.proofs.Common.{◌≡◌, ◌⊎◌, inl, inr, ℕ, zero, suc, ◌+◌, ◌<◌, List, [], ◌∷◌, ◌++◌, length, get_or, Some, None, Bool, true, false, ◌||◌, cond, nat_lt, refl, sym, ap, ◌∙◌, arith}
use Rattle.std.specs.List.{list_any, position, position_or_len}
use Rattle.std.specs.Option.{is_some}
use Rattle.std.proofs.lemmas.Bool.{lt-ltb}
use Rattle.std.specs.Str.{bytes_eq}
use Rattle.std.proofs.lemmas.Slice.Eq.{bytes_eq-Decides}
use Rattle.st_code.specs.Texts.{Text, same_text}
use Rattle.st_code.specs.Resolved.{has_text}
use Rattle.program_image.proofs.Places.{same_text-bytes_eq}
use Rattle.st_shake.specs.Needed.{Has}

pub bytes_eq-is : (a b : Text) → bytes_eq a b ≡ true → a ≡ b
bytes_eq-is a b e = (bytes_eq-Decides a b).0 e

pub bytes_eq-itself : (a : Text) → bytes_eq a a ≡ true
bytes_eq-itself a = (bytes_eq-Decides a a).1 refl

pub same_is : (a b : Text) → same_text a b ≡ true → a ≡ b
same_is a b e = bytes_eq-is a b (sym (same_text-bytes_eq a b) ∙ e)

pub same_itself : (a : Text) → same_text a a ≡ true
same_itself a = same_text-bytes_eq a a ∙ bytes_eq-itself a

-- the two tests are one
same_test : (t u : Text) → bytes_eq t u ≡ same_text u t
same_test t u = by (bytes_eq t u) refl (same_text u t) refl
  where
    by : (a : Bool) → bytes_eq t u ≡ a → (b : Bool) → same_text u t ≡ b → a ≡ b
    by true e true f = refl
    by false e false f = refl
    by true e false f = sym (ap (λ v. same_text u v) (bytes_eq-is t u e) ∙ same_itself u) ∙ f
    by false e true f = sym e ∙ ap (bytes_eq t) (same_is u t f) ∙ bytes_eq-itself t

pub list_any-has : (names : List Text) (t : Text) → list_any (bytes_eq t) names ≡ has_text names t
list_any-has [] t = refl
list_any-has (u ∷ names) t = ap (λ b. b || list_any (bytes_eq t) names) (same_test t u) ∙ by (same_text u t) (list_any-has names t)
  where
    by : (b : Bool) → list_any (bytes_eq t) names ≡ has_text names t → (b || list_any (bytes_eq t) names) ≡ elim b [ true ↦ true | false ↦ has_text names t ]
    by true h = refl
    by false h = h

-- ---- texts in lists one behind the other

pub has_itself : (t : Text) (ts : List Text) → Has (t ∷ ts) t
has_itself t ts = ap (λ b. elim b [ true ↦ true | false ↦ has_text ts t ]) (same_itself t)

pub has_behind : (ts us : List Text) (t : Text) → Has us t → Has (ts ++ us) t
has_behind [] us t h = h
has_behind (u ∷ ts) us t h = by (same_text u t) (has_behind ts us t h)
  where
    by : (b : Bool) → Has (ts ++ us) t → elim b [ true ↦ true | false ↦ has_text (ts ++ us) t ] ≡ true
    by true g = refl
    by false g = g

pub has_before : (ts us : List Text) (t : Text) → Has ts t → Has (ts ++ us) t
has_before [] us t h = cc
has_before (u ∷ ts) us t h = by (same_text u t) (λ g. has_before ts us t g) h
  where
    by : (b : Bool) → (Has ts t → Has (ts ++ us) t) → elim b [ true ↦ true | false ↦ has_text ts t ] ≡ true → elim b [ true ↦ true | false ↦ has_text (ts ++ us) t ] ≡ true
    by true later g = refl
    by false later g = later g

pub has_either : (ts us : List Text) (t : Text) → Has (ts ++ us) t → Has ts t ⊎ Has us t
has_either [] us t h = inr h
has_either (u ∷ ts) us t h = by (same_text u t) (λ g. has_either ts us t g) h
  where
    by : (b : Bool) → (Has (ts ++ us) t → Has ts t ⊎ Has us t) → elim b [ true ↦ true | false ↦ has_text (ts ++ us) t ] ≡ true → (elim b [ true ↦ true | false ↦ has_text ts t ] ≡ true) ⊎ Has us t
    by true later g = inl refl
    by false later g = later g

pub one_text : (s t : Text) → Has (s ∷ []) t → s ≡ t
one_text s t h = by (same_text s t) refl h
  where
    by : (b : Bool) → same_text s t ≡ b → elim b [ true ↦ true | false ↦ false ] ≡ true → s ≡ t
    by true e g = same_is s t e
    by false e g = cc

-- ---- and by their places

pub has_at : (names : List Text) (n : ℕ) → n < length names → Has names (get_or names n [])
has_at [] n l = absurd (omega (arith, l))
has_at (t ∷ names) zero l = has_itself t names
has_at (t ∷ names) (suc n) l = has_behind (t ∷ []) names (get_or names n []) (has_at names n (omega (arith, l)))

pub record StandsAt (names : List Text) (t : Text) : Type 0 where
  pub place : ℕ
  pub below : place < length names
  pub is : get_or names place [] ≡ t

pub stands_at : (names : List Text) (t : Text) → Has names t → StandsAt names t
stands_at [] t h = cc
stands_at (u ∷ names) t h = by (same_text u t) refl h (λ g. stands_at names t g)
  where
    by : (b : Bool) → same_text u t ≡ b → elim b [ true ↦ true | false ↦ has_text names t ] ≡ true → (Has names t → StandsAt names t) → StandsAt (u ∷ names) t
    by true e g later = record { place = 0; below = omega arith; is = same_is u t e }
    by false e g later = let s = later g in record { place = suc s.place; below = omega (arith, s.below); is = s.is }

-- ---- and whether a place is found

found-if : (b : Bool) (n : ℕ) → is_some (cond b (Some n) None) ≡ b
found-if true n = refl
found-if false n = refl

low-any : {X : Type 0} (p : X → Bool) (xs : List X) → nat_lt (position_or_len p xs) (length xs) ≡ list_any p xs
low-any p [] = refl
low-any p (x ∷ xs) = by (p x) refl (low-any p xs)
  where
    by : (b : Bool) → p x ≡ b → nat_lt (position_or_len p xs) (length xs) ≡ list_any p xs → nat_lt (position_or_len p (x ∷ xs)) (length (x ∷ xs)) ≡ list_any p (x ∷ xs)
    by true e later = rw e (lt-ltb 0 (suc (length xs)) (omega arith))
    by false e later =
        let same : nat_lt (1 + position_or_len p xs) (suc (length xs)) ≡ nat_lt (position_or_len p xs) (length xs) = grind arith in
        rw e (same ∙ later)

-- a text has a place in a list where the list has it
pub found-has : (names : List Text) (t : Text) → is_some (position (bytes_eq t) names) ≡ has_text names t
found-has names t = found-if (nat_lt (position_or_len (bytes_eq t) names) (length names)) (position_or_len (bytes_eq t) names) ∙ low-any (bytes_eq t) names ∙ list_any-has names t
