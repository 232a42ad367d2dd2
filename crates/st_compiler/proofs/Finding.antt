-- Where a name stands in a list.
use Rattle.std.proofs.Common.{◌≡◌, ℕ, suc, ◌+◌, ◌<◌, Bool, true, false, List, [], ◌∷◌, ◌++◌, map, drop, length, get_or, Option, Some, None, refl, ap, sym, ◌∙◌, arith}
use Rattle.std.proofs.Math.Seq.{drop-cons}
use Rattle.st_code.specs.Texts.{Text, same_text}
use Rattle.st_code.specs.Resolved.{text_in}

-- an element and those behind it
pub drop-at : {X Y : Type 0} (f : X → Y) (xs : List X) (i : ℕ) (x : X) → x ≡ get_or xs i x → i < length xs → map f (drop i xs) ≡ f x ∷ map f (drop (i + 1) xs)
drop-at f xs i x there low =
    let next : suc i ≡ i + 1 = omega arith in
    ap (map f) (drop-cons xs i x low ∙ ap (λ y. y ∷ drop (suc i) xs) (sym there)) ∙ ap (λ j. f x ∷ map f (drop j xs)) next

pub drop-here : {X : Type 0} (xs : List X) (i : ℕ) (x : X) → x ≡ get_or xs i x → i < length xs → drop i xs ≡ x ∷ drop (i + 1) xs
drop-here xs i x there low =
    let next : suc i ≡ i + 1 = omega arith in
    drop-cons xs i x low ∙ ap (λ y. y ∷ drop (suc i) xs) (sym there) ∙ ap (λ j. x ∷ drop j xs) next

-- ---- two lists of names, one behind the other

behind-first : (b : Bool) (n k : ℕ) (o p : Option ℕ) → (Some k ≡ o → Some k ≡ p) → Some k ≡ elim b [ true ↦ Some n | false ↦ o ] → Some k ≡ elim b [ true ↦ Some n | false ↦ p ]
behind-first true n k o p more is = is
behind-first false n k o p more is = more is

pub text_in-first : (us vs : List Text) (t : Text) (n k : ℕ) → Some k ≡ text_in n us t → Some k ≡ text_in n (us ++ vs) t
text_in-first [] vs t n k is = absurd (grind (arith, is))
text_in-first (u ∷ us) vs t n k is = behind-first (same_text u t) n k (text_in (suc n) us t) (text_in (suc n) (us ++ vs) t) (text_in-first us vs t (suc n) k) is

abbrev if_found : Bool → ℕ → Option ℕ → Option ℕ
if_found b n o = elim b [ true ↦ Some n | false ↦ o ]

behind-none : (b : Bool) (n : ℕ) (o p q : Option ℕ) → (o ≡ None → p ≡ q) → if_found b n o ≡ None → if_found b n p ≡ q
behind-none true n o p q more is = absurd (grind (arith, is))
behind-none false n o p q more is = more is

pub text_in-second : (us vs : List Text) (t : Text) (n m : ℕ) → text_in n us t ≡ None → m ≡ n + length us → text_in n (us ++ vs) t ≡ text_in m vs t
text_in-second [] vs t n m none is = let same : n ≡ m = omega arith in ap (λ k. text_in k vs t) same
text_in-second (u ∷ us) vs t n m none is = behind-none (same_text u t) n (text_in (suc n) us t) (text_in (suc n) (us ++ vs) t) (text_in m vs t) (λ not. text_in-second us vs t (suc n) m not (omega arith)) none

shifted : (b : Bool) (n m k l : ℕ) (o p : Option ℕ) → m ≡ l + n → (Some k ≡ o → Some (l + k) ≡ p) → Some k ≡ if_found b n o → Some (l + k) ≡ if_found b m p
shifted true n m k l o p at more is = grind (arith, is, at)
shifted false n m k l o p at more is = more is

pub text_in-shift : (us : List Text) (t : Text) (n m k l : ℕ) → m ≡ l + n → Some k ≡ text_in n us t → Some (l + k) ≡ text_in m us t
text_in-shift [] t n m k l at is = absurd (grind (arith, is))
text_in-shift (u ∷ us) t n m k l at is = shifted (same_text u t) n m k l (text_in (suc n) us t) (text_in (suc m) us t) at (text_in-shift us t (suc n) (suc m) k l (omega arith)) is

missing : (b : Bool) (n m : ℕ) (o p : Option ℕ) → (o ≡ None → p ≡ None) → if_found b n o ≡ None → if_found b m p ≡ None
missing true n m o p more is = absurd (grind (arith, is))
missing false n m o p more is = more is

pub text_in-none : (us : List Text) (t : Text) (n m : ℕ) → text_in n us t ≡ None → text_in m us t ≡ None
text_in-none [] t n m is = refl
text_in-none (u ∷ us) t n m is = missing (same_text u t) n m (text_in (suc n) us t) (text_in (suc m) us t) (text_in-none us t (suc n) (suc m)) is
