-- Texts and lists of them, as the static rules compare them and as names are found.
use Rattle.std.proofs.Common.{◌≡◌, ℕ, suc, ◌+◌, List, [], ◌∷◌, ◌++◌, length, Option, Some, None, Bool, true, false, ◌&&◌, ◌||◌, nat_eq, refl, sym, ap, ◌∙◌, arith, eqb-true, eq-eqb, true≢false}
use Rattle.std.proofs.lemmas.List.Folds.{list_any-append}
use Rattle.std.specs.Str.{bytes_eq}
use Rattle.std.specs.List.{list_any, find}
use Rattle.st_code.specs.Texts.{Text, same_text}
use Rattle.st_code.specs.Resolved.{SharedName, same_shared, place_in, ClassNames, class_in, text_in}
use Rattle.st_rules.proofs.SoundNames.{same_is, same_itself}

other_way : {A : Type 0} → false ≡ true → A
other_way e = let none : ⊥ = true≢false (sym e) in absurd none

pub both_true : (a b : Bool) → (a && b) ≡ true → (a ≡ true) × (b ≡ true)
both_true true b e = (refl, e)
both_true false b e = other_way e

pub both_false : (a b : Bool) → (a || b) ≡ false → (a ≡ false) × (b ≡ false)
both_false true b e = other_way (sym e)
both_false false b e = (refl, e)

pub or_left : (a b : Bool) → a ≡ true → (a || b) ≡ true
or_left a b e = ap (λ (c : Bool). c || b) e

pub or_right : (a b : Bool) → b ≡ true → (a || b) ≡ true
or_right true b e = refl
or_right false b e = e

-- ---- equal texts

pub eq_is : (t u : Text) → bytes_eq t u ≡ true → t ≡ u
eq_is [] [] e = refl
eq_is [] (y ∷ u) e = other_way e
eq_is (x ∷ t) [] e = other_way e
eq_is (x ∷ t) (y ∷ u) e =
    let h = both_true (nat_eq x y) (bytes_eq t u) e in
    ap (λ (n : ℕ). n ∷ t) (eqb-true x y h.0) ∙ ap (λ (v : Text). y ∷ v) (eq_is t u h.1)

pub eq_itself : (t : Text) → bytes_eq t t ≡ true
eq_itself [] = refl
eq_itself (x ∷ t) = ap (λ (b : Bool). b && bytes_eq t t) (eq-eqb x x refl) ∙ eq_itself t

pub same_bytes : (u t : Text) → same_text u t ≡ bytes_eq t u
same_bytes u t = go (same_text u t) (bytes_eq t u) refl refl
  where
    go : (a b : Bool) → same_text u t ≡ a → bytes_eq t u ≡ b → a ≡ b
    go true true e f = refl
    go false false e f = refl
    go true false e f = sym (eq_itself t) ∙ sym (ap (bytes_eq t) (same_is u t e)) ∙ f
    go false true e f = sym e ∙ ap (λ (v : Text). same_text u v) (eq_is t u f) ∙ same_itself u

-- ---- lists

pub find_some : {A : Type 0} (p : A → Bool) (xs : List A) (x : A) → find p xs ≡ Some x → list_any p xs ≡ true
find_some p [] x e = let none : ⊥ = grind (arith, e) in absurd none
find_some p (y ∷ xs) x e = go (p y) refl e (find_some p xs x)
  where
    go : (b : Bool) → p y ≡ b → find p (y ∷ xs) ≡ Some x → (find p xs ≡ Some x → list_any p xs ≡ true) → list_any p (y ∷ xs) ≡ true
    go true q e on = rw q refl
    go false q e on = let f : find p (y ∷ xs) ≡ find p xs = rw q refl in let g : list_any p (y ∷ xs) ≡ list_any p xs = rw q refl in g ∙ on (sym f ∙ e)

pub find_none : {A : Type 0} (p : A → Bool) (xs : List A) → list_any p xs ≡ false → find p xs ≡ None
find_none p [] e = refl
find_none p (y ∷ xs) e =
    let h = both_false (p y) (list_any p xs) e in
    let f : find p (y ∷ xs) ≡ find p xs = rw h.0 refl in
    f ∙ find_none p xs h.1

-- the first of a longer list
pub find_append : {A : Type 0} (p : A → Bool) (xs ys : List A) (x : A) → find p xs ≡ Some x → find p (xs ++ ys) ≡ Some x
find_append p [] ys x e = let none : ⊥ = grind (arith, e) in absurd none
find_append p (y ∷ xs) ys x e = go (p y) refl e (find_append p xs ys x)
  where
    go : (b : Bool) → p y ≡ b → find p (y ∷ xs) ≡ Some x → (find p xs ≡ Some x → find p (xs ++ ys) ≡ Some x) → find p (y ∷ (xs ++ ys)) ≡ Some x
    go true q e on = let f : find p (y ∷ xs) ≡ Some y = rw q refl in let g : find p (y ∷ (xs ++ ys)) ≡ Some y = rw q refl in g ∙ sym f ∙ e
    go false q e on = let f : find p (y ∷ xs) ≡ find p xs = rw q refl in let g : find p (y ∷ (xs ++ ys)) ≡ find p (xs ++ ys) = rw q refl in g ∙ on (sym f ∙ e)

pub find_behind : {A : Type 0} (p : A → Bool) (xs ys : List A) → list_any p xs ≡ false → find p (xs ++ ys) ≡ find p ys
find_behind p [] ys e = refl
find_behind p (y ∷ xs) ys e =
    let h = both_false (p y) (list_any p xs) e in
    let f : find p (y ∷ (xs ++ ys)) ≡ find p (xs ++ ys) = rw h.0 refl in
    f ∙ find_behind p xs ys h.1

pub any_left : {A : Type 0} (p : A → Bool) (xs ys : List A) → list_any p xs ≡ true → list_any p (xs ++ ys) ≡ true
any_left p xs ys e = list_any-append p xs ys ∙ or_left (list_any p xs) (list_any p ys) e

pub any_right : {A : Type 0} (p : A → Bool) (xs ys : List A) → list_any p ys ≡ true → list_any p (xs ++ ys) ≡ true
any_right p xs ys e = list_any-append p xs ys ∙ or_right (list_any p xs) (list_any p ys) e

-- ---- names that are found

abbrev pub Found : Option ℕ → Type 0
Found o = (n : ℕ) × (o ≡ Some n)

pub text_found : (n : ℕ) (us : List Text) (t : Text) → list_any (bytes_eq t) us ≡ true → Found (text_in n us t)
text_found n [] t e = other_way e
text_found n (u ∷ us) t e = go (same_text u t) (same_bytes u t) (text_found (suc n) us t)
  where
    go : (b : Bool) → b ≡ bytes_eq t u → (list_any (bytes_eq t) us ≡ true → Found (text_in (suc n) us t)) → Found (elim b [ true ↦ Some n | false ↦ text_in (suc n) us t ])
    go true q on = (n, refl)
    go false q on = on (sym (ap (λ (b : Bool). b || list_any (bytes_eq t) us) (sym q)) ∙ e)

pub text_absent : (n : ℕ) (us : List Text) (t : Text) → text_in n us t ≡ None → list_any (bytes_eq t) us ≡ false
text_absent n [] t e = refl
text_absent n (u ∷ us) t e = go (same_text u t) (same_bytes u t) e (text_absent (suc n) us t)
  where
    go : (b : Bool) → b ≡ bytes_eq t u → ◌≡◌ {A = Option ℕ} (elim b [ true ↦ Some n | false ↦ text_in (suc n) us t ]) None → (text_in (suc n) us t ≡ None → list_any (bytes_eq t) us ≡ false) → list_any (bytes_eq t) (u ∷ us) ≡ false
    go true q e on = let none : ⊥ = grind (arith, e) in absurd none
    go false q e on = ap (λ (b : Bool). b || list_any (bytes_eq t) us) (sym q) ∙ on e

-- a variable of the program is there
abbrev pub Held : List SharedName → SharedName → Type 0
Held ys x = list_any (λ y. same_shared y x) ys ≡ true

pub held_found : (n : ℕ) (ys : List SharedName) (x : SharedName) → Held ys x → Found (place_in n ys x)
held_found n [] x e = other_way e
held_found n (y ∷ ys) x e = go (same_shared y x) refl (held_found (suc n) ys x)
  where
    go : (b : Bool) → same_shared y x ≡ b → (Held ys x → Found (place_in (suc n) ys x)) → Found (elim b [ true ↦ Some n | false ↦ place_in (suc n) ys x ])
    go true q on = (n, refl)
    go false q on = on (sym (ap (λ (b : Bool). b || list_any (λ z. same_shared z x) ys) q) ∙ e)

-- a class of this name is there
abbrev pub named_in : Text → List ClassNames → Bool
named_in t cs = list_any (λ c. bytes_eq t c.row.name) cs

pub class_found : (n : ℕ) (cs : List ClassNames) (t : Text) → named_in t cs ≡ true → Found (class_in n cs t)
class_found n [] t e = other_way e
class_found n (c ∷ cs) t e = go (same_text c.row.name t) (same_bytes c.row.name t) (class_found (suc n) cs t)
  where
    go : (b : Bool) → b ≡ bytes_eq t c.row.name → (named_in t cs ≡ true → Found (class_in (suc n) cs t)) → Found (elim b [ true ↦ Some n | false ↦ class_in (suc n) cs t ])
    go true q on = (n, refl)
    go false q on = on (sym (ap (λ (b : Bool). b || named_in t cs) (sym q)) ∙ e)

pub class_absent : (n : ℕ) (cs : List ClassNames) (t : Text) → named_in t cs ≡ false → class_in n cs t ≡ None
class_absent n [] t e = refl
class_absent n (c ∷ cs) t e = let h = both_false (bytes_eq t c.row.name) (named_in t cs) e in go (same_text c.row.name t) (same_bytes c.row.name t ∙ h.0) (class_absent (suc n) cs t h.1)
  where
    go : (b : Bool) → b ≡ false → class_in (suc n) cs t ≡ None → ◌≡◌ {A = Option ℕ} (elim b [ true ↦ Some n | false ↦ class_in (suc n) cs t ]) None
    go true q on = other_way (sym q)
    go false q on = on

pub class_kept : (n : ℕ) (cs ds : List ClassNames) (t : Text) (k : ℕ) → class_in n cs t ≡ Some k → class_in n (cs ++ ds) t ≡ Some k
class_kept n [] ds t k e = let none : ⊥ = grind (arith, e) in absurd none
class_kept n (c ∷ cs) ds t k e = go (same_text c.row.name t) e (class_kept (suc n) cs ds t k)
  where
    go : (b : Bool) → elim b [ true ↦ Some n | false ↦ class_in (suc n) cs t ] ≡ Some k → (class_in (suc n) cs t ≡ Some k → class_in (suc n) (cs ++ ds) t ≡ Some k) → elim b [ true ↦ Some n | false ↦ class_in (suc n) (cs ++ ds) t ] ≡ Some k
    go true e on = e
    go false e on = on e

-- a class that comes behind those of other names
pub class_behind : (n : ℕ) (cs : List ClassNames) (c : ClassNames) (t : Text) → named_in t cs ≡ false → bytes_eq t c.row.name ≡ true → class_in n (cs ++ c ∷ []) t ≡ Some (n + length cs)
class_behind n [] c t e f = let m : n ≡ n + 0 = omega arith in go (same_text c.row.name t) (same_bytes c.row.name t ∙ f) m
  where
    go : (b : Bool) → b ≡ true → n ≡ n + 0 → elim b [ true ↦ Some n | false ↦ None ] ≡ Some (n + 0)
    go true q m = ap Some m
    go false q m = other_way q
class_behind n (d ∷ cs) c t e f =
    let h = both_false (bytes_eq t d.row.name) (named_in t cs) e in
    let m : suc n + length cs ≡ n + length (d ∷ cs) = omega arith in
    go (same_text d.row.name t) (same_bytes d.row.name t ∙ h.0) (class_behind (suc n) cs c t h.1 f ∙ ap Some m)
  where
    go : (b : Bool) → b ≡ false → class_in (suc n) (cs ++ c ∷ []) t ≡ Some (n + length (d ∷ cs)) → elim b [ true ↦ Some n | false ↦ class_in (suc n) (cs ++ c ∷ []) t ] ≡ Some (n + length (d ∷ cs))
    go true q on = other_way (sym q)
    go false q on = on

-- where one passes the first is found
pub found_one : {A : Type 0} (p : A → Bool) (xs : List A) → list_any p xs ≡ true → find p xs ≡ None → ⊥
found_one {A = A} p [] a f = true≢false (sym a)
found_one {A = A} p (y ∷ xs) a f = go (p y) refl (found_one p xs)
  where
    go : (b : Bool) → p y ≡ b → (list_any p xs ≡ true → find p xs ≡ None → ⊥) → ⊥
    go true q on = let g : find p (y ∷ xs) ≡ Some y = rw q refl in let e : ◌≡◌ {A = Option A} (Some y) None = sym g ∙ f in grind (arith, e)
    go false q on = let g : find p (y ∷ xs) ≡ find p xs = rw q refl in let i : list_any p (y ∷ xs) ≡ list_any p xs = rw q refl in on (sym i ∙ a) (sym g ∙ f)
