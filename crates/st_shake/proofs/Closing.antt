-- The closure of selectors under methods is the least closed set.
use Rattle.std.proofs.Common.{◌≡◌, ◌⊎◌, inl, inr, ℕ, zero, suc, ◌≤◌, ◌<◌, Bool, true, false, List, [], ◌∷◌, ◌++◌, length, Option, Some, None, refl, ap, ◌∙◌, subst, arith}
use Rattle.st_code.specs.Texts.{Text}
use Rattle.st_code.specs.Resolved.{has_text}
use Rattle.st_shake.specs.Needed.{Method, Picked, behind, picked, closed, closure, Has, OneOf, IsClosed, IsLeast}
use Rattle.st_shake.proofs.Texts.{has_before, has_behind, has_either}

-- ---- one method is taken

-- what is picked was there, with a selector that is had, and the others are what is left
pub record IsPicked (texts : List Text) (methods : List Method) (k : Picked) : Type 0 where
  pub had : Has texts k.method.selector
  pub there : OneOf k.method methods
  pub left : (m : Method) → OneOf m methods → (m ≡ k.method) ⊎ OneOf m k.others
  pub from : (m : Method) → OneOf m k.others → OneOf m methods
  pub fewer : length k.others < length methods

abbrev Picks : List Text → List Method → Option Picked → Type 0
Picks texts methods None = (m : Method) → OneOf m methods → has_text texts m.selector ≡ false
Picks texts methods (Some k) = IsPicked texts methods k

pick_behind : (texts : List Text) (m : Method) (methods : List Method) (o : Option Picked) → has_text texts m.selector ≡ false → Picks texts methods o → Picks texts (m ∷ methods) (behind m o)
pick_behind texts m methods None e h = λ k one. by k one
  where
    by : (k : Method) → (k ≡ m) ⊎ OneOf k methods → has_text texts k.selector ≡ false
    by k (inl same) = ap (λ (j : Method). has_text texts j.selector) same ∙ e
    by k (inr one) = h k one
pick_behind texts m methods (Some k) e h =
    record {
      had = h.had;
      there = inr h.there;
      left = λ j one. left j one;
      from = λ j one. from j one;
      fewer = let l = h.fewer in omega arith;
    }
  where
    left : (j : Method) → (j ≡ m) ⊎ OneOf j methods → (j ≡ k.method) ⊎ ((j ≡ m) ⊎ OneOf j k.others)
    left j (inl same) = inr (inl same)
    left j (inr one) = after (h.left j one)
      where
        after : (j ≡ k.method) ⊎ OneOf j k.others → (j ≡ k.method) ⊎ ((j ≡ m) ⊎ OneOf j k.others)
        after (inl same) = inl same
        after (inr one') = inr (inr one')

    from : (j : Method) → (j ≡ m) ⊎ OneOf j k.others → (j ≡ m) ⊎ OneOf j methods
    from j (inl same) = inl same
    from j (inr one) = inr (h.from j one)

picks : (texts : List Text) (methods : List Method) → Picks texts methods (picked texts methods)
picks texts [] = λ m one. absurd one
picks texts (m ∷ methods) = by (picks texts methods) (has_text texts m.selector) refl
  where
    by : Picks texts methods (picked texts methods) → (b : Bool) → has_text texts m.selector ≡ b → Picks texts (m ∷ methods) (elim b [ true ↦ Some (record { method = m; others = methods }) | false ↦ behind m (picked texts methods) ])
    by later true e = record { had = e; there = inl refl; left = λ k one. one; from = λ k one. inr one; fewer = omega arith }
    by later false e = pick_behind texts m methods (picked texts methods) e later

-- ---- the closure

grows : (n : ℕ) (methods : List Method) (texts : List Text) (t : Text) → Has texts t → Has (closed n methods texts) t
grows zero methods texts t h = h
grows (suc n) methods texts t h = by (λ k. grows n k.others (k.method.texts ++ texts) t (has_behind k.method.texts texts t h)) (picked texts methods)
  where
    by : ((k : Picked) → Has (closed n k.others (k.method.texts ++ texts)) t) → (o : Option Picked) → Has (elim o [ None ↦ texts | Some k ↦ closed n k.others (k.method.texts ++ texts) ]) t
    by later None = h
    by later (Some k) = later k

abbrev Closes : List Method → List Text → Type 0
Closes methods set = (m : Method) → OneOf m methods → Has set m.selector → (t : Text) → Has m.texts t → Has set t

closes : (n : ℕ) (methods : List Method) (texts : List Text) → length methods ≤ n → Closes methods (closed n methods texts)
closes zero [] texts le = λ m one h t g. absurd one
closes zero (k ∷ methods) texts le = absurd (omega (arith, le))
closes (suc n) methods texts le = by (λ k l. closes n k.others (k.method.texts ++ texts) l) (picked texts methods) (picks texts methods)
  where
    by : ((k : Picked) → length k.others ≤ n → Closes k.others (closed n k.others (k.method.texts ++ texts))) → (o : Option Picked) → Picks texts methods o → Closes methods (elim o [ None ↦ texts | Some k ↦ closed n k.others (k.method.texts ++ texts) ])
    by later None p = λ m one h t g. let no = p m one in cc
    by later (Some k) p = λ m one h t g. at m (p.left m one) h t g
      where
        at : (m : Method) → (m ≡ k.method) ⊎ OneOf m k.others → Has (closed n k.others (k.method.texts ++ texts)) m.selector → (t : Text) → Has m.texts t → Has (closed n k.others (k.method.texts ++ texts)) t
        at m (inl same) h t g = grows n k.others (k.method.texts ++ texts) t (has_before k.method.texts texts t (subst (λ (j : Method). Has j.texts t) same g))
        at m (inr one) h t g = later k (let l = p.fewer in omega arith) m one h t g

within : (other : List Text) (n : ℕ) (methods : List Method) (texts : List Text) → ((t : Text) → Has texts t → Has other t) → IsClosed methods other → (t : Text) → Has (closed n methods texts) t → Has other t
within other zero methods texts first is t h = first t h
within other (suc n) methods texts first is t h = by (λ k. within other n k.others (k.method.texts ++ texts)) (picked texts methods) (picks texts methods) h
  where
    by : ((k : Picked) → ((t : Text) → Has (k.method.texts ++ texts) t → Has other t) → IsClosed k.others other → (t : Text) → Has (closed n k.others (k.method.texts ++ texts)) t → Has other t) → (o : Option Picked) → Picks texts methods o → Has (elim o [ None ↦ texts | Some k ↦ closed n k.others (k.method.texts ++ texts) ]) t → Has other t
    by later None p h = first t h
    by later (Some k) p h = later k (λ u g. more u (has_either k.method.texts texts u g)) (record { by = λ m one. is.by m (p.from m one) }) t h
      where
        more : (u : Text) → Has k.method.texts u ⊎ Has texts u → Has other u
        more u (inl g) = is.by k.method p.there (first k.method.selector p.had) u g
        more u (inr g) = first u g

pub closure_is_least : (methods : List Method) (first : List Text) → IsLeast methods first (closure methods first)
unfolding closure
closure_is_least methods first =
    record {
      has_first = λ t h. grows (length methods) methods first t h;
      is_closed = record { by = closes (length methods) methods first (omega arith) };
      least = λ other h is t g. within other (length methods) methods first h is t g;
    }
