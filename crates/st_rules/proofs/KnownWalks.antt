-- Walks through classes whose superclasses have smaller numbers: what stands behind a level of a walk is on it.
use Rattle.std.proofs.Common.{◌≡◌, ℕ, zero, suc, ◌<◌, ◌⊎◌, inl, inr, List, [], ◌∷◌, ◌++◌, map, drop, Option, Some, None, refl, sym, ap, ◌∙◌, subst, arith}
use Rattle.st_code.specs.Program.{Program, Side, OfInstance, OfClass, OfMeta, class_at}
use Rattle.st_code.specs.BuiltIns.{object_class, class_class, metaclass_class}
use Rattle.st_code.specs.Lookup.{Level, level, some_superclasses, superclasses, walk}
use Rattle.st_rules.specs.Selves.{OnWalk}

abbrev OnList : ℕ → List ℕ → Type 0
OnList d [] = ⊥
OnList d (x ∷ xs) = (x ≡ d) ⊎ OnList d xs

-- a superclass has a smaller number, and where the classes of classes stand
pub record ClassTree (p : Program) : Type 0 where
  pub falls : (c a : ℕ) → (class_at p c).superclass ≡ Some a → a < c
  pub objects : (class_at p object_class).superclass ≡ None
  pub classes : (class_at p class_class).superclass ≡ Some object_class
  pub metaclasses : (class_at p metaclass_class).superclass ≡ Some object_class

-- ---- lists of levels

in_map : (s : Side) (xs : List ℕ) (l : Level) → OnWalk (map (level s) xs) l → (d : ℕ) × (level s d ≡ l) × OnList d xs
in_map s [] l h = absurd h
in_map s (x ∷ xs) l (inl e) = (x, e, inl refl)
in_map s (x ∷ xs) l (inr y) = let h = in_map s xs l y in (h.0, h.1, inr h.2)

to_map : (s : Side) (xs : List ℕ) (d : ℕ) → OnList d xs → OnWalk (map (level s) xs) (level s d)
to_map s [] d h = absurd h
to_map s (x ∷ xs) d (inl e) = inl (ap (level s) e)
to_map s (x ∷ xs) d (inr y) = inr (to_map s xs d y)

on_either : (xs ys : List Level) (l : Level) → OnWalk (xs ++ ys) l → OnWalk xs l ⊎ OnWalk ys l
on_either [] ys l h = inr h
on_either (x ∷ xs) ys l (inl e) = inl (inl e)
on_either (x ∷ xs) ys l (inr y) = elim (on_either xs ys l y) [ inl a ↦ inl (inr a) | inr b ↦ inr b ]

on_left : (xs ys : List Level) (l : Level) → OnWalk xs l → OnWalk (xs ++ ys) l
on_left [] ys l h = absurd h
on_left (x ∷ xs) ys l (inl e) = inl e
on_left (x ∷ xs) ys l (inr y) = inr (on_left xs ys l y)

on_right : (xs ys : List Level) (l : Level) → OnWalk ys l → OnWalk (xs ++ ys) l
on_right [] ys l h = h
on_right (x ∷ xs) ys l h = inr (on_right xs ys l h)

on_whole : (xs : List Level) (l : Level) → OnWalk (drop 1 xs) l → OnWalk xs l
on_whole [] l h = h
on_whole (x ∷ xs) l h = inr h

module _ (p : Program) (tree : ClassTree p) where
  -- ---- superclasses

  -- from the class above, if there is one
  abbrev above_by : ℕ → Option ℕ → List ℕ
  above_by n o = elim o [ None ↦ [] | Some above ↦ some_superclasses p n above ]

  enough : (n m c : ℕ) → c < n → c < m → some_superclasses p n c ≡ some_superclasses p m c
  enough zero m c l k = let none : ⊥ = omega (arith, l) in absurd none
  enough (suc n) zero c l k = let none : ⊥ = omega (arith, k) in absurd none
  enough (suc n) (suc m) c l k = ap (λ xs. c ∷ xs) (go (class_at p c).superclass refl (λ a e. let f = tree.falls c a e in enough n m a (omega (arith, f, l)) (omega (arith, f, k))))
    where
      go : (o : Option ℕ) → (class_at p c).superclass ≡ o → ((a : ℕ) → (class_at p c).superclass ≡ Some a → some_superclasses p n a ≡ some_superclasses p m a) → above_by n o ≡ above_by m o
      go None e on = refl
      go (Some a) e on = on a e

  chain : (n c d e : ℕ) → c < n → OnList d (some_superclasses p n c) → OnList e (some_superclasses p (suc d) d) → OnList e (some_superclasses p n c)
  chain zero c d e l h i = let none : ⊥ = omega (arith, l) in absurd none
  chain (suc n) c d e l (inl same) i =
      let j : OnList e (some_superclasses p (suc c) c) = subst (λ x. OnList e (some_superclasses p (suc x) x)) (sym same) i in
      subst (λ xs. OnList e xs) (enough (suc c) (suc n) c (omega arith) l) j
  chain (suc n) c d e l (inr y) i = inr (go (class_at p c).superclass refl (λ a f h. let k = tree.falls c a f in chain n a d e (omega (arith, k, l)) h i) y)
    where
      go : (o : Option ℕ) → (class_at p c).superclass ≡ o → ((a : ℕ) → (class_at p c).superclass ≡ Some a → OnList d (some_superclasses p n a) → OnList e (some_superclasses p n a)) → OnList d (elim o [ None ↦ [] | Some above ↦ some_superclasses p n above ]) → OnList e (elim o [ None ↦ [] | Some above ↦ some_superclasses p n above ])
      go None f on h = absurd h
      go (Some a) f on h = on a f h

  under_object : (n : ℕ) → some_superclasses p (suc n) object_class ≡ object_class ∷ []
  under_object n = ap (λ o. object_class ∷ elim o [ None ↦ [] | Some above ↦ some_superclasses p n above ]) tree.objects

  under_class : superclasses p class_class ≡ class_class ∷ object_class ∷ []
  unfolding superclasses
  under_class = ap (λ o. class_class ∷ elim o [ None ↦ [] | Some above ↦ some_superclasses p class_class above ]) tree.classes ∙ ap (λ xs. class_class ∷ xs) (under_object 19)

  under_metaclass : superclasses p metaclass_class ≡ metaclass_class ∷ object_class ∷ []
  unfolding superclasses
  under_metaclass = ap (λ o. metaclass_class ∷ elim o [ None ↦ [] | Some above ↦ some_superclasses p metaclass_class above ]) tree.metaclasses ∙ ap (λ xs. metaclass_class ∷ xs) (under_object 20)

  object_alone : superclasses p object_class ≡ object_class ∷ []
  unfolding superclasses
  object_alone = under_object 0

  -- ---- walks

  -- the levels of a class that stand on a walk stand on that of each class under it
  instance_on : (s : Side) (c d : ℕ) (m : Level) → OnList d (superclasses p c) → OnWalk (map (level s) (superclasses p d)) m → OnWalk (map (level s) (superclasses p c)) m
  unfolding superclasses
  instance_on s c d m h i =
      let k = in_map s (some_superclasses p (suc d) d) m i in
      subst (λ l. OnWalk (map (level s) (some_superclasses p (suc c) c)) l) k.1 (to_map s (some_superclasses p (suc c) c) k.0 (chain (suc c) c d k.0 (omega arith) h k.2))

  -- what a class of classes and Object add
  tail_on : (top : ℕ) (l m : Level) → superclasses p top ≡ top ∷ object_class ∷ [] → OnWalk (level OfInstance top ∷ level OfInstance object_class ∷ []) l → OnWalk (walk p l) m → OnWalk (level OfInstance top ∷ level OfInstance object_class ∷ []) m
  unfolding walk
  tail_on top l m e (inl same) i = subst (λ xs. OnWalk (map (level OfInstance) xs) m) e (subst (λ k. OnWalk (walk p k) m) (sym same) i)
  tail_on top l m e (inr (inl same)) i = inr (subst (λ xs. OnWalk (map (level OfInstance) xs) m) object_alone (subst (λ k. OnWalk (walk p k) m) (sym same) i))
  tail_on top l m e (inr (inr none)) i = absurd none

  abbrev class_tail : List Level
  class_tail = level OfInstance class_class ∷ level OfInstance object_class ∷ []

  abbrev meta_tail : List Level
  meta_tail = level OfInstance metaclass_class ∷ level OfInstance object_class ∷ []

  closed : (s : Side) (c : ℕ) (l m : Level) → OnWalk (walk p (level s c)) l → OnWalk (walk p l) m → OnWalk (walk p (level s c)) m
  unfolding walk
  closed OfInstance c l m h i =
      let k = in_map OfInstance (superclasses p c) l h in
      instance_on OfInstance c k.0 m k.2 (subst (λ x. OnWalk (walk p x) m) (sym k.1) i)
  closed OfClass c l m h i = elim (on_either (map (level OfClass) (superclasses p c)) class_tail l h) [
    | inl a ↦ class_on c l m a i
    | inr b ↦ on_right (map (level OfClass) (superclasses p c)) class_tail m (tail_on class_class l m under_class b i)
  ]
    where
      class_on : (c : ℕ) (l m : Level) → OnWalk (map (level OfClass) (superclasses p c)) l → OnWalk (walk p l) m → OnWalk (map (level OfClass) (superclasses p c) ++ class_tail) m
      class_on c l m a i =
          let k = in_map OfClass (superclasses p c) l a in
          elim (on_either (map (level OfClass) (superclasses p k.0)) class_tail m (subst (λ x. OnWalk (walk p x) m) (sym k.1) i)) [
            | inl x ↦ on_left (map (level OfClass) (superclasses p c)) class_tail m (instance_on OfClass c k.0 m k.2 x)
            | inr y ↦ on_right (map (level OfClass) (superclasses p c)) class_tail m y
          ]
  closed OfMeta c l m h i = tail_on metaclass_class l m under_metaclass h i

  pub behind_known : (from l m : Level) → OnWalk (walk p from) l → OnWalk (drop 1 (walk p l)) m → OnWalk (walk p from) m
  behind_known from l m h i = closed from.side from.class l m h (on_whole (walk p l) m i)

  -- each level's walk begins with it, where it's of a class or of an instance
  pub walk_begins : (c : ℕ) → OnWalk (walk p (level OfInstance c)) (level OfInstance c) × OnWalk (walk p (level OfClass c)) (level OfClass c)
  unfolding walk superclasses
  walk_begins c = (inl refl, inl refl)
