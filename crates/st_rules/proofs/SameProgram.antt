-- Under another step limit a program's classes, methods and built-in messages are the same.
use Rattle.std.proofs.Common.{◌≡◌, ℕ, zero, suc, ◌+◌, List, [], ◌∷◌, ◌++◌, map, drop, Option, Some, None, true, false, refl, sym, ap, ◌∙◌, codes}
use Rattle.object_heap.specs.declared.value.Value.{Value}
use Rattle.object_heap.specs.declared.value.Value.TheVariants.{Class, Object}
use Rattle.object_heap.specs.Store.{Store, object_at}
use Rattle.st_code.specs.Program.{Program, OfInstance, OfClass, OfMeta, class_at, name_at, number_of}
use Rattle.st_code.specs.BuiltIns.{object_class, class_class, metaclass_class, exception_class}
use Rattle.st_code.specs.Lookup.{Level, level, level_of, superclasses, inherits, walk, found_at, found_in, lookup, class_level, super_lookup, is_exception, is_plain, fits}
use Rattle.st_collections.specs.Actions.{new_object}
use Rattle.st_collections.specs.Kinds.{element, some_elements, elements, size_of, exception_text, bytes_of}
use Rattle.st_code.specs.Lookup.{class_text}
use Rattle.st_rules.specs.StepLimits.{with_step_limit}

-- how the superclasses of a class go on, with one class less at each
record Chain (p : Program) : Type 0 where
  chain : ℕ → ℕ → List ℕ
  begins : (c : ℕ) → superclasses p (suc c) ≡ suc c ∷ elim (class_at p (suc c)).superclass [ None ↦ [] | Some above ↦ chain c above ]
  ends : (c : ℕ) → chain zero c ≡ c ∷ elim (class_at p c).superclass [ None ↦ [] | Some above ↦ [] ]
  goes_on : (n c : ℕ) → chain (suc n) c ≡ c ∷ elim (class_at p c).superclass [ None ↦ [] | Some above ↦ chain n above ]

chain_of : (p : Program) → Chain p
unfolding superclasses
chain_of p = record { chain = _; begins = λ c. refl; ends = λ c. refl; goes_on = λ n c. refl }

same_above : (c : ℕ) (o : Option ℕ) (f g : ℕ → List ℕ) → ((x : ℕ) → f x ≡ g x) → (c ∷ elim o [ None ↦ [] | Some above ↦ f above ]) ≡ (c ∷ elim o [ None ↦ [] | Some above ↦ g above ])
same_above c None f g h = refl
same_above c (Some above) f g h = ap (λ x. c ∷ x) (h above)

module _ (p : Program) (limit : ℕ) where
  abbrev q : Program
  q = with_step_limit p limit

  -- ---- lookup

  chain_same : (n c : ℕ) → (chain_of p).chain n c ≡ (chain_of q).chain n c
  unfolding class_at
  chain_same zero c = (chain_of p).ends c ∙ sym ((chain_of q).ends c)
  chain_same (suc n) c =
      (chain_of p).goes_on n c
      ∙ same_above c (class_at p c).superclass ((chain_of p).chain n) ((chain_of q).chain n) (λ x. chain_same n x)
      ∙ sym ((chain_of q).goes_on n c)

  superclasses_same : (c : ℕ) → superclasses p c ≡ superclasses q c
  unfolding superclasses class_at
  superclasses_same zero = refl
  superclasses_same (suc c) =
      (chain_of p).begins c
      ∙ same_above (suc c) (class_at p (suc c)).superclass ((chain_of p).chain c) ((chain_of q).chain c) (λ x. chain_same c x)
      ∙ sym ((chain_of q).begins c)

  pub inherits_same : (c ancestor : ℕ) → inherits p c ancestor ≡ inherits q c ancestor
  unfolding inherits
  inherits_same c ancestor = rw (superclasses_same c) refl

  pub walk_same : (l : Level) → walk p l ≡ walk q l
  unfolding walk
  walk_same l =
      ap (λ cs. elim l.side [
        | OfInstance ↦ map (level OfInstance) cs
        | OfClass ↦ map (level OfClass) cs ++ level OfInstance class_class ∷ level OfInstance object_class ∷ []
        | OfMeta ↦ level OfInstance metaclass_class ∷ level OfInstance object_class ∷ []
      ]) (superclasses_same l.class)

  found_same : (levels : List Level) (selector : ℕ) → found_in p levels selector ≡ found_in q levels selector
  unfolding found_in found_at name_at
  found_same [] selector = refl
  found_same (l ∷ levels) selector = ap (λ rest. elim (found_at p l selector) [ Some found ↦ Some found | None ↦ rest ]) (found_same levels selector)

  pub lookup_same : (l : Level) (selector : ℕ) → lookup p l selector ≡ lookup q l selector
  unfolding lookup
  lookup_same l selector = ap (λ levels. found_in p levels selector) (walk_same l) ∙ found_same (walk q l) selector

  pub super_lookup_same : (class : Value) (selector : ℕ) → super_lookup p class selector ≡ super_lookup q class selector
  unfolding super_lookup
  super_lookup_same class selector =
      ap (λ levels. found_in p (drop 1 levels) selector) (walk_same (class_level class)) ∙ found_same (drop 1 (walk q (class_level class))) selector

  -- ---- exceptions and their selectors

  pub is_exception_same : (s : Store) (v : Value) → is_exception p s v ≡ is_exception q s v
  unfolding is_exception
  is_exception_same s (Object n) = inherits_same (object_at n s).class exception_class
  is_exception_same s v = refl

  pub is_plain_same : (s : Store) (selector : Value) → is_plain p s selector ≡ is_plain q s selector
  unfolding is_plain number_of
  is_plain_same s selector = rw (lookup_same (level_of s selector) (number_of p (codes "handles:"))) refl

  -- a store in which an object has these slots
  abbrev holding : List Value → Store
  holding vs = record { objects = new_object 0 vs [] ∷ []; closures = []; scopes = [] }

  some_fits_same : (vs : List Value) (class : ℕ) → fits p (holding vs) (Object 0) class ≡ fits q (holding vs) (Object 0) class
  unfolding fits
  some_fits_same [] class = refl
  some_fits_same (Class ancestor ∷ vs) class =
      ap (λ b. elim b [ true ↦ true | false ↦ fits p (holding vs) (Object 0) class ]) (inherits_same class ancestor)
      ∙ ap (λ rest. elim (inherits q class ancestor) [ true ↦ true | false ↦ rest ]) (some_fits_same vs class)
  some_fits_same (v ∷ vs) class = some_fits_same vs class

  pub fits_same : (s : Store) (selector : Value) (class : ℕ) → fits p s selector class ≡ fits q s selector class
  unfolding fits
  fits_same s (Object n) class = some_fits_same (object_at n s).slots class
  fits_same s (Class ancestor) class = inherits_same class ancestor
  fits_same s v class = refl

  pub exception_text_same : (s : Store) (n : ℕ) → exception_text p s n ≡ exception_text q s n
  unfolding exception_text bytes_of class_text name_at class_at
  exception_text_same s n = rw (inherits_same (object_at n s).class _) refl

  -- ---- elements

  pub some_elements_same : (s : Store) (v : Value) (from count : ℕ) → some_elements p s v from count ≡ some_elements q s v from count
  unfolding some_elements element name_at
  some_elements_same s v from zero = refl
  some_elements_same s v from (suc count) = ap (λ rest. element p s v from ∷ rest) (some_elements_same s v (from + 1) count)

  pub elements_same : (s : Store) (v : Value) → elements p s v ≡ elements q s v
  unfolding elements size_of name_at
  elements_same s v = some_elements_same s v 1 (size_of p s v)
