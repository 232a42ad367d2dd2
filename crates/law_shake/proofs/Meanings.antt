-- What a name stands for doesn't depend on the numbers of selectors and symbols, and is no object and no symbol.
use Rattle.std.proofs.Common.{◌≡◌, ℕ, zero, suc, List, [], ◌∷◌, Option, Some, None, refl, sym, ap, ◌∙◌}
use Rattle.st_code.specs.Texts.{Text}
use Rattle.st_code.specs.Program.{Side, OfInstance, OfClass, OfMeta, Place, Scoped, ClassSlot}
use Rattle.st_code.specs.Resolved.{Names, Meant, At, Context, or_meant, or_transcript, meant_class, meant_shared, meant_slot, own_names, in_pools, in_classes, class_in, class_names_at, place_in, text_in, GlobalName, ClassName, meant_outside, meant_from, meant, named, tree_of, place_of, assigned, class_of_context}
use Rattle.st_code.specs.Program.{Tree, Assign}
use Rattle.law_shake.specs.Renaming.{Renaming, ren, ren_tree}
use Rattle.law_shake.specs.Making.{ren_context}

module _ (names : List Text) where
  abbrev other : Names → Names
  other y = record y { names = names }

  above_same : (o : Option ℕ) (f g : ℕ → Option Meant) → ((c : ℕ) → f c ≡ g c) → ◌≡◌ {A = Option Meant} (elim o [ None ↦ None | Some above ↦ f above ]) (elim o [ None ↦ None | Some above ↦ g above ])
  above_same None f g h = refl
  above_same (Some c) f g h = h c

  in_classes_same : (y : Names) (n c : ℕ) (t : Text) → in_classes (other y) n c t ≡ in_classes y n c t
  in_classes_same y zero c t = refl
  in_classes_same y (suc n) c t =
      ap (λ o. or_meant (meant_shared (place_in 0 y.shared (ClassName c t))) (or_meant (in_pools y.shared (class_names_at y.classes c).pools t) o))
      (above_same (class_names_at y.classes c).row.superclass (λ d. in_classes (other y) n d t) (λ d. in_classes y n d t) (λ d. in_classes_same y n d t))

  outside_same : (y : Names) (class : ℕ) (side : Side) (t : Text) → meant_outside (other y) class side t ≡ meant_outside y class side t
  unfolding meant_outside
  outside_same y class side t =
      ap (λ o. or_transcript (or_meant (own_names (class_names_at y.classes class) side t) (or_meant o (or_meant (meant_class (class_in 0 y.classes t)) (meant_shared (place_in 0 y.shared (GlobalName t)))))))
      (in_classes_same y (suc class) class t)

  from_same : (y : Names) (class : ℕ) (side : Side) (up : ℕ) (scopes : List (List Text)) (t : Text) → meant_from (other y) class side up scopes t ≡ meant_from y class side up scopes t
  from_same y class side up [] t = outside_same y class side t
  from_same y class side up (scope ∷ scopes) t = ap (λ m. elim (text_in 0 scope t) [ Some n ↦ At (Scoped up n) | None ↦ m ]) (from_same y class side (suc up) scopes t)

  meant_same : (y : Names) (class : ℕ) (side : Side) (scopes : List (List Text)) (t : Text) → meant (other y) class side scopes t ≡ meant y class side scopes t
  unfolding meant
  meant_same y class side scopes t = from_same y class side 0 scopes t

-- ---- a class or the Transcript

module _ (x : Renaming) where
  pub record IsPlain (m : Meant) : Type 0 where
    pub same : ren_tree x (tree_of m) ≡ tree_of m

  or_plain : (o : Option Meant) (m : Meant) → ((k : Meant) → o ≡ Some k → IsPlain k) → IsPlain m → IsPlain (elim o [ Some k ↦ k | None ↦ m ])
  or_plain None m h g = g
  or_plain (Some k) m h g = h k refl

  -- an option all of whose meanings are plain
  abbrev AllPlain : Option Meant → Type 0
  AllPlain None = Unit {0}
  AllPlain (Some m) = IsPlain m

  or_all : (o o' : Option Meant) → AllPlain o → AllPlain o' → AllPlain (or_meant o o')
  or_all None o' h g = g
  or_all (Some m) o' h g = h

  shared_all : (o : Option ℕ) → AllPlain (meant_shared o)
  shared_all None = tt
  shared_all (Some n) = record { same = refl }

  class_all : (o : Option ℕ) → AllPlain (meant_class o)
  class_all None = tt
  class_all (Some n) = record { same = refl }

  slot_all : (place : ℕ → Place) (o : Option ℕ) → AllPlain (meant_slot place o)
  slot_all place None = tt
  slot_all place (Some n) = record { same = refl }

  own_all : (y : Names) (class : ℕ) (side : Side) (t : Text) → AllPlain (own_names (class_names_at y.classes class) side t)
  own_all y class OfInstance t = slot_all _ (text_in 0 (class_names_at y.classes class).instance_names t)
  own_all y class OfClass t = slot_all ClassSlot (text_in 0 (class_names_at y.classes class).class_instance_names t)
  own_all y class OfMeta t = slot_all ClassSlot (text_in 0 (class_names_at y.classes class).class_instance_names t)

  pools_all : (y : Names) (pools : List Text) (t : Text) → AllPlain (in_pools y.shared pools t)
  pools_all y [] t = tt
  pools_all y (pool ∷ pools) t = or_all _ _ (shared_all (place_in 0 y.shared _)) (pools_all y pools t)

  classes_all : (y : Names) (n c : ℕ) (t : Text) → AllPlain (in_classes y n c t)
  classes_all y zero c t = tt
  classes_all y (suc n) c t = or_all _ _ (shared_all (place_in 0 y.shared (ClassName c t))) (or_all _ _ (pools_all y (class_names_at y.classes c).pools t) (above_all (class_names_at y.classes c).row.superclass (λ d. classes_all y n d t)))
    where
      above_all : (o : Option ℕ) → ((d : ℕ) → AllPlain (in_classes y n d t)) → AllPlain (elim o [ None ↦ None | Some above ↦ in_classes y n above t ])
      above_all None h = tt
      above_all (Some d) h = h d

  transcript_plain : (o : Option Meant) → AllPlain o → IsPlain (or_transcript o)
  transcript_plain None h = record { same = refl }
  transcript_plain (Some m) h = h

  outside_plain : (y : Names) (class : ℕ) (side : Side) (t : Text) → IsPlain (meant_outside y class side t)
  unfolding meant_outside
  outside_plain y class side t =
      transcript_plain _ (or_all _ _ (own_all y class side t) (or_all _ _ (classes_all y (suc class) class t) (or_all _ _ (class_all (class_in 0 y.classes t)) (shared_all (place_in 0 y.shared (GlobalName t))))))

  from_plain : (y : Names) (class : ℕ) (side : Side) (up : ℕ) (scopes : List (List Text)) (t : Text) → IsPlain (meant_from y class side up scopes t)
  from_plain y class side up [] t = outside_plain y class side t
  from_plain y class side up (scope ∷ scopes) t = by (text_in 0 scope t) (from_plain y class side (suc up) scopes t)
    where
      by : (o : Option ℕ) → IsPlain (meant_from y class side (suc up) scopes t) → IsPlain (elim o [ Some n ↦ At (Scoped up n) | None ↦ meant_from y class side (suc up) scopes t ])
      by None h = h
      by (Some n) h = record { same = refl }

  -- ---- in a context

  module _ (names : List Text) where
    pub named_same : (c : Context) (t : Text) → named (ren_context x names c) t ≡ named c t
    named_same c t = meant_same names c.names c.class c.side c.scopes t

    pub name_ren : (c : Context) (t : Text) → tree_of (named (ren_context x names c) t) ≡ ren_tree x (tree_of (named c t))
    unfolding meant
    name_ren c t = ap tree_of (named_same c t) ∙ sym (from_plain c.names c.class c.side 0 c.scopes t).same

    pub assigned_ren : (c : Context) (targets : List Text) (t : Tree) → assigned (ren_context x names c) targets (ren_tree x t) ≡ ren_tree x (assigned c targets t)
    assigned_ren c [] t = refl
    assigned_ren c (name ∷ targets) t =
        ap (λ m. Assign (place_of m) (assigned (ren_context x names c) targets (ren_tree x t))) (named_same c name)
        ∙ ap (λ u. Assign (place_of (named c name)) u) (assigned_ren c targets t)

    pub context_class : (c : Context) → ren x (class_of_context c) ≡ class_of_context c
    context_class c = by c.side
      where
        by : (side : Side) → ren x (class_of_context (record c { side = side })) ≡ class_of_context (record c { side = side })
        by OfInstance = refl
        by OfClass = refl
        by OfMeta = refl
