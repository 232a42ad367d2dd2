-- A name that the static rules call assignable stands for a variable.
use Rattle.std.proofs.Common.{◌≡◌, ℕ, zero, suc, ◌+◌, ◌<◌, List, [], ◌∷◌, ◌++◌, map, length, codes, Option, Some, None, Bool, true, false, ◌||◌, refl, sym, ap, ◌∙◌, subst, arith, if◌then◌else◌, true≢false}
use Rattle.std.proofs.lemmas.List.Folds.{list_any-append}
use Rattle.std.specs.Str.{bytes_eq}
use Rattle.std.specs.List.{list_any, find}
use Rattle.st_base.specs.declared.builtins.MethodSide.{MethodSide}
use Rattle.st_base.specs.declared.builtins.MethodSide.TheVariants as sides
use Rattle.st_tree.specs.declared.tree.Name.{Name}
use Rattle.st_tree.specs.declared.units.ClassUnit.{ClassUnit as FileClass}
use Rattle.st_tree.specs.declared.units.UnitKind.TheVariants as kinds
use Rattle.st_tree.specs.declared.units.Unit.{Unit as FileUnit}
use Rattle.st_code.specs.Texts.{Text}
use Rattle.st_code.specs.Written.{name_text}
use Rattle.st_code.specs.Program.{Place, Scoped, Slot, ClassSlot, Side, OfInstance, OfClass, OfMeta}
use Rattle.st_code.specs.Resolved.{SharedName, GlobalName, PoolName, ClassName, place_in, ClassNames, Names, class_names_at, class_in, text_in, Meant, At, or_meant, meant_shared, in_pools, in_classes, meant_class, own_names, meant_slot, or_transcript, meant_outside, meant_from, meant}
use Rattle.st_checks.specs.Declarations.{is_class, declares_global, declares_pool, declares_in_pool, class_named, from_class, ancestors}
use Rattle.st_checks.specs.Bodies.{Scope}
use Rattle.st_checks.specs.Meanings.{Meaning, Undeclared, Fixed, Assignable, or_else, assignable_if, fixed_if, declares, in_scope, in_scopes, of_unit, in_pool, in_pools as pools_mean, own_names as own_of, in_instances, in_classes as classes_mean, in_program, meaning_outside}
use Rattle.st_variables.specs.Assigned.{IsPlace}
use Rattle.st_checked.proofs.Texts.{both_false, any_left, any_right, find_some, Found, text_found, text_absent, held_found, class_absent}
use Rattle.st_checked.proofs.DeclaredNames.{Declared, Told}
use Rattle.st_checked.proofs.AssignedBodies.{scope_texts, texts}

other_way : {A : Type 0} → false ≡ true → A
other_way e = let none : ⊥ = true≢false (sym e) in absurd none

not_fixed : {A : Type 0} → Fixed ≡ Assignable → A
not_fixed e = let none : ⊥ = grind (arith, e) in absurd none

not_undeclared : {A : Type 0} → Undeclared ≡ Assignable → A
not_undeclared e = let none : ⊥ = grind (arith, e) in absurd none

-- ---- what stands for a variable

abbrev There : Option Meant → Type 0
There None = ⊥
There (Some m) = IsPlace m

abbrev AtMost : Option Meant → Type 0
AtMost None = Unit {0}
AtMost (Some m) = IsPlace m

there_left : (a b : Option Meant) → There a → There (or_meant a b)
there_left None b h = absurd h
there_left (Some m) b h = h

there_right : (a b : Option Meant) → AtMost a → There b → There (or_meant a b)
there_right None b g h = h
there_right (Some m) b g h = g

most_or : (a b : Option Meant) → AtMost a → AtMost b → AtMost (or_meant a b)
most_or None b g h = h
most_or (Some m) b g h = g

shared_most : (o : Option ℕ) → AtMost (meant_shared o)
shared_most None = tt
shared_most (Some n) = tt

shared_there : (o : Option ℕ) → Found o → There (meant_shared o)
shared_there o f = subst (λ p. There (meant_shared p)) (sym f.1) tt

slot_most : (f : ℕ → Place) (o : Option ℕ) → AtMost (meant_slot f o)
slot_most f None = tt
slot_most f (Some n) = tt

slot_there : (f : ℕ → Place) (o : Option ℕ) → Found o → There (meant_slot f o)
slot_there f o g = subst (λ p. There (meant_slot f p)) (sym g.1) tt

pools_most : (shared : List SharedName) (pools : List Text) (t : Text) → AtMost (in_pools shared pools t)
pools_most shared [] t = tt
pools_most shared (pool ∷ pools) t = most_or (meant_shared (place_in 0 shared (PoolName pool t))) (in_pools shared pools t) (shared_most (place_in 0 shared (PoolName pool t))) (pools_most shared pools t)

classes_most : (x : Names) (n k : ℕ) (t : Text) → AtMost (in_classes x n k t)
classes_most x zero k t = tt
classes_most x (suc n) k t =
    most_or (meant_shared (place_in 0 x.shared (ClassName k t))) _ (shared_most (place_in 0 x.shared (ClassName k t)))
    (most_or (in_pools x.shared (class_names_at x.classes k).pools t) _ (pools_most x.shared (class_names_at x.classes k).pools t) (go (class_names_at x.classes k).row.superclass (λ a. classes_most x n a t)))
  where
    go : (o : Option ℕ) → ((a : ℕ) → AtMost (in_classes x n a t)) → AtMost (elim o [ None ↦ None | Some above ↦ in_classes x n above t ])
    go None on = tt
    go (Some a) on = on a

own_most : (c : ClassNames) (side : Side) (t : Text) → AtMost (own_names c side t)
own_most c OfInstance t = slot_most (λ n. Slot (c.base + n)) (text_in 0 c.instance_names t)
own_most c OfClass t = slot_most ClassSlot (text_in 0 c.class_instance_names t)
own_most c OfMeta t = slot_most ClassSlot (text_in 0 c.class_instance_names t)

module _ (units : List FileUnit) (x : Names) (h : Told units x) where
  abbrev N : ℕ → ClassNames
  N k = class_names_at x.classes k

  from_none : (n : ℕ) → from_class n units None ≡ []
  from_none zero = refl
  from_none (suc n) = refl

  same_some : (a b : ℕ) → Some a ≡ Some b → a ≡ b
  same_some a b e = cc

  -- the superclass, where the file declares it
  super_declared : (k : ℕ) (c d : FileClass) (y : Declared x k c) → class_named units c.superclass ≡ Some d → Declared x y.s d
  super_declared k c d y e =
      let z = h.classes c.superclass d e in
      subst (λ n. Declared x n d) (same_some z.0 y.s (sym z.1.0 ∙ y.above)) z.1.1

  -- ---- a variable of self

  module _ (own : FileClass → List Text) (have : ClassNames → List Text) (joined : (k : ℕ) (c : FileClass) (d : Declared x k c) → have (N k) ≡ have (N d.s) ++ own c) where
    line_own : (n k : ℕ) (c : FileClass) → Declared x k c → (t : Text) → list_any (λ d. list_any (bytes_eq t) (own d)) (from_class n units (Some c)) ≡ true → list_any (bytes_eq t) (have (N k)) ≡ true
    line_own zero k c d t e = other_way e
    line_own (suc n) k c d t e = subst (λ us. list_any (bytes_eq t) us ≡ true) (sym (joined k c d)) (go (list_any (bytes_eq t) (own c)) refl e (class_named units c.superclass) refl (λ f q i. line_own n d.s f (super_declared k c f d q) t i))
      where
        go : (b : Bool) → list_any (bytes_eq t) (own c) ≡ b → (list_any (bytes_eq t) (own c) || list_any (λ y. list_any (bytes_eq t) (own y)) (from_class n units (class_named units c.superclass))) ≡ true → (o : Option FileClass) → class_named units c.superclass ≡ o → ((f : FileClass) → class_named units c.superclass ≡ Some f → list_any (λ y. list_any (bytes_eq t) (own y)) (from_class n units (Some f)) ≡ true → list_any (bytes_eq t) (have (N d.s)) ≡ true) → list_any (bytes_eq t) (have (N d.s) ++ own c) ≡ true
        go true q e o s on = any_right (bytes_eq t) (have (N d.s)) (own c) q
        go false q e None s on =
            let a : list_any (λ y. list_any (bytes_eq t) (own y)) (from_class n units (class_named units c.superclass)) ≡ true = sym (ap (λ (b : Bool). b || list_any (λ y. list_any (bytes_eq t) (own y)) (from_class n units (class_named units c.superclass))) q) ∙ e in
            let z : from_class n units (class_named units c.superclass) ≡ [] = ap (from_class n units) s ∙ from_none n in
            other_way (sym (ap (list_any (λ y. list_any (bytes_eq t) (own y))) z) ∙ a)
        go false q e (Some f) s on =
            let a : list_any (λ y. list_any (bytes_eq t) (own y)) (from_class n units (class_named units c.superclass)) ≡ true = sym (ap (λ (b : Bool). b || list_any (λ y. list_any (bytes_eq t) (own y)) (from_class n units (class_named units c.superclass))) q) ∙ e in
            any_left (bytes_eq t) (have (N d.s)) (own c) (on f s (subst (λ o. list_any (λ y. list_any (bytes_eq t) (own y)) (from_class n units o) ≡ true) s a))

  abbrev side_of : MethodSide → Side
  side_of sides.Instance = OfInstance
  side_of sides.Class = OfClass

  own_there : (side : MethodSide) (n k : ℕ) (c : FileClass) → Declared x k c → (t : Text) → list_any (λ d. list_any (bytes_eq t) (own_of side d)) (from_class n units (Some c)) ≡ true → There (own_names (N k) (side_of side) t)
  own_there sides.Instance n k c d t e = slot_there (λ i. Slot ((N k).base + i)) (text_in 0 (N k).instance_names t) (text_found 0 (N k).instance_names t (line_own (λ y. y.instance_names) (λ y. y.instance_names) (λ j b z. z.instances) n k c d t e))
  own_there sides.Class n k c d t e = slot_there ClassSlot (text_in 0 (N k).class_instance_names t) (text_found 0 (N k).class_instance_names t (line_own (λ y. y.class_instance_names) (λ y. y.class_instance_names) (λ j b z. z.class_instances) n k c d t e))

  -- ---- a variable of a class, or of one of its pools

  found_unit : (o : Option FileUnit) → of_unit o ≡ Assignable → (u : FileUnit) × (o ≡ Some u)
  found_unit None e = not_undeclared e
  found_unit (Some u) e = (u, refl)

  pool_there : (pool t : Text) → in_pool units pool t ≡ Assignable → There (meant_shared (place_in 0 x.shared (PoolName pool t)))
  pool_there pool t e = go (list_any (declares_pool pool) units) e
    where
      go : (b : Bool) → (if b then of_unit (find (declares_in_pool pool t) units) else Undeclared) ≡ Assignable → There (meant_shared (place_in 0 x.shared (PoolName pool t)))
      go true e =
          let f = found_unit (find (declares_in_pool pool t) units) e in
          shared_there (place_in 0 x.shared (PoolName pool t)) (held_found 0 x.shared (PoolName pool t) (h.pools pool t (find_some (declares_in_pool pool t) units f.0 f.1)))
      go false e = not_undeclared e

  pools_there : (pools : List Text) (t : Text) → pools_mean units pools t ≡ Assignable → There (in_pools x.shared pools t)
  pools_there [] t e = not_undeclared e
  pools_there (pool ∷ pools) t e = go (in_pool units pool t) refl e (λ i. pools_there pools t i)
    where
      go : (m : Meaning) → in_pool units pool t ≡ m → or_else m (pools_mean units pools t) ≡ Assignable → (pools_mean units pools t ≡ Assignable → There (in_pools x.shared pools t)) → There (in_pools x.shared (pool ∷ pools) t)
      go Undeclared q e on = there_right (meant_shared (place_in 0 x.shared (PoolName pool t))) (in_pools x.shared pools t) (shared_most (place_in 0 x.shared (PoolName pool t))) (on e)
      go Fixed q e on = not_fixed e
      go Assignable q e on = there_left (meant_shared (place_in 0 x.shared (PoolName pool t))) (in_pools x.shared pools t) (pool_there pool t q)

  abbrev above_of : ℕ → Text → Option ℕ → Option Meant
  above_of n t o = elim o [ None ↦ None | Some above ↦ in_classes x n above t ]

  abbrev rest_of : ℕ → FileClass → Text → Meaning
  rest_of n c t = classes_mean units (from_class n units (class_named units c.superclass)) t

  classes_there : (n fuel k : ℕ) (c : FileClass) → Declared x k c → k < fuel → (t : Text) → classes_mean units (from_class n units (Some c)) t ≡ Assignable → There (in_classes x fuel k t)
  classes_there zero fuel k c d l t e = not_undeclared e
  classes_there (suc n) zero k c d l t e = let none : ⊥ = omega (arith, l) in absurd none
  classes_there (suc n) (suc fuel) k c d l t e =
      let below = d.below in
      go (list_any (bytes_eq t) c.class_names) refl (pools_mean units c.pools t) refl (class_named units c.superclass) refl e (λ f q i. classes_there n fuel d.s f (super_declared k c f d q) (omega (arith, l, below)) t i)
    where
      inner : There (or_meant (in_pools x.shared (N k).pools t) (above_of fuel t (N k).row.superclass)) → There (in_classes x (suc fuel) k t)
      inner g = there_right (meant_shared (place_in 0 x.shared (ClassName k t))) (or_meant (in_pools x.shared (N k).pools t) (above_of fuel t (N k).row.superclass)) (shared_most (place_in 0 x.shared (ClassName k t))) g

      go : (b : Bool) → list_any (bytes_eq t) c.class_names ≡ b → (m : Meaning) → pools_mean units c.pools t ≡ m → (o : Option FileClass) → class_named units c.superclass ≡ o → or_else (assignable_if (list_any (bytes_eq t) c.class_names)) (or_else (pools_mean units c.pools t) (rest_of n c t)) ≡ Assignable → ((f : FileClass) → class_named units c.superclass ≡ Some f → classes_mean units (from_class n units (Some f)) t ≡ Assignable → There (in_classes x fuel d.s t)) → There (in_classes x (suc fuel) k t)
      go true q m r o s e on = there_left (meant_shared (place_in 0 x.shared (ClassName k t))) _ (shared_there (place_in 0 x.shared (ClassName k t)) (held_found 0 x.shared (ClassName k t) (d.shared t q)))
      go false q Assignable r o s e on = inner (there_left (in_pools x.shared (N k).pools t) (above_of fuel t (N k).row.superclass) (subst (λ ps. There (in_pools x.shared ps t)) (sym d.pools) (pools_there c.pools t r)))
      go false q Fixed r o s e on = let a : or_else (assignable_if (list_any (bytes_eq t) c.class_names)) (or_else (pools_mean units c.pools t) (rest_of n c t)) ≡ Fixed = rw (q, r) refl in not_fixed (sym a ∙ e)
      go false q Undeclared r None s e on =
          let a : or_else (assignable_if (list_any (bytes_eq t) c.class_names)) (or_else (pools_mean units c.pools t) (rest_of n c t)) ≡ rest_of n c t = rw (q, r) refl in
          let z : from_class n units (class_named units c.superclass) ≡ [] = ap (from_class n units) s ∙ from_none n in
          not_undeclared (sym (ap (λ (l : List FileClass). classes_mean units l t) z) ∙ sym a ∙ e)
      go false q Undeclared r (Some f) s e on =
          let a : or_else (assignable_if (list_any (bytes_eq t) c.class_names)) (or_else (pools_mean units c.pools t) (rest_of n c t)) ≡ rest_of n c t = rw (q, r) refl in
          let g = on f s (subst (λ o. classes_mean units (from_class n units o) t ≡ Assignable) s (sym a ∙ e)) in
          inner (there_right (in_pools x.shared (N k).pools t) (above_of fuel t (N k).row.superclass) (pools_most x.shared (N k).pools t) (subst (λ o. There (above_of fuel t o)) (sym d.super') g))

  -- ---- a global

  program_there : (t : Text) → in_program units t ≡ Assignable → There (or_meant (meant_class (class_in 0 x.classes t)) (meant_shared (place_in 0 x.shared (GlobalName t))))
  program_there t e = go (is_class units t) refl (of_unit (find (declares_global t) units)) refl e
    where
      fixed_never : (b : Bool) → fixed_if b ≡ Assignable → ⊥
      fixed_never true e = not_fixed e
      fixed_never false e = not_undeclared e

      go : (b : Bool) → is_class units t ≡ b → (m : Meaning) → of_unit (find (declares_global t) units) ≡ m → in_program units t ≡ Assignable → There (or_meant (meant_class (class_in 0 x.classes t)) (meant_shared (place_in 0 x.shared (GlobalName t))))
      go true q m r e = let a : in_program units t ≡ Fixed = rw q refl in not_fixed (sym a ∙ e)
      go false q Fixed r e = let a : in_program units t ≡ Fixed = rw (q, r) refl in not_fixed (sym a ∙ e)
      go false q Undeclared r e = let a : in_program units t ≡ fixed_if (bytes_eq t (codes "Transcript")) = rw (q, r) refl in absurd (fixed_never (bytes_eq t (codes "Transcript")) (sym a ∙ e))
      go false q Assignable r e =
          let f = found_unit (find (declares_global t) units) r in
          let g = shared_there (place_in 0 x.shared (GlobalName t)) (held_found 0 x.shared (GlobalName t) (h.globals t (find_some (declares_global t) units f.0 f.1))) in
          let absent = class_absent 0 x.classes t (h.named t ∙ q) in
          subst (λ o. There (or_meant (meant_class o) (meant_shared (place_in 0 x.shared (GlobalName t))))) (sym absent) g

  -- ---- behind the scopes

  abbrev globals_of : Text → Option Meant
  globals_of t = or_meant (meant_class (class_in 0 x.classes t)) (meant_shared (place_in 0 x.shared (GlobalName t)))

  or_transcript_place : (o : Option Meant) → There o → IsPlace (or_transcript o)
  or_transcript_place None g = absurd g
  or_transcript_place (Some m) g = g

  module _ (wc : Text) (side : MethodSide) (class : ℕ) (at : (c : FileClass) → class_named units wc ≡ Some c → Declared x class c) where
    outside_fine : (t : Text) → meaning_outside units wc side t ≡ Assignable → IsPlace (meant_outside x class (side_of side) t)
    unfolding meaning_outside ancestors meant_outside
    outside_fine t e = or_transcript_place _ (go (class_named units wc) refl e)
      where
        behind_own : There (or_meant (in_classes x (suc class) class t) (globals_of t)) → There (or_meant (own_names (N class) (side_of side) t) (or_meant (in_classes x (suc class) class t) (globals_of t)))
        behind_own g = there_right (own_names (N class) (side_of side) t) (or_meant (in_classes x (suc class) class t) (globals_of t)) (own_most (N class) (side_of side) t) g

        behind_classes : There (globals_of t) → There (or_meant (in_classes x (suc class) class t) (globals_of t))
        behind_classes g = there_right (in_classes x (suc class) class t) (globals_of t) (classes_most x (suc class) class t) g

        by_line : (c : FileClass) → Declared x class c → (b : Bool) → list_any (λ d. list_any (bytes_eq t) (own_of side d)) (from_class (length units) units (Some c)) ≡ b → (m : Meaning) → classes_mean units (from_class (length units) units (Some c)) t ≡ m → or_else (assignable_if b) (or_else m (in_program units t)) ≡ Assignable → There (or_meant (own_names (N class) (side_of side) t) (or_meant (in_classes x (suc class) class t) (globals_of t)))
        by_line c d true q m r e = there_left (own_names (N class) (side_of side) t) _ (own_there side (length units) class c d t q)
        by_line c d false q Assignable r e = behind_own (there_left (in_classes x (suc class) class t) (globals_of t) (classes_there (length units) (suc class) class c d (omega arith) t r))
        by_line c d false q Fixed r e = not_fixed e
        by_line c d false q Undeclared r e = behind_own (behind_classes (program_there t e))

        none_line : from_class (length units) units None ≡ [] → or_else (in_instances side (from_class (length units) units None) t) (or_else (classes_mean units (from_class (length units) units None) t) (in_program units t)) ≡ Assignable → in_program units t ≡ Assignable
        none_line z e = let a : or_else (in_instances side (from_class (length units) units None) t) (or_else (classes_mean units (from_class (length units) units None) t) (in_program units t)) ≡ in_program units t = rw z refl in sym a ∙ e

        go : (o : Option FileClass) → class_named units wc ≡ o → or_else (in_instances side (from_class (length units) units (class_named units wc)) t) (or_else (classes_mean units (from_class (length units) units (class_named units wc)) t) (in_program units t)) ≡ Assignable → There (or_meant (own_names (N class) (side_of side) t) (or_meant (in_classes x (suc class) class t) (globals_of t)))
        go None q e =
            let f : or_else (in_instances side (from_class (length units) units None) t) (or_else (classes_mean units (from_class (length units) units None) t) (in_program units t)) ≡ Assignable = subst (λ o. or_else (in_instances side (from_class (length units) units o) t) (or_else (classes_mean units (from_class (length units) units o) t) (in_program units t)) ≡ Assignable) q e in
            behind_own (behind_classes (program_there t (none_line (from_none (length units)) f)))
        go (Some c) q e =
            let f : or_else (in_instances side (from_class (length units) units (Some c)) t) (or_else (classes_mean units (from_class (length units) units (Some c)) t) (in_program units t)) ≡ Assignable = subst (λ o. or_else (in_instances side (from_class (length units) units o) t) (or_else (classes_mean units (from_class (length units) units o) t) (in_program units t)) ≡ Assignable) q e in
            by_line c (at c q) _ refl _ refl f

    -- ---- in scopes

    declares_texts : (names : List Name) (t : Text) → declares t names ≡ list_any (bytes_eq t) (map name_text names)
    declares_texts [] t = refl
    declares_texts (n ∷ names) t = ap (λ (b : Bool). bytes_eq t n.text || b) (declares_texts names t)

    undeclared_in : (s : Scope) (t : Text) → text_in 0 (scope_texts s) t ≡ None → in_scope s t ≡ Undeclared
    undeclared_in s t e =
        let a = text_absent 0 (scope_texts s) t e in
        let b = both_false (list_any (bytes_eq t) (map name_text s.parameters)) (list_any (bytes_eq t) (map name_text s.temporaries)) (sym (list_any-append (bytes_eq t) (map name_text s.parameters) (map name_text s.temporaries)) ∙ a) in
        let f : declares t s.parameters ≡ false = declares_texts s.parameters t ∙ b.0 in
        let g : declares t s.temporaries ≡ false = declares_texts s.temporaries t ∙ b.1 in
        rw (f, g) refl

    from_fine : (scopes : List Scope) (up : ℕ) (t : Text) → or_else (in_scopes scopes t) (meaning_outside units wc side t) ≡ Assignable → IsPlace (meant_from x class (side_of side) up (texts scopes) t)
    from_fine [] up t e = outside_fine t e
    from_fine (s ∷ scopes) up t e = go (text_in 0 (scope_texts s) t) refl (λ i. from_fine scopes (suc up) t i)
      where
        go : (o : Option ℕ) → text_in 0 (scope_texts s) t ≡ o → (or_else (in_scopes scopes t) (meaning_outside units wc side t) ≡ Assignable → IsPlace (meant_from x class (side_of side) (suc up) (texts scopes) t)) → IsPlace (elim o [ Some n ↦ At (Scoped up n) | None ↦ meant_from x class (side_of side) (suc up) (texts scopes) t ])
        go (Some n) q on = tt
        go None q on =
            let u = undeclared_in s t q in
            let a : or_else (in_scopes (s ∷ scopes) t) (meaning_outside units wc side t) ≡ or_else (in_scopes scopes t) (meaning_outside units wc side t) = ap (λ (m : Meaning). or_else (or_else m (in_scopes scopes t)) (meaning_outside units wc side t)) u in
            on (sym a ∙ e)

    pub name_fine : (scopes : List Scope) (t : Text) → or_else (in_scopes scopes t) (meaning_outside units wc side t) ≡ Assignable → IsPlace (meant x class (side_of side) (texts scopes) t)
    unfolding meant
    name_fine scopes t e = from_fine scopes 0 t e
