-- Units without some of their methods break no static rule that all of them keep: no rule asks for a method but the one that refuses a second one.
use Rattle.std.proofs.Common.{◌≡◌, ℕ, zero, suc, ◌≤◌, not, ◌&&◌, ◌||◌, cond, List, [], ◌∷◌, ◌++◌, length, take, Option, Some, None, Bool, true, false, codes, refl, sym, ap, ◌∙◌, subst, append_assoc, append-nil, arith, if◌then◌else◌}
use Rattle.std.proofs.lemmas.List.{length-append}
use Rattle.std.specs.List.{list_any, find}
use Rattle.std.specs.Option.{option_map, option_or, option_and_then}
use Rattle.std.specs.Str.{bytes_eq}
use Rattle.st_base.specs.declared.builtins.MethodSide.{MethodSide}
use Rattle.st_base.specs.declared.builtins.MethodSide.TheVariants as sides
use Rattle.st_base.specs.declared.faults.Reason.TheVariants as reasons
use Rattle.st_tree.specs.Numbers.{element_of, unit}
use Rattle.st_tree.specs.declared.units.ClassUnit.{ClassUnit}
use Rattle.st_tree.specs.declared.units.UnitKind.{UnitKind}
use Rattle.st_tree.specs.declared.units.UnitKind.TheVariants as kinds
use Rattle.st_tree.specs.declared.units.Unit.{Unit as FileUnit}
use Rattle.st_code.specs.Texts.{Text}
use Rattle.st_code.specs.Written.{named_kind, named_units}
use Rattle.st_checks.specs.Bodies.{Mention}
use Rattle.st_checks.specs.Declarations.{superclasses, is_built_in, declares_class, declares_global, declares_pool, declares_in_pool, defines_method, initializes, initializes_in_pool, is_class, is_name, class_of_unit, class_named, from_class, ancestors, way, clash}
use Rattle.st_checks.specs.Meanings.{Undeclared, or_else, assignable_if, fixed_if, in_scopes, of_unit, in_pool, in_pools, in_instances, in_classes, in_program, meaning_outside, Written, initializer, written, meaning}
use Rattle.st_checks.specs.StaticRules.{duplicates_class, duplicates_name, lacks_superclass, clashes, repeats_variable, duplicates_variable, lacks_pool, lacks_class, duplicates_method, lacks_target, initializes_again, naming, is_undeclared, is_fixed, undeclared_in, fixed_in, least, repeated_name, undeclared_name, fixed_name, as_whole, in_body, variable_fault, faults, first_some, unit_fault, break_of, first_break_from, first_break, MeetsRules}
use Rattle.st_shake.specs.Needed.{needed}
use Rattle.st_shake.specs.Shaken.{is_kept_kind, stays, before_if, kept}
use Rattle.st_shake.proofs.Kept.{that-push}
use Rattle.law_shake.specs.Laws.{ShakenFilesMeetTheRules}
use Rattle.law_shake.proofs.Lines.{Ordered, line-same, neither}

module _ (need : List Text) where
  abbrev K : List FileUnit → List FileUnit
  K units = kept need units

  -- ---- tests that no method passes

  abbrev Silent : (FileUnit → Bool) → Type 0
  Silent p = (u : FileUnit) → stays need u ≡ false → p u ≡ false

  silent : (test : UnitKind → Bool) → ((c : Text) (m : _) → test (kinds.Method c m) ≡ false) → ((c : Text) (m : _) → test (kinds.ClassMethod c m) ≡ false) → (u : FileUnit) → stays need u ≡ false → test u.kind ≡ false
  silent test instance_side class_side u h = by u.kind h
    where
      by : (k : UnitKind) → is_kept_kind need (named_kind k) ≡ false → test k ≡ false
      by (kinds.Method c m) gone = instance_side c m
      by (kinds.ClassMethod c m) gone = class_side c m
      by (kinds.Version t) gone = cc
      by (kinds.Class c) gone = cc
      by (kinds.GlobalVariable t) gone = cc
      by (kinds.GlobalConstant t) gone = cc
      by (kinds.Pool t) gone = cc
      by (kinds.PoolVariable p t) gone = cc
      by (kinds.PoolConstant p t) gone = cc
      by (kinds.Initializer t b) gone = cc
      by (kinds.PoolInitializer p t b) gone = cc
      by (kinds.ProgramInitializer b) gone = cc
      by (kinds.Comment ts) gone = cc

  class_silent : (name : Text) → Silent (declares_class name)
  class_silent name = silent (λ k. declares_class name (unit k [])) (λ c m. refl) (λ c m. refl)

  global_silent : (name : Text) → Silent (declares_global name)
  global_silent name = silent (λ k. declares_global name (unit k [])) (λ c m. refl) (λ c m. refl)

  pool_silent : (name : Text) → Silent (declares_pool name)
  pool_silent name = silent (λ k. declares_pool name (unit k [])) (λ c m. refl) (λ c m. refl)

  in_pool_silent : (pool name : Text) → Silent (declares_in_pool pool name)
  in_pool_silent pool name = silent (λ k. declares_in_pool pool name (unit k [])) (λ c m. refl) (λ c m. refl)

  target_silent : (name : Text) → Silent (initializes name)
  target_silent name = silent (λ k. initializes name (unit k [])) (λ c m. refl) (λ c m. refl)

  pool_target_silent : (pool name : Text) → Silent (initializes_in_pool pool name)
  pool_target_silent pool name = silent (λ k. initializes_in_pool pool name (unit k [])) (λ c m. refl) (λ c m. refl)

  any_same : (p : FileUnit → Bool) → Silent p → (units : List FileUnit) → list_any p (K units) ≡ list_any p units
  any_same p s [] = refl
  any_same p s (u ∷ units) = by (stays need u) refl (any_same p s units)
    where
      by : (b : Bool) → stays need u ≡ b → list_any p (K units) ≡ list_any p units → list_any p (before_if b u (K units)) ≡ (p u || list_any p units)
      by true e h = ap (λ b. p u || b) h
      by false e h = h ∙ sym (ap (λ b. b || list_any p units) (s u e))

  find_same : (p : FileUnit → Bool) → Silent p → (units : List FileUnit) → find p (K units) ≡ find p units
  find_same p s [] = refl
  find_same p s (u ∷ units) = by (stays need u) refl (find_same p s units)
    where
      by : (b : Bool) → stays need u ≡ b → find p (K units) ≡ find p units → find p (before_if b u (K units)) ≡ cond (p u) (Some u) (find p units)
      by true e h = ap (λ o. cond (p u) (Some u) o) h
      by false e h = h ∙ sym (ap (λ b. cond b (Some u) (find p units)) (s u e))

  -- a test that fails for all fails for those that are kept
  any_fewer : (p : FileUnit → Bool) (units : List FileUnit) → list_any p units ≡ false → list_any p (K units) ≡ false
  any_fewer p [] fails = refl
  any_fewer p (u ∷ units) fails = let other = neither (p u) (list_any p units) fails in by (stays need u) other.0 (any_fewer p units other.1)
    where
      by : (b : Bool) → p u ≡ false → list_any p (K units) ≡ false → list_any p (before_if b u (K units)) ≡ false
      by true e h = ap (λ c. c || list_any p (K units)) e ∙ h
      by false e h = h

  shorter : (units : List FileUnit) → length (K units) ≤ length units
  shorter [] = omega arith
  shorter (u ∷ units) = by (stays need u) (shorter units)
    where
      by : (b : Bool) → length (K units) ≤ length units → length (before_if b u (K units)) ≤ suc (length units)
      by true h = omega (arith, h)
      by false h = omega (arith, h)

  -- ---- what units declare

  class_same : (us : List FileUnit) (name : Text) → is_class (K us) name ≡ is_class us name
  class_same us name = ap (λ b. is_built_in name || b) (any_same (declares_class name) (class_silent name) us)

  name_same : (us : List FileUnit) (name : Text) → is_name (K us) name ≡ is_name us name
  name_same us name =
      ap (λ b. b || bytes_eq name (codes "Transcript") || list_any (declares_global name) (K us) || list_any (declares_pool name) (K us)) (class_same us name)
      ∙ ap (λ b. is_class us name || bytes_eq name (codes "Transcript") || b || list_any (declares_pool name) (K us)) (any_same (declares_global name) (global_silent name) us)
      ∙ ap (λ b. is_class us name || bytes_eq name (codes "Transcript") || list_any (declares_global name) us || b) (any_same (declares_pool name) (pool_silent name) us)

  class_named_same : (us : List FileUnit) (name : Text) → class_named (K us) name ≡ class_named us name
  class_named_same us name = ap (λ o. if is_built_in name then None else class_of_unit o) (find_same (declares_class name) (class_silent name) us)

  from_class_same : (us : List FileUnit) (n : ℕ) (o : Option ClassUnit) → from_class n (K us) o ≡ from_class n us o
  from_class_same us zero o = refl
  from_class_same us (suc n) None = refl
  from_class_same us (suc n) (Some c) = ap (λ cs. c ∷ cs) (ap (from_class n (K us)) (class_named_same us c.superclass) ∙ from_class_same us n (class_named us c.superclass))

  line_same : (us : List FileUnit) → Ordered [] (K us) → (name : Text) → ancestors (K us) name ≡ ancestors us name
  unfolding ancestors
  line_same us ordered name =
      line-same (K us) ordered name (length (K us)) (length us) (omega arith) (shorter us)
      ∙ ap (from_class (length us) (K us)) (class_named_same us name)
      ∙ from_class_same us (length us) (class_named us name)

  -- ---- rules on units as a whole

  duplicates_class_same : (us : List FileUnit) (kind : UnitKind) → duplicates_class (K us) kind ≡ duplicates_class us kind
  duplicates_class_same us kind = elim kind as (λ k. duplicates_class (K us) k ≡ duplicates_class us k) [ kinds.Class c ↦ class_same us c.name | _ ↦ refl ]

  duplicates_name_same : (us : List FileUnit) (kind : UnitKind) → duplicates_name (K us) kind ≡ duplicates_name us kind
  duplicates_name_same us kind = elim kind as (λ k. duplicates_name (K us) k ≡ duplicates_name us k) [
    | kinds.Class c ↦ name_same us c.name
    | kinds.GlobalVariable name ↦ name_same us name
    | kinds.GlobalConstant name ↦ name_same us name
    | kinds.Pool name ↦ name_same us name
    | kinds.PoolVariable pool name ↦ any_same (declares_in_pool pool name) (in_pool_silent pool name) us
    | kinds.PoolConstant pool name ↦ any_same (declares_in_pool pool name) (in_pool_silent pool name) us
    | _ ↦ refl
  ]

  lacks_superclass_same : (us : List FileUnit) (kind : UnitKind) → lacks_superclass (K us) kind ≡ lacks_superclass us kind
  lacks_superclass_same us kind = elim kind as (λ k. lacks_superclass (K us) k ≡ lacks_superclass us k) [
    | kinds.Class c ↦ ap (λ b. not (list_any (bytes_eq c.superclass) superclasses || b)) (any_same (declares_class c.superclass) (class_silent c.superclass) us)
    | _ ↦ refl
  ]

  any_pool_same : (us : List FileUnit) (pools : List Text) → list_any (λ pool. not (list_any (declares_pool pool) (K us))) pools ≡ list_any (λ pool. not (list_any (declares_pool pool) us)) pools
  any_pool_same us [] = refl
  any_pool_same us (pool ∷ pools) =
      ap (λ b. not b || list_any (λ pool. not (list_any (declares_pool pool) (K us))) pools) (any_same (declares_pool pool) (pool_silent pool) us)
      ∙ ap (λ b. not (list_any (declares_pool pool) us) || b) (any_pool_same us pools)

  lacks_pool_same : (us : List FileUnit) (kind : UnitKind) → lacks_pool (K us) kind ≡ lacks_pool us kind
  lacks_pool_same us kind = elim kind as (λ k. lacks_pool (K us) k ≡ lacks_pool us k) [
    | kinds.Class c ↦ any_pool_same us c.pools
    | kinds.PoolVariable pool name ↦ ap not (any_same (declares_pool pool) (pool_silent pool) us)
    | kinds.PoolConstant pool name ↦ ap not (any_same (declares_pool pool) (pool_silent pool) us)
    | kinds.PoolInitializer pool name body ↦ ap not (any_same (declares_pool pool) (pool_silent pool) us)
    | _ ↦ refl
  ]

  lacks_class_same : (us : List FileUnit) (kind : UnitKind) → lacks_class (K us) kind ≡ lacks_class us kind
  lacks_class_same us kind = elim kind as (λ k. lacks_class (K us) k ≡ lacks_class us k) [
    | kinds.Method class m ↦ ap not (class_same us class)
    | kinds.ClassMethod class m ↦ ap not (class_same us class)
    | _ ↦ refl
  ]

  lacks_target_same : (us : List FileUnit) (kind : UnitKind) → lacks_target (K us) kind ≡ lacks_target us kind
  lacks_target_same us kind = elim kind as (λ k. lacks_target (K us) k ≡ lacks_target us k) [
    | kinds.Initializer target body ↦
        ap (λ b. not (b || list_any (declares_global target) (K us))) (class_same us target)
        ∙ ap (λ b. not (is_class us target || b)) (any_same (declares_global target) (global_silent target) us)
    | kinds.PoolInitializer pool name body ↦ ap not (any_same (declares_in_pool pool name) (in_pool_silent pool name) us)
    | _ ↦ refl
  ]

  initializes_again_same : (us : List FileUnit) (kind : UnitKind) → initializes_again (K us) kind ≡ initializes_again us kind
  initializes_again_same us kind = elim kind as (λ k. initializes_again (K us) k ≡ initializes_again us k) [
    | kinds.Initializer target body ↦ any_same (initializes target) (target_silent target) us
    | kinds.PoolInitializer pool name body ↦ any_same (initializes_in_pool pool name) (pool_target_silent pool name) us
    | _ ↦ refl
  ]

  duplicates_fewer : (us : List FileUnit) (kind : UnitKind) → duplicates_method us kind ≡ false → duplicates_method (K us) kind ≡ false
  duplicates_fewer us kind = elim kind as (λ k. duplicates_method us k ≡ false → duplicates_method (K us) k ≡ false) [
    | kinds.Method class m ↦ λ fails. any_fewer (defines_method class sides.Instance m.selector) us fails
    | kinds.ClassMethod class m ↦ λ fails. any_fewer (defines_method class sides.Class m.selector) us fails
    | _ ↦ λ fails. refl
  ]

  -- ---- rules on bodies

  in_pool_same : (us : List FileUnit) (pool name : Text) → in_pool (K us) pool name ≡ in_pool us pool name
  in_pool_same us pool name =
      ap (λ b. if b then of_unit (find (declares_in_pool pool name) (K us)) else Undeclared) (any_same (declares_pool pool) (pool_silent pool) us)
      ∙ ap (λ o. if list_any (declares_pool pool) us then of_unit o else Undeclared) (find_same (declares_in_pool pool name) (in_pool_silent pool name) us)

  in_pools_same : (us : List FileUnit) (pools : List Text) (name : Text) → in_pools (K us) pools name ≡ in_pools us pools name
  in_pools_same us [] name = refl
  in_pools_same us (pool ∷ pools) name = ap (λ m. or_else m (in_pools (K us) pools name)) (in_pool_same us pool name) ∙ ap (or_else (in_pool us pool name)) (in_pools_same us pools name)

  in_classes_same : (us : List FileUnit) (line : List ClassUnit) (name : Text) → in_classes (K us) line name ≡ in_classes us line name
  in_classes_same us [] name = refl
  in_classes_same us (c ∷ line) name =
      ap (λ m. or_else (assignable_if (list_any (bytes_eq name) c.class_names)) (or_else m (in_classes (K us) line name))) (in_pools_same us c.pools name)
      ∙ ap (λ m. or_else (assignable_if (list_any (bytes_eq name) c.class_names)) (or_else (in_pools us c.pools name) m)) (in_classes_same us line name)

  in_program_same : (us : List FileUnit) (name : Text) → in_program (K us) name ≡ in_program us name
  in_program_same us name =
      ap (λ b. or_else (fixed_if b) (or_else (of_unit (find (declares_global name) (K us))) (fixed_if (bytes_eq name (codes "Transcript"))))) (class_same us name)
      ∙ ap (λ o. or_else (fixed_if (is_class us name)) (or_else (of_unit o) (fixed_if (bytes_eq name (codes "Transcript"))))) (find_same (declares_global name) (global_silent name) us)

  written_same : (us : List FileUnit) (kind : UnitKind) → written (K us) kind ≡ written us kind
  written_same us kind = elim kind as (λ k. written (K us) k ≡ written us k) [
    | kinds.Initializer target body ↦ ap (λ b. Some (initializer b target body)) (class_same us target)
    | _ ↦ refl
  ]

  -- ---- with the lines of classes

  module _ (us : List FileUnit) (ordered : Ordered [] (K us)) where
    line : (name : Text) → ancestors (K us) name ≡ ancestors us name
    line = line_same us ordered

    outside_same : (class : Text) (side : MethodSide) (name : Text) → meaning_outside (K us) class side name ≡ meaning_outside us class side name
    unfolding meaning_outside
    outside_same class side name =
        ap (λ cs. or_else (in_instances side cs name) (or_else (in_classes (K us) cs name) (in_program (K us) name))) (line class)
        ∙ ap (λ m. or_else (in_instances side (ancestors us class) name) (or_else m (in_program (K us) name))) (in_classes_same us (ancestors us class) name)
        ∙ ap (λ m. or_else (in_instances side (ancestors us class) name) (or_else (in_classes us (ancestors us class) name) m)) (in_program_same us name)

    meaning_same : (w : Written) (m : Mention) → meaning (K us) w m ≡ meaning us w m
    meaning_same w m = ap (or_else (in_scopes m.scopes m.name.text)) (outside_same w.class w.side m.name.text)

    undeclared_in_same : (w : Written) (ms : List Mention) → undeclared_in (K us) w ms ≡ undeclared_in us w ms
    undeclared_in_same w [] = refl
    undeclared_in_same w (m ∷ ms) =
        ap (λ v. cond (is_undeclared v) (m.name.at ∷ undeclared_in (K us) w ms) (undeclared_in (K us) w ms)) (meaning_same w m)
        ∙ ap (λ ns. cond (is_undeclared (meaning us w m)) (m.name.at ∷ ns) ns) (undeclared_in_same w ms)

    fixed_in_same : (w : Written) (ms : List Mention) → fixed_in (K us) w ms ≡ fixed_in us w ms
    fixed_in_same w [] = refl
    fixed_in_same w (m ∷ ms) =
        ap (λ v. cond (m.assigned && is_fixed v) (m.name.at ∷ fixed_in (K us) w ms) (fixed_in (K us) w ms)) (meaning_same w m)
        ∙ ap (λ ns. cond (m.assigned && is_fixed (meaning us w m)) (m.name.at ∷ ns) ns) (fixed_in_same w ms)

    undeclared_same : (o : Option Written) → option_and_then (undeclared_name (K us)) o ≡ option_and_then (undeclared_name us) o
    unfolding undeclared_name
    undeclared_same None = refl
    undeclared_same (Some w) = ap least (undeclared_in_same w (naming w).mentions)

    fixed_same : (o : Option Written) → option_and_then (fixed_name (K us)) o ≡ option_and_then (fixed_name us) o
    unfolding fixed_name
    fixed_same None = refl
    fixed_same (Some w) = ap least (fixed_in_same w (naming w).mentions)

    clashes_same : (kind : UnitKind) → clashes (K us) kind ≡ clashes us kind
    clashes_same kind = elim kind as (λ k. clashes (K us) k ≡ clashes us k) [ kinds.Class c ↦ ap (λ cs. clash c.indexed (way cs)) (line c.superclass) | _ ↦ refl ]

    duplicates_variable_same : (kind : UnitKind) → duplicates_variable (K us) kind ≡ duplicates_variable us kind
    duplicates_variable_same kind = elim kind as (λ k. duplicates_variable (K us) k ≡ duplicates_variable us k) [ kinds.Class c ↦ ap (λ cs. repeats_variable cs c) (line c.superclass) | _ ↦ refl ]

    variable_same : (kind : UnitKind) → variable_fault (K us) kind ≡ variable_fault us kind
    variable_same kind =
        ap (λ b. option_or (as_whole reasons.DuplicateVariable b) (in_body reasons.DuplicateVariable (option_and_then repeated_name (written (K us) kind)))) (duplicates_variable_same kind)
        ∙ ap (λ o. option_or (as_whole reasons.DuplicateVariable (duplicates_variable us kind)) (in_body reasons.DuplicateVariable (option_and_then repeated_name o))) (written_same us kind)

    -- ---- one unit

    none_left : {A : Type 0} (a b : Option A) → option_or a b ≡ None → (a ≡ None) × (b ≡ None)
    none_left None b e = (refl, e)
    none_left (Some x) b e = cc

    both_none : {A : Type 0} (a a' b b' : Option A) → a' ≡ a → (b ≡ None → b' ≡ None) → option_or a b ≡ None → option_or a' b' ≡ None
    both_none a a' b b' same later e = let n = none_left a b e in ap (λ o. option_or o b') (same ∙ n.0) ∙ later n.1

    fewer_none : (b c : Bool) → (b ≡ false → c ≡ false) → as_whole reasons.DuplicateMethod b ≡ None → as_whole reasons.DuplicateMethod c ≡ None
    fewer_none true c h e = cc
    fewer_none false c h e = ap (as_whole reasons.DuplicateMethod) (h refl)

    both_fewer : {A : Type 0} (a a' b b' : Option A) → (a ≡ None → a' ≡ None) → (b ≡ None → b' ≡ None) → option_or a b ≡ None → option_or a' b' ≡ None
    both_fewer a a' b b' first later e = let n = none_left a b e in ap (λ o. option_or o b') (first n.0) ∙ later n.1

    pub unit_meets : (before : List FileUnit) (kind : UnitKind) → first_some (faults before us kind) ≡ None → first_some (faults (K before) (K us) kind) ≡ None
    unit_meets before kind =
        both_none _ _ _ _ (ap (as_whole reasons.DuplicateClass) (duplicates_class_same before kind)) (
        both_none _ _ _ _ (ap (as_whole reasons.DuplicateName) (duplicates_name_same before kind)) (
        both_none _ _ _ _ (ap (as_whole reasons.UnknownSuperclass) (lacks_superclass_same before kind)) (
        both_none _ _ _ _ (ap (as_whole reasons.IndexedClash) (clashes_same kind)) (
        both_none _ _ _ _ (variable_same kind) (
        both_none _ _ _ _ (ap (as_whole reasons.UnknownPool) (lacks_pool_same us kind)) (
        both_none _ _ _ _ (ap (as_whole reasons.UnknownClass) (lacks_class_same us kind)) (
        both_none _ _ _ _ refl (
        both_fewer _ _ _ _ (fewer_none (duplicates_method before kind) (duplicates_method (K before) kind) (duplicates_fewer before kind)) (
        both_none _ _ _ _ (ap (as_whole reasons.UnknownTarget) (lacks_target_same us kind)) (
        both_none _ _ _ _ (ap (as_whole reasons.SecondInitializer) (initializes_again_same before kind)) (
        both_none _ _ _ _ (ap (in_body reasons.UndeclaredName) (ap (option_and_then (undeclared_name (K us))) (written_same us kind) ∙ undeclared_same (written us kind))) (
        both_none _ _ _ _ (ap (in_body reasons.NotAssignable) (ap (option_and_then (fixed_name (K us))) (written_same us kind) ∙ fixed_same (written us kind))) (λ e. e)))))))))))))

-- ---- all units

-- each unit behind these breaks no rule
abbrev AllMeet : (units before rest : List FileUnit) → Type 0
AllMeet units before [] = Unit {0}
AllMeet units before (u ∷ rest) = (first_some (faults before units u.kind) ≡ None) × AllMeet units (before ++ u ∷ []) rest

take_first : (before rest : List FileUnit) → take (length before) (before ++ rest) ≡ before
take_first [] rest = refl
take_first (u ∷ before) rest = ap (λ us. u ∷ us) (take_first before rest)

unmapped : {A B : Type 0} (f : A → B) (o : Option A) → option_map f o ≡ None → o ≡ None
unmapped f None e = refl
unmapped f (Some x) e = cc

none_of : {A : Type 0} (a b : Option A) → option_or a b ≡ None → (a ≡ None) × (b ≡ None)
none_of None b e = (refl, e)
none_of (Some x) b e = cc

at_place : (units before rest : List FileUnit) → units ≡ before ++ rest → take (length before) units ≡ before
at_place units before rest whole = ap (take (length before)) whole ∙ take_first before rest

more_place : (before : List FileUnit) (u : FileUnit) → suc (length before) ≡ length (before ++ u ∷ [])
more_place before u = let h = length-append before (u ∷ []) in omega (arith, h)

all_meet : (units before rest : List FileUnit) → units ≡ before ++ rest → first_break_from units (length before) rest ≡ None → AllMeet units before rest
unfolding unit_fault
all_meet units before [] whole e = tt
all_meet units before (u ∷ rest) whole e =
    let n = none_of _ _ e in (
      ap (λ us. first_some (faults us units u.kind)) (sym (at_place units before (u ∷ rest) whole)) ∙ unmapped _ _ n.0,
      all_meet units (before ++ u ∷ []) rest (whole ∙ sym (append_assoc before (u ∷ []) rest)) (ap (λ k. first_break_from units k rest) (sym (more_place before u)) ∙ n.1),
    )

no_break : (units before rest : List FileUnit) → units ≡ before ++ rest → AllMeet units before rest → first_break_from units (length before) rest ≡ None
unfolding unit_fault
no_break units before [] whole m = refl
no_break units before (u ∷ rest) whole m =
    ap (λ us. option_or (option_map (break_of (element_of units (length before))) (first_some (faults us units u.kind))) (first_break_from units (suc (length before)) rest)) (at_place units before (u ∷ rest) whole)
    ∙ ap (λ o. option_or (option_map (break_of (element_of units (length before))) o) (first_break_from units (suc (length before)) rest)) m.0
    ∙ ap (λ k. first_break_from units k rest) (more_place before u)
    ∙ no_break units (before ++ u ∷ []) rest (whole ∙ sym (append_assoc before (u ∷ []) rest)) m.1

module _ (need : List Text) where
  -- in units that break no rule each class stands behind its superclass
  not_whole : (b : Bool) → as_whole reasons.UnknownSuperclass b ≡ None → b ≡ false
  not_whole true e = cc
  not_whole false e = refl

  has_superclass : (units before : List FileUnit) (kind : UnitKind) → first_some (faults before units kind) ≡ None → lacks_superclass before kind ≡ false
  has_superclass units before kind e =
      let a = none_of _ _ e in
      let b = none_of _ _ a.1 in
      let c = none_of _ _ b.1 in
      not_whole (lacks_superclass before kind) c.0

  kept_ordered : (units before rest : List FileUnit) → AllMeet units before rest → Ordered (kept need before) (kept need rest)
  kept_ordered units before [] m = tt
  kept_ordered units before (u ∷ rest) m = by (stays need u) refl (kept_ordered units (before ++ u ∷ []) rest m.1)
    where
      by : (b : Bool) → stays need u ≡ b → Ordered (kept need (before ++ u ∷ [])) (kept need rest) → Ordered (kept need before) (before_if b u (kept need rest))
      by true e later = (
        lacks_superclass_same need before u.kind ∙ has_superclass units before u.kind m.0,
        subst (λ us. Ordered us (kept need rest)) (that-push (stays need) before u ∙ ap (λ b. kept need before ++ before_if b u []) e) later,
      )
      by false e later = subst (λ us. Ordered us (kept need rest)) (that-push (stays need) before u ∙ ap (λ b. kept need before ++ before_if b u []) e ∙ append-nil (kept need before)) later

  kept_meet : (units : List FileUnit) → Ordered [] (kept need units) → (before rest : List FileUnit) → AllMeet units before rest → AllMeet (kept need units) (kept need before) (kept need rest)
  kept_meet units ordered before [] m = tt
  kept_meet units ordered before (u ∷ rest) m = by (stays need u) refl (kept_meet units ordered (before ++ u ∷ []) rest m.1)
    where
      by : (b : Bool) → stays need u ≡ b → AllMeet (kept need units) (kept need (before ++ u ∷ [])) (kept need rest) → AllMeet (kept need units) (kept need before) (before_if b u (kept need rest))
      by true e later = (
        unit_meets need units ordered before u.kind m.0,
        subst (λ us. AllMeet (kept need units) us (kept need rest)) (that-push (stays need) before u ∙ ap (λ b. kept need before ++ before_if b u []) e) later,
      )
      by false e later = subst (λ us. AllMeet (kept need units) us (kept need rest)) (that-push (stays need) before u ∙ ap (λ b. kept need before ++ before_if b u []) e ∙ append-nil (kept need before)) later

  pub kept_meets : (units : List FileUnit) → MeetsRules units → MeetsRules (kept need units)
  unfolding first_break
  kept_meets units meets =
      let m = all_meet units [] units refl meets in
      no_break (kept need units) [] (kept need units) refl (kept_meet units (kept_ordered units [] units m) [] units m)

pub shaken_meets : ShakenFilesMeetTheRules
shaken_meets units = kept_meets (needed (named_units units)) units
