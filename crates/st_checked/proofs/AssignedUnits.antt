-- Units that meet the static rules assign to variables alone, and their classes extend classes that may be extended.
use Rattle.std.proofs.Common.{◌≡◌, ℕ, ◌+◌, ◌⊎◌, inl, inr, List, [], ◌∷◌, ◌++◌, map, take, length, slice_get, codes, append_assoc, Option, Some, None, Bool, true, false, ◌||◌, ◌&&◌, not, refl, sym, ap, ◌∙◌, subst, arith, true≢false}
use Rattle.std.specs.Str.{bytes_eq}
use Rattle.std.specs.List.{list_any, list_all, Contains}
use Rattle.std.specs.Option.{option_map}
use Rattle.st_base.specs.BuiltIns.{classes as built_in_table}
use Rattle.st_base.specs.declared.builtins.MethodSide.TheVariants as sides
use Rattle.st_tree.specs.declared.tree.Name.{Name}
use Rattle.st_tree.specs.declared.tree.Body.{Body}
use Rattle.st_tree.specs.declared.units.ClassUnit.{ClassUnit as FileClass}
use Rattle.st_tree.specs.declared.units.UnitKind.{UnitKind}
use Rattle.st_tree.specs.declared.units.UnitKind.TheVariants as kinds
use Rattle.st_tree.specs.declared.units.Unit.{Unit as FileUnit}
use Rattle.st_code.specs.Texts.{Text, same_text}
use Rattle.st_code.specs.Written.{name_text, named_body, named_kind, with_named, named_units}
use Rattle.st_code.specs.Named.{NamedUnit}
use Rattle.st_code.specs.Program.{OfInstance, OfClass}
use Rattle.st_code.specs.Resolved.{Names, class_in}
use Rattle.st_code.specs.Definitions.{names_of, or_zero, program_of}
use Rattle.st_code.specs.BuiltIns.{built_in_class_rows, built_in_classes, undefined_object_class}
use Rattle.st_checks.specs.Declarations.{is_built_in, superclasses, declares_class, is_class, class_named}
use Rattle.st_checks.specs.Bodies.{Mention}
use Rattle.st_checks.specs.Meanings.{Meaning, Undeclared, Fixed, Assignable, Written, outside_classes, initializer, meaning}
use Rattle.st_checks.specs.StaticRules.{Break, naming, duplicates_class, lacks_superclass, MeetsRules}
use Rattle.st_checks.specs.Breaks.{IsKind, HasBody, Breaks, IsFirst, start, body_byte}
use Rattle.st_checks.specs.Breaks as rule
use Rattle.st_checks.proofs.FirstLaw.{first_break_is_first}
use Rattle.st_checks.proofs.Members.{Contains-here, Contains-there}
use Rattle.st_variables.specs.Known.{is_open}
use Rattle.st_variables.specs.Assigned.{BodyAssigns, InitializerAssigns, UnitsAssign, IsExtensible, Extends}
use Rattle.st_variables.proofs.KnownClasses.{built}
use Rattle.st_rules.proofs.KnownClasses.{programs_know_classes}
use Rattle.st_rules.proofs.KnownProgram.{programs_know_literals}
use Rattle.st_rules.proofs.SoundProgram.{programs_are_compilable}
use Rattle.st_variables.proofs.KnownPrograms.{programs_know_variables}
use Rattle.st_variables.proofs.VariablesStand.{each_variable_stands, each_object_is_full}
use Rattle.st_checked.specs.CheckedVariables.{CheckedUnitsAssign, CheckedProgramsKnowVariables, CheckedVariablesStand, CheckedObjectsAreFull}
use Rattle.st_checked.proofs.Texts.{both_true, or_right, eq_is, class_found, class_absent}
use Rattle.st_checked.proofs.AssignedBodies.{MentionsFine, body_fine}
use Rattle.st_checked.proofs.DeclaredNames.{Declared, Told, Over, told, built_named}
use Rattle.st_checked.proofs.AssignedNames.{name_fine}

other_way : {A : Type 0} → false ≡ true → A
other_way e = let none : ⊥ = true≢false (sym e) in absurd none

-- ---- a unit at its place

at_place : {A : Type 0} (before : List A) (u : A) (rest : List A) → slice_get (before ++ u ∷ rest) (length before) ≡ Some u
at_place [] u rest = refl
at_place (v ∷ before) u rest = at_place before u rest

taken : {A : Type 0} (before : List A) (rest : List A) → take (length before) (before ++ rest) ≡ before
taken [] rest = refl
taken (v ∷ before) rest = ap (λ vs. v ∷ vs) (taken before rest)

-- a list with an element that passes
record Split {A : Type 0} (p : A → Bool) (xs : List A) : Type 0 where
  pub left : List A
  pub one : A
  pub right : List A
  pub is : xs ≡ left ++ one ∷ right
  pub passes : p one ≡ true

split : {A : Type 0} (p : A → Bool) (xs : List A) → list_any p xs ≡ true → Split p xs
split p [] e = other_way e
split p (x ∷ xs) e = go (p x) refl e (λ i. split p xs i)
  where
    go : (b : Bool) → p x ≡ b → (p x || list_any p xs) ≡ true → (list_any p xs ≡ true → Split p xs) → Split p (x ∷ xs)
    go true q e on = record { left = []; one = x; right = xs; is = refl; passes = q }
    go false q e on =
        let s = on (sym (ap (λ (b : Bool). b || list_any p xs) q) ∙ e) in
        record { left = x ∷ s.left; one = s.one; right = s.right; is = ap (λ ys. x ∷ ys) s.is; passes = s.passes }

-- ---- superclasses

-- the built-in classes that may be extended are built in, and open
abbrev is_good : Text → Bool
is_good t = is_built_in t && (elim (class_in 0 built t) [ Some class ↦ is_open class | None ↦ true ])

all_good : list_all is_good superclasses ≡ true
unfolding superclasses is_built_in built_in_table built_in_class_rows built_in_classes same_text
all_good = refl

good_from : (ts : List Text) (t : Text) → list_all is_good ts ≡ true → list_any (bytes_eq t) ts ≡ true → is_good t ≡ true
good_from [] t a e = other_way e
good_from (u ∷ ts) t a e = let h = both_true (is_good u) (list_all is_good ts) a in go (bytes_eq t u) refl e h.0 (λ i. good_from ts t h.1 i)
  where
    go : (b : Bool) → bytes_eq t u ≡ b → (bytes_eq t u || list_any (bytes_eq t) ts) ≡ true → is_good u ≡ true → (list_any (bytes_eq t) ts ≡ true → is_good t ≡ true) → is_good t ≡ true
    go true q e g on = ap is_good (eq_is t u q) ∙ g
    go false q e g on = on (sym (ap (λ (b : Bool). b || list_any (bytes_eq t) ts) q) ∙ e)

good_open : (t : Text) → is_good t ≡ true → IsExtensible t
good_open t g class e = go (class_in 0 built t) e (both_true (is_built_in t) _ g).1
  where
    go : (o : Option ℕ) → o ≡ Some class → elim o [ Some n ↦ is_open n | None ↦ true ] ≡ true → is_open class ≡ true
    go None e g = let none : ⊥ = grind (arith, e) in absurd none
    go (Some n) e g = ap is_open (same class n (sym e)) ∙ g
      where
        same : (a b : ℕ) → Some a ≡ Some b → a ≡ b
        same a b e = cc

not_built : (t : Text) → is_built_in t ≡ false → IsExtensible t
not_built t free class e = let none : ◌≡◌ {A = Option ℕ} None (Some class) = sym (class_absent 0 built t (built_named t ∙ free)) ∙ e in let no : ⊥ = grind (arith, none) in absurd no

never : {units : List FileUnit} {o : Option Break} → IsFirst units o → o ≡ None → (n : ℕ) (b : Break) → Breaks units n b.reason b.place → ⊥
never (rule.no_break f) e = f
never (rule.first n b all) e = let none : ⊥ = grind (arith, e) in absurd none

module _ (units : List FileUnit) (meets : MeetsRules units) where
  unbroken : (n : ℕ) (b : Break) → Breaks units n b.reason b.place → ⊥
  unbroken = never (first_break_is_first units) meets

  is_kind : (before : List FileUnit) (u : FileUnit) (rest : List FileUnit) → units ≡ before ++ u ∷ rest → IsKind units (length before) u.kind
  is_kind before u rest e = ap (λ (us : List FileUnit). option_map (λ (v : FileUnit). v.kind) (slice_get us (length before))) e ∙ ap (option_map (λ (v : FileUnit). v.kind)) (at_place before u rest)

  taken_is : (before rest : List FileUnit) → units ≡ before ++ rest → take (length before) units ≡ before
  taken_is before rest e = ap (take (length before)) e ∙ taken before rest

  -- a superclass may be extended, or is declared before
  superclass_is : (before : List FileUnit) (u : FileUnit) (rest : List FileUnit) → units ≡ before ++ u ∷ rest → (c : FileClass) → u.kind ≡ kinds.Class c → (list_any (bytes_eq c.superclass) superclasses || list_any (declares_class c.superclass) before) ≡ true
  superclass_is before u rest e c k = go (list_any (bytes_eq c.superclass) superclasses || list_any (declares_class c.superclass) before) refl
    where
      go : (b : Bool) → (list_any (bytes_eq c.superclass) superclasses || list_any (declares_class c.superclass) before) ≡ b → (list_any (bytes_eq c.superclass) superclasses || list_any (declares_class c.superclass) before) ≡ true
      go true q = q
      go false q =
          let i : IsKind units (length before) (kinds.Class c) = is_kind before u rest e ∙ ap Some k in
          let l : lacks_superclass before (kinds.Class c) ≡ true = ap not q in
          let m : lacks_superclass (take (length before) units) (kinds.Class c) ≡ true = ap (λ (us : List FileUnit). lacks_superclass us (kinds.Class c)) (taken_is before (u ∷ rest) e) ∙ l in
          absurd (unbroken (length before) (record { place = start units (length before); reason = _ }) (rule.unknown_superclass i m))

  either_true : (a b : Bool) → (a || b) ≡ true → (a ≡ true) ⊎ (b ≡ true)
  either_true true b e = inl refl
  either_true false b e = inr e

  over : (before : List FileUnit) (u : FileUnit) (rest : List FileUnit) → units ≡ before ++ u ∷ rest → Over before u.kind
  over before u rest e c k = elim (either_true _ _ (superclass_is before u rest e c k)) [
    | inl a ↦ (let g = (both_true (is_built_in c.superclass) _ (good_from superclasses c.superclass all_good a)).0 in ap (λ (b : Bool). b || list_any (declares_class c.superclass) before) g)
    | inr b ↦ or_right (is_built_in c.superclass) _ b
  ]

  -- a class that a unit declares isn't built in
  declared_free : (before : List FileUnit) (u : FileUnit) (rest : List FileUnit) → units ≡ before ++ u ∷ rest → (t : Text) (kind : UnitKind) → u.kind ≡ kind → declares_class t u ≡ true → is_built_in t ≡ false
  declared_free before u rest e t (kinds.Class d) k f =
      let same : declares_class t u ≡ bytes_eq t d.name = rw k refl in
      let is : t ≡ d.name = eq_is t d.name (sym same ∙ f) in
      go (is_built_in t) refl is
    where
      go : (b : Bool) → is_built_in t ≡ b → t ≡ d.name → is_built_in t ≡ false
      go false q is = q
      go true q is =
          let i : IsKind units (length before) (kinds.Class d) = is_kind before u rest e ∙ ap Some k in
          let a : is_class before d.name ≡ true = ap (λ (b : Bool). b || list_any (declares_class d.name) before) (sym (ap is_built_in is) ∙ q) in
          let m : duplicates_class (take (length before) units) (kinds.Class d) ≡ true = ap (λ (us : List FileUnit). duplicates_class us (kinds.Class d)) (taken_is before (u ∷ rest) e) ∙ a in
          absurd (unbroken (length before) (record { place = start units (length before); reason = _ }) (rule.duplicate_class i m))
  declared_free before u rest e t (kinds.Version text) k f = let none : declares_class t u ≡ false = rw k refl in other_way (sym none ∙ f)
  declared_free before u rest e t (kinds.GlobalVariable name) k f = let none : declares_class t u ≡ false = rw k refl in other_way (sym none ∙ f)
  declared_free before u rest e t (kinds.GlobalConstant name) k f = let none : declares_class t u ≡ false = rw k refl in other_way (sym none ∙ f)
  declared_free before u rest e t (kinds.Pool name) k f = let none : declares_class t u ≡ false = rw k refl in other_way (sym none ∙ f)
  declared_free before u rest e t (kinds.PoolVariable pool name) k f = let none : declares_class t u ≡ false = rw k refl in other_way (sym none ∙ f)
  declared_free before u rest e t (kinds.PoolConstant pool name) k f = let none : declares_class t u ≡ false = rw k refl in other_way (sym none ∙ f)
  declared_free before u rest e t (kinds.Initializer target body) k f = let none : declares_class t u ≡ false = rw k refl in other_way (sym none ∙ f)
  declared_free before u rest e t (kinds.PoolInitializer pool name body) k f = let none : declares_class t u ≡ false = rw k refl in other_way (sym none ∙ f)
  declared_free before u rest e t (kinds.ProgramInitializer body) k f = let none : declares_class t u ≡ false = rw k refl in other_way (sym none ∙ f)
  declared_free before u rest e t (kinds.Method class m) k f = let none : declares_class t u ≡ false = rw k refl in other_way (sym none ∙ f)
  declared_free before u rest e t (kinds.ClassMethod class m) k f = let none : declares_class t u ≡ false = rw k refl in other_way (sym none ∙ f)
  declared_free before u rest e t (kinds.Comment text) k f = let none : declares_class t u ≡ false = rw k refl in other_way (sym none ∙ f)

  extensible : (before : List FileUnit) (u : FileUnit) (rest : List FileUnit) → units ≡ before ++ u ∷ rest → (c : FileClass) → u.kind ≡ kinds.Class c → IsExtensible c.superclass
  extensible before u rest e c k = elim (either_true _ _ (superclass_is before u rest e c k)) [
    | inl a ↦ good_open c.superclass (good_from superclasses c.superclass all_good a)
    | inr b ↦ earlier (split (declares_class c.superclass) before b)
  ]
    where
      earlier : Split (declares_class c.superclass) before → IsExtensible c.superclass
      earlier s =
          let f : units ≡ s.left ++ s.one ∷ (s.right ++ u ∷ rest) = e ∙ ap (λ (us : List FileUnit). us ++ u ∷ rest) s.is ∙ append_assoc s.left (s.one ∷ s.right) (u ∷ rest) in
          not_built c.superclass (declared_free s.left s.one (s.right ++ u ∷ rest) f c.superclass s.one.kind refl s.passes)

  extends_step : (kind : UnitKind) → ((c : FileClass) → kind ≡ kinds.Class c → IsExtensible c.superclass) → (us : List NamedUnit) → Extends us → Extends (with_named (named_kind kind) us)
  extends_step (kinds.Version text) f us h = h
  extends_step (kinds.Class c) f us h = (f c refl, h)
  extends_step (kinds.GlobalVariable name) f us h = h
  extends_step (kinds.GlobalConstant name) f us h = h
  extends_step (kinds.Pool name) f us h = h
  extends_step (kinds.PoolVariable pool name) f us h = h
  extends_step (kinds.PoolConstant pool name) f us h = h
  extends_step (kinds.Initializer target body) f us h = h
  extends_step (kinds.PoolInitializer pool name body) f us h = h
  extends_step (kinds.ProgramInitializer body) f us h = h
  extends_step (kinds.Method class m) f us h = h
  extends_step (kinds.ClassMethod class m) f us h = h
  extends_step (kinds.Comment text) f us h = h

  all_extend : (before rest : List FileUnit) → units ≡ before ++ rest → Extends (named_units rest)
  unfolding named_units
  all_extend before [] e = tt
  all_extend before (u ∷ rest) e = extends_step u.kind (extensible before u rest e) (named_units rest) (all_extend (before ++ u ∷ []) rest (e ∙ sym (append_assoc before (u ∷ []) rest)))

  -- ---- bodies

  module _ (names : List Text) where
    abbrev X : Names
    X = names_of names (named_units units)

    T : Told units X
    T = told units over names

    module _ (n : ℕ) (w : Written) (has : HasBody units n w) where
      assignable : (m : Mention) → Contains (naming w).mentions m → m.assigned ≡ true → meaning units w m ≡ Assignable
      assignable m c a = go (meaning units w m) refl
        where
          go : (v : Meaning) → meaning units w m ≡ v → meaning units w m ≡ Assignable
          go Undeclared q = absurd (unbroken n (record { place = body_byte units n m.name.at; reason = _ }) (rule.undeclared_name has c q))
          go Fixed q = absurd (unbroken n (record { place = body_byte units n m.name.at; reason = _ }) (rule.not_assignable has c a q))
          go Assignable q = q

    -- a body on the side of instances, and on the side of the class
    abbrev of_instances : Text → List Name → Body → Written
    of_instances wc parameters b = record { class = wc; side = sides.Instance; parameters = parameters; body = b }

    abbrev of_class : Text → List Name → Body → Written
    of_class wc parameters b = record { class = wc; side = sides.Class; parameters = parameters; body = b }

    module _ (n : ℕ) (class : ℕ) (wc : Text) (at : (c : FileClass) → class_named units wc ≡ Some c → Declared X class c) (parameters : List Name) (b : Body) where
      instances_fine : HasBody units n (of_instances wc parameters b) → (ms : List Mention) → ((m : Mention) → Contains ms m → Contains (naming (of_instances wc parameters b)).mentions m) → MentionsFine X class OfInstance ms
      instances_fine has [] f = tt
      instances_fine has (m ∷ ms) f =
          ((λ a. name_fine units X T wc sides.Instance class at m.scopes m.name.text (assignable n (of_instances wc parameters b) has m (f m (Contains-here m ms)) a)), instances_fine has ms (λ k c. f k (Contains-there m k ms c)))

      on_instances : HasBody units n (of_instances wc parameters b) → BodyAssigns X class OfInstance (map name_text parameters) (named_body b)
      on_instances has = body_fine X class OfInstance b parameters [] (instances_fine has (naming (of_instances wc parameters b)).mentions (λ m c. c))

      class_fine : HasBody units n (of_class wc parameters b) → (ms : List Mention) → ((m : Mention) → Contains ms m → Contains (naming (of_class wc parameters b)).mentions m) → MentionsFine X class OfClass ms
      class_fine has [] f = tt
      class_fine has (m ∷ ms) f =
          ((λ a. name_fine units X T wc sides.Class class at m.scopes m.name.text (assignable n (of_class wc parameters b) has m (f m (Contains-here m ms)) a)), class_fine has ms (λ k c. f k (Contains-there m k ms c)))

      on_class : HasBody units n (of_class wc parameters b) → BodyAssigns X class OfClass (map name_text parameters) (named_body b)
      on_class has = body_fine X class OfClass b parameters [] (class_fine has (naming (of_class wc parameters b)).mentions (λ m c. c))

    -- a class by the number that its name stands for
    number_is : (t : Text) (c : FileClass) → class_named units t ≡ Some c → Declared X (or_zero (class_in 0 X.classes t)) c
    number_is t c e = let y = T.classes t c e in subst (λ o. Declared X (or_zero o) c) (sym y.1.0) y.1.1

    undefined_built : is_built_in (codes "UndefinedObject") ≡ true
    unfolding is_built_in built_in_table
    undefined_built = refl

    no_undefined : (c : FileClass) → class_named units (codes "UndefinedObject") ≡ Some c → ⊥
    no_undefined c e = let f : class_named units (codes "UndefinedObject") ≡ None = rw undefined_built refl in let none : ◌≡◌ {A = Option FileClass} None (Some c) = sym f ∙ e in grind (arith, none)

    outside : (n : ℕ) (b : Body) → HasBody units n (outside_classes b) → BodyAssigns X undefined_object_class OfInstance [] (named_body b)
    outside n b has = on_instances n undefined_object_class (codes "UndefinedObject") (λ c e. absurd (no_undefined c e)) [] b has

    initializer_assigns : (n : ℕ) (target : Text) (b : Body) → IsKind units n (kinds.Initializer target b) → InitializerAssigns X (class_in 0 X.classes target) (named_body b)
    initializer_assigns n target b i = go (class_in 0 X.classes target) refl (is_class units target) refl
      where
        go : (o : Option ℕ) → class_in 0 X.classes target ≡ o → (f : Bool) → is_class units target ≡ f → InitializerAssigns X o (named_body b)
        go (Some k) q true r =
            on_class n k target (λ c e. subst (λ o. Declared X (or_zero o) c) q (number_is target c e)) [] b (kinds.Initializer target b, i, ap (λ (f : Bool). Some (initializer f target b)) r)
        go (Some k) q false r = let none : ◌≡◌ {A = Option ℕ} None (Some k) = sym (class_absent 0 X.classes target (T.named target ∙ r)) ∙ q in let no : ⊥ = grind (arith, none) in absurd no
        go None q false r = outside n b (kinds.Initializer target b, i, ap (λ (f : Bool). Some (initializer f target b)) r)
        go None q true r = let y = class_found 0 X.classes target (T.named target ∙ r) in let none : ◌≡◌ {A = Option ℕ} None (Some y.0) = sym q ∙ y.1 in let no : ⊥ = grind (arith, none) in absurd no

    assigns_step : (n : ℕ) (kind : UnitKind) → IsKind units n kind → (us : List NamedUnit) → UnitsAssign X us → UnitsAssign X (with_named (named_kind kind) us)
    assigns_step n (kinds.Version text) i us h = h
    assigns_step n (kinds.Class c) i us h = (tt, h)
    assigns_step n (kinds.GlobalVariable name) i us h = (tt, h)
    assigns_step n (kinds.GlobalConstant name) i us h = (tt, h)
    assigns_step n (kinds.Pool name) i us h = h
    assigns_step n (kinds.PoolVariable pool name) i us h = (tt, h)
    assigns_step n (kinds.PoolConstant pool name) i us h = (tt, h)
    assigns_step n (kinds.Initializer target body) i us h = (initializer_assigns n target body i, h)
    assigns_step n (kinds.PoolInitializer pool name body) i us h = (outside n body (kinds.PoolInitializer pool name body, i, refl), h)
    assigns_step n (kinds.ProgramInitializer body) i us h = (outside n body (kinds.ProgramInitializer body, i, refl), h)
    assigns_step n (kinds.Method class m) i us h = (on_instances n (or_zero (class_in 0 X.classes class)) class (number_is class) m.parameters m.body (kinds.Method class m, i, refl), h)
    assigns_step n (kinds.ClassMethod class m) i us h = (on_class n (or_zero (class_in 0 X.classes class)) class (number_is class) m.parameters m.body (kinds.ClassMethod class m, i, refl), h)
    assigns_step n (kinds.Comment text) i us h = h

    all_assign : (before rest : List FileUnit) → units ≡ before ++ rest → UnitsAssign X (named_units rest)
    unfolding named_units
    all_assign before [] e = tt
    all_assign before (u ∷ rest) e = assigns_step (length before) u.kind (is_kind before u rest e) (named_units rest) (all_assign (before ++ u ∷ []) rest (e ∙ sym (append_assoc before (u ∷ []) rest)))

pub checked_units_assign : CheckedUnitsAssign
checked_units_assign names units meets = record { places = all_assign units meets names [] units refl; superclasses = all_extend units meets [] units refl }

pub checked_programs_know_variables : CheckedProgramsKnowVariables
checked_programs_know_variables names units limits meets = programs_know_variables names (named_units units) limits (checked_units_assign names units meets)

pub checked_variables_stand : CheckedVariablesStand
checked_variables_stand names units limits meets =
    let us = named_units units in
    each_variable_stands (program_of names us limits) (programs_are_compilable names us limits) (programs_know_literals names us limits) (programs_know_classes names us limits) (checked_programs_know_variables names units limits meets)

pub checked_objects_are_full : CheckedObjectsAreFull
checked_objects_are_full names units limits meets =
    let us = named_units units in
    each_object_is_full (program_of names us limits) (programs_are_compilable names us limits) (programs_know_literals names us limits) (programs_know_classes names us limits) (checked_programs_know_variables names units limits meets)
