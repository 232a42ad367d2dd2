-- The classes of a file that meets the static rules stand under Object, an exception class or each other.
use Rattle.std.proofs.Common.{◌≡◌, ℕ, zero, suc, ◌+◌, ◌<◌, ◌⊎◌, inl, inr, nat_eq, nat_le, not, ◌&&◌, ◌||◌, map, length, take, append_assoc, List, [], ◌∷◌, ◌++◌, Option, Some, None, Bool, true, false, eqb-true, true≢false, refl, sym, ap, ◌∙◌, subst, arith}
use Rattle.std.specs.List.{list_any}
use Rattle.std.specs.Option.{option_or, option_map}
use Rattle.std.specs.Prelude.{codes}
use Rattle.std.specs.Str.{bytes_eq}
use Rattle.std.proofs.lemmas.Bool.{leb-true}
use Rattle.std.proofs.lemmas.List.{length-append}
use Rattle.std.proofs.lemmas.List.Folds.{list_any-append}
use Rattle.std.proofs.lemmas.Slice.Eq.{bytes_eq-Decides}
use Rattle.st_base.specs.declared.faults.Reason.{Reason}
use Rattle.st_base.specs.declared.faults.Reason.TheVariants as reasons
use Rattle.st_base.specs.BuiltIns.{classes, ClassRow as BaseRow}
use Rattle.st_tree.specs.declared.units.ClassUnit.{ClassUnit as TreeClass}
use Rattle.st_tree.specs.declared.units.Unit.{Unit as FileUnit}
use Rattle.st_tree.specs.declared.units.UnitKind.{UnitKind}
use Rattle.st_tree.specs.declared.units.UnitKind.TheVariants as kinds
use Rattle.st_tree.specs.Numbers.{element_of}
use Rattle.st_code.specs.BuiltIns.{object_class, exception_class, warning_class, built_in_classes, built_in_class_rows}
use Rattle.st_code.specs.Definitions.{built_in_names}
use Rattle.st_code.specs.Named.{NamedUnit, ClassUnit, GlobalUnit, PoolVariableUnit, InitializerUnit, PoolInitializerUnit, ProgramUnit, MethodUnit, ClassMethodUnit}
use Rattle.st_code.specs.Program.{ClassRow}
use Rattle.st_code.specs.Resolved.{ClassNames, class_in}
use Rattle.st_code.specs.Texts.{Text, same_text}
use Rattle.st_code.specs.Written.{named_units, named_kind, with_named}
use Rattle.st_rules.proofs.SoundNames.{same_is}
use Rattle.st_checks.specs.Declarations.{superclasses, declares_class, is_built_in, is_class}
use Rattle.st_checks.specs.StaticRules.{Fault, Break, as_whole, faults, unit_fault, break_of, first_break_from, first_break, duplicates_class, lacks_superclass, MeetsRules}
use Rattle.st_checked.specs.CheckedUnits.{is_extensible, may_stand_over, StandWell, CheckedClassesStandWell, CheckedClassesExtend}
use Rattle.st_sound.specs.KnownCollections.{may_extend, Extends}
use Rattle.st_sound.specs.SoundStore.{grows}
use Rattle.st_sound.proofs.WrittenNames.{grows_late}

abbrev AllAre : (Text → Type 0) → List Text → Type 0
AllAre P [] = Unit {0}
AllAre P (t ∷ ts) = P t × AllAre P ts

-- ---- texts and lists

text_is : (a b : Text) → same_text a b ≡ true → a ≡ b
text_is a b e = same_is a b e

bytes_are : (a b : Text) → bytes_eq a b ≡ true → a ≡ b
bytes_are a b e = (bytes_eq-Decides a b).0 e

bytes_same : (a b : Text) → a ≡ b → bytes_eq a b ≡ true
bytes_same a b e = (bytes_eq-Decides a b).1 e

neither : (a b : Bool) → (a || b) ≡ false → (a ≡ false) × (b ≡ false)
neither true b e = absurd (true≢false e)
neither false b e = (refl, e)

not_false : (b : Bool) → not b ≡ false → b ≡ true
not_false true e = refl
not_false false e = absurd (true≢false e)

or_is : (a b : Bool) → (a || b) ≡ true → (a ≡ true) ⊎ (b ≡ true)
or_is true b e = inl refl
or_is false b e = inr e

any_append : {A : Type 0} (f : A → Bool) (xs : List A) (y : A) → list_any f (xs ++ y ∷ []) ≡ true → (list_any f xs ≡ true) ⊎ (f y ≡ true)
any_append f xs y e = elim (or_is (list_any f xs) (f y || false) (sym (list_any-append f xs (y ∷ [])) ∙ e)) [
  | inl a ↦ inl a
  | inr b ↦ elim (or_is (f y) false b) [ inl c ↦ inr c | inr d ↦ absurd (true≢false (sym d)) ]
]

all_are : (P : Text → Type 0) (t : Text) (ts : List Text) → AllAre P ts → list_any (bytes_eq t) ts ≡ true → P t
all_are P t [] h e = absurd (true≢false (sym e))
all_are P t (u ∷ ts) h e = elim (or_is (bytes_eq t u) (list_any (bytes_eq t) ts) e) [
  | inl a ↦ subst P (sym (bytes_are t u a)) h.0
  | inr b ↦ all_are P t ts h.1 b
]

-- ---- names of built-in classes

abbrev built : List ClassNames
built = map built_in_names built_in_class_rows

abbrev base_name : BaseRow → Text
base_name c = c.name

abbrev row_name : ClassRow → Text
row_name r = r.name

same_names : map base_name classes ≡ map row_name built_in_class_rows
unfolding classes built_in_class_rows built_in_classes
same_names = refl

any_named : (t : Text) (cs : List BaseRow) → list_any (λ c. bytes_eq t c.name) cs ≡ list_any (bytes_eq t) (map base_name cs)
any_named t [] = refl
any_named t (c ∷ cs) = ap (λ b. bytes_eq t c.name || b) (any_named t cs)

abbrev pick : Bool → ℕ → Option ℕ → Option ℕ
pick b n o = elim b [ true ↦ Some n | false ↦ o ]

none_found : (t : Text) (n : ℕ) (rows : List ClassRow) → list_any (bytes_eq t) (map row_name rows) ≡ false → class_in n (map built_in_names rows) t ≡ None
none_found t n [] e = refl
none_found t n (r ∷ rows) e =
    let h = neither (bytes_eq t r.name) (list_any (bytes_eq t) (map row_name rows)) e in
    go (same_text r.name t) refl h.0 (none_found t (suc n) rows h.1)
  where
    go : (b : Bool) → same_text r.name t ≡ b → bytes_eq t r.name ≡ false → class_in (suc n) (map built_in_names rows) t ≡ None → pick b n (class_in (suc n) (map built_in_names rows) t) ≡ None
    go true s f on = absurd (true≢false (sym (bytes_same t r.name (sym (text_is r.name t s))) ∙ f))
    go false s f on = on

-- a name that no built-in class has
none_built : (t : Text) → is_built_in t ≡ false → class_in 0 built t ≡ None
unfolding is_built_in
none_built t e = none_found t 0 built_in_class_rows (ap (list_any (bytes_eq t)) (sym same_names) ∙ sym (any_named t classes) ∙ e)

abbrev Well : Text → Type 0
Well t = may_stand_over (class_in 0 built t) ≡ true

superclasses_well : AllAre Well superclasses
unfolding superclasses built_in_class_rows built_in_classes same_text
superclasses_well = (refl, (refl, (refl, (refl, (refl, (refl, (refl, tt)))))))

-- ---- the rules that a unit meets

none_first : {A : Type 0} (a b : Option A) → option_or a b ≡ None → (a ≡ None) × (b ≡ None)
none_first None b e = (refl, e)
none_first (Some x) b e = let none : ⊥ = grind (arith, e) in absurd none

unmapped : {A B : Type 0} (f : A → B) (o : Option A) → option_map f o ≡ None → o ≡ None
unmapped f None e = refl
unmapped f (Some x) e = let none : ⊥ = grind (arith, e) in absurd none

not_whole : (r : Reason) (b : Bool) → as_whole r b ≡ None → b ≡ false
not_whole r true e = let none : ⊥ = grind (arith, e) in absurd none
not_whole r false e = refl

pub record Meets (before : List FileUnit) (kind : UnitKind) : Type 0 where
  pub single : duplicates_class before kind ≡ false
  pub under : lacks_superclass before kind ≡ false

unit_meets : (units : List FileUnit) (n : ℕ) (kind : UnitKind) → unit_fault units n kind ≡ None → Meets (take n units) kind
unfolding unit_fault
unit_meets units n kind e =
    let a = none_first _ _ e in
    let b = none_first _ _ a.1 in
    let c = none_first _ _ b.1 in
    record { single = not_whole reasons.DuplicateClass (duplicates_class (take n units) kind) a.0; under = not_whole reasons.UnknownSuperclass (lacks_superclass (take n units) kind) c.0 }

-- ---- unit by unit

-- no class that these units declare has a built-in name
abbrev Plain : List FileUnit → Type 0
Plain before = (name : Text) → list_any (declares_class name) before ≡ true → is_built_in name ≡ false

superclass_well : (before : List FileUnit) (c : TreeClass) → Plain before → Meets before (kinds.Class c) → Well c.superclass
superclass_well before c h m = elim (or_is (list_any (bytes_eq c.superclass) superclasses) (list_any (declares_class c.superclass) before) (not_false _ m.under)) [
  | inl a ↦ all_are Well c.superclass superclasses superclasses_well a
  | inr b ↦ ap may_stand_over (none_built c.superclass (h c.superclass b))
]

unit_plain : (before : List FileUnit) (u : FileUnit) (kind : UnitKind) → u.kind ≡ kind → Meets before kind → (name : Text) → (elim kind [ kinds.Class c ↦ bytes_eq name c.name | _ ↦ false ]) ≡ true → is_built_in name ≡ false
unit_plain before u (kinds.Class c) k m name e = ap is_built_in (bytes_are name c.name e) ∙ (neither (is_built_in c.name) (list_any (declares_class c.name) before) m.single).0
unit_plain before u (kinds.Version text) k m name e = absurd (true≢false (sym e))
unit_plain before u (kinds.GlobalVariable t) k m name e = absurd (true≢false (sym e))
unit_plain before u (kinds.GlobalConstant t) k m name e = absurd (true≢false (sym e))
unit_plain before u (kinds.Pool t) k m name e = absurd (true≢false (sym e))
unit_plain before u (kinds.PoolVariable pool t) k m name e = absurd (true≢false (sym e))
unit_plain before u (kinds.PoolConstant pool t) k m name e = absurd (true≢false (sym e))
unit_plain before u (kinds.Initializer t body) k m name e = absurd (true≢false (sym e))
unit_plain before u (kinds.PoolInitializer pool t body) k m name e = absurd (true≢false (sym e))
unit_plain before u (kinds.ProgramInitializer body) k m name e = absurd (true≢false (sym e))
unit_plain before u (kinds.Method class method) k m name e = absurd (true≢false (sym e))
unit_plain before u (kinds.ClassMethod class method) k m name e = absurd (true≢false (sym e))
unit_plain before u (kinds.Comment texts) k m name e = absurd (true≢false (sym e))

plain_more : (before : List FileUnit) (u : FileUnit) → Plain before → Meets before u.kind → Plain (before ++ u ∷ [])
plain_more before u h m name e = elim (any_append (declares_class name) before u e) [
  | inl a ↦ h name a
  | inr b ↦ unit_plain before u u.kind refl m name b
]

stand_more : (kind : UnitKind) (units : List NamedUnit) → ((c : TreeClass) → kind ≡ kinds.Class c → Well c.superclass) → StandWell units → StandWell (with_named (named_kind kind) units)
stand_more (kinds.Class c) units w h = (w c refl, h)
stand_more (kinds.Version text) units w h = h
stand_more (kinds.GlobalVariable t) units w h = h
stand_more (kinds.GlobalConstant t) units w h = h
stand_more (kinds.Pool t) units w h = h
stand_more (kinds.PoolVariable pool t) units w h = h
stand_more (kinds.PoolConstant pool t) units w h = h
stand_more (kinds.Initializer t body) units w h = h
stand_more (kinds.PoolInitializer pool t body) units w h = h
stand_more (kinds.ProgramInitializer body) units w h = h
stand_more (kinds.Method class method) units w h = h
stand_more (kinds.ClassMethod class method) units w h = h
stand_more (kinds.Comment texts) units w h = h

units_stand : (units before more : List FileUnit) → units ≡ before ++ more → first_break_from units (length before) more ≡ None → Plain before → StandWell (named_units more)
unfolding named_units
units_stand units before [] e f h = tt
units_stand units before (u ∷ more) e f h =
    let both = none_first (option_map (break_of (element_of units (length before))) (unit_fault units (length before) u.kind)) (first_break_from units (suc (length before)) more) f in
    let taken : take (length before) units ≡ before = ap (take (length before)) e ∙ take_self before (u ∷ more) in
    let m : Meets before u.kind = subst (λ us. Meets us u.kind) taken (unit_meets units (length before) u.kind (unmapped _ _ both.0)) in
    let size : length (before ++ u ∷ []) ≡ suc (length before) = length-append before (u ∷ []) ∙ omega arith in
    let rest = units_stand units (before ++ u ∷ []) more (e ∙ sym (append_assoc before (u ∷ []) more)) (subst (λ n. first_break_from units n more ≡ None) (sym size) both.1) (plain_more before u h m) in
    stand_more u.kind (named_units more) (λ c k. superclass_well before c h (subst (Meets before) k m)) rest
  where
    take_self : (xs ys : List FileUnit) → take (length xs) (xs ++ ys) ≡ xs
    take_self [] ys = refl
    take_self (x ∷ xs) ys = ap (λ zs. x ∷ zs) (take_self xs ys)

pub classes_stand_well : CheckedClassesStandWell
unfolding first_break
classes_stand_well units e = units_stand units [] units refl e (λ name none. absurd (true≢false (sym none)))

-- ---- what stands well takes no elements

late_or_object : (k : ℕ) (a b c : Bool) → nat_eq k object_class ≡ a → nat_le exception_class k ≡ b → (a || (b && c)) ≡ true → grows k ≡ false
late_or_object k true b c e f g = ap grows (eqb-true k object_class e)
late_or_object k false true c e f g = let l = leb-true exception_class k f in grows_late k (omega (arith, l))
late_or_object k false false c e f g = absurd (true≢false (sym g))

not_grown : (o : Option ℕ) → may_stand_over o ≡ true → may_extend o ≡ true
not_grown None e = refl
not_grown (Some k) e = ap not (late_or_object k (nat_eq k object_class) (nat_le exception_class k) (nat_le k warning_class) refl refl e)

all_extend : (units : List NamedUnit) → StandWell units → Extends units
all_extend [] h = tt
all_extend (ClassUnit c ∷ units) h = (not_grown (class_in 0 built c.superclass) h.0, all_extend units h.1)
all_extend (GlobalUnit name ∷ units) h = all_extend units h
all_extend (PoolVariableUnit pool name ∷ units) h = all_extend units h
all_extend (InitializerUnit target b ∷ units) h = all_extend units h
all_extend (PoolInitializerUnit pool name b ∷ units) h = all_extend units h
all_extend (ProgramUnit b ∷ units) h = all_extend units h
all_extend (MethodUnit class m ∷ units) h = all_extend units h
all_extend (ClassMethodUnit class m ∷ units) h = all_extend units h

pub classes_extend : CheckedClassesExtend
classes_extend units e = all_extend (named_units units) (classes_stand_well units e)
