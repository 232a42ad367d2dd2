-- In units each of whose classes stands behind its superclass, the line upwards of a class is as long as it may be once a step is left for each unit.
use Rattle.std.proofs.Common.{◌≡◌, ◌⊎◌, inl, inr, ℕ, zero, suc, ◌+◌, ◌≤◌, not, ◌||◌, cond, List, [], ◌∷◌, ◌++◌, length, Some, None, Bool, true, false, true≢false, refl, sym, ap, ◌∙◌, subst, append_assoc, append-nil, arith, if◌then◌else◌}
use Rattle.std.specs.List.{list_any, find}
use Rattle.std.specs.Str.{bytes_eq}
use Rattle.std.proofs.lemmas.List.{length-append}
use Rattle.st_base.specs.BuiltIns.{classes}
use Rattle.st_tree.specs.declared.units.ClassUnit.{ClassUnit}
use Rattle.st_tree.specs.declared.units.UnitKind.{UnitKind}
use Rattle.st_tree.specs.declared.units.UnitKind.TheVariants as kinds
use Rattle.st_tree.specs.declared.units.Unit.{Unit as FileUnit}
use Rattle.st_code.specs.Texts.{Text}
use Rattle.st_checks.specs.Declarations.{superclasses, is_built_in, declares_class, class_of_unit, class_named, from_class}
use Rattle.st_checks.specs.StaticRules.{lacks_superclass}
use Rattle.st_shake.proofs.Texts.{bytes_eq-is}

-- ---- names of built-in superclasses are those of built-in classes

pub neither : (a b : Bool) → (a || b) ≡ false → (a ≡ false) × (b ≡ false)
neither true b e = absurd (true≢false e)
neither false b e = (refl, e)

or_is : (a b : Bool) → (a || b) ≡ true → (a ≡ true) ⊎ (b ≡ true)
or_is true b e = inl refl
or_is false b e = inr e

not_false : (b : Bool) → not b ≡ false → b ≡ true
not_false true e = refl
not_false false e = absurd (true≢false e)

abbrev AllBuilt : List Text → Type 0
AllBuilt [] = Unit {0}
AllBuilt (t ∷ ts) = (is_built_in t ≡ true) × AllBuilt ts

all_built : AllBuilt superclasses
unfolding superclasses classes is_built_in
all_built = (refl, (refl, (refl, (refl, (refl, (refl, (refl, tt)))))))

among_built : (ts : List Text) → AllBuilt ts → (t : Text) → list_any (bytes_eq t) ts ≡ true → is_built_in t ≡ true
among_built [] all t h = absurd (true≢false (sym h))
among_built (u ∷ ts) all t h = elim (or_is (bytes_eq t u) (list_any (bytes_eq t) ts) h) [
  | inl a ↦ ap is_built_in (bytes_eq-is t u a) ∙ all.0
  | inr b ↦ among_built ts all.1 t b
]

-- ---- units one behind the other

-- each class of the units behind these stands under a built-in class or behind its superclass
abbrev pub Ordered : List FileUnit → List FileUnit → Type 0
Ordered before [] = Unit {0}
Ordered before (u ∷ units) = (lacks_superclass before u.kind ≡ false) × Ordered (before ++ u ∷ []) units

any_push : {A : Type 0} (p : A → Bool) (xs : List A) (y : A) → list_any p (xs ++ y ∷ []) ≡ true → list_any p xs ≡ false → p y ≡ true
any_push p [] y h fails = elim (or_is (p y) false h) [ inl a ↦ a | inr b ↦ absurd (true≢false (sym b)) ]
any_push p (x ∷ xs) y h fails =
    let other = neither (p x) (list_any p xs) fails in
    any_push p xs y (sym (ap (λ b. b || list_any p (xs ++ y ∷ [])) other.0) ∙ h) other.1

find_none : {A : Type 0} (p : A → Bool) (xs : List A) → list_any p xs ≡ false → find p xs ≡ None
find_none p [] fails = refl
find_none p (x ∷ xs) fails = let other = neither (p x) (list_any p xs) fails in ap (λ b. cond b (Some x) (find p xs)) other.0 ∙ find_none p xs other.1

find_behind : {A : Type 0} (p : A → Bool) (xs : List A) (y : A) (ys : List A) → list_any p xs ≡ false → p y ≡ true → find p (xs ++ y ∷ ys) ≡ Some y
find_behind p [] y ys fails is = ap (λ b. cond b (Some y) (find p ys)) is
find_behind p (x ∷ xs) y ys fails is = let other = neither (p x) (list_any p xs) fails in ap (λ b. cond b (Some x) (find p (xs ++ y ∷ ys))) other.0 ∙ find_behind p xs y ys other.1 is

-- ---- the line of a class

module _ (all : List FileUnit) where
  none_from : (k m : ℕ) → from_class k all None ≡ from_class m all None
  none_from zero zero = refl
  none_from zero (suc m) = refl
  none_from (suc k) zero = refl
  none_from (suc k) (suc m) = refl

  -- one more step changes nothing at the line of a class that these units declare
  abbrev Short : List FileUnit → Type 0
  Short before = (name : Text) → list_any (declares_class name) before ≡ true → (k m : ℕ) → length before ≤ k → length before ≤ m → from_class k all (class_named all name) ≡ from_class m all (class_named all name)

  built_in_none : (name : Text) → is_built_in name ≡ true → class_named all name ≡ None
  built_in_none name is = ap (λ b. if b then None else class_of_unit (find (declares_class name) all)) is

  -- above a class of the next unit
  above : (before : List FileUnit) (c : ClassUnit) → Short before → lacks_superclass before (kinds.Class c) ≡ false → (k m : ℕ) → length before ≤ k → length before ≤ m → from_class k all (class_named all c.superclass) ≡ from_class m all (class_named all c.superclass)
  above before c short lacks k m lk lm = elim (or_is (list_any (bytes_eq c.superclass) superclasses) (list_any (declares_class c.superclass) before) (not_false _ lacks)) [
    | inl built ↦
        let none = built_in_none c.superclass (among_built superclasses all_built c.superclass built) in
        ap (from_class k all) none ∙ none_from k m ∙ ap (from_class m all) (sym none)
    | inr there ↦ short c.superclass there k m lk lm
  ]

  next : (before : List FileUnit) (u : FileUnit) (rest : List FileUnit) → all ≡ before ++ u ∷ rest → lacks_superclass before u.kind ≡ false → Short before → Short (before ++ u ∷ [])
  next before u rest whole lacks short name there k m lk lm = by (list_any (declares_class name) before) refl
    where
      size : length (before ++ u ∷ []) ≡ length before + 1
      size = length-append before (u ∷ [])

      at_class : (kind : UnitKind) → lacks_superclass before kind ≡ false → (k m : ℕ) → length before + 1 ≤ k → length before + 1 ≤ m → from_class k all (class_of_unit (Some (record u { kind = kind }))) ≡ from_class m all (class_of_unit (Some (record u { kind = kind })))
      at_class (kinds.Class c) lacks zero m lk lm = absurd (omega (arith, lk))
      at_class (kinds.Class c) lacks (suc k) zero lk lm = absurd (omega (arith, lm))
      at_class (kinds.Class c) lacks (suc k) (suc m) lk lm = ap (λ cs. c ∷ cs) (above before c short lacks k m (omega (arith, lk)) (omega (arith, lm)))
      at_class (kinds.Version t) lacks k m lk lm = none_from k m
      at_class (kinds.GlobalVariable t) lacks k m lk lm = none_from k m
      at_class (kinds.GlobalConstant t) lacks k m lk lm = none_from k m
      at_class (kinds.Pool t) lacks k m lk lm = none_from k m
      at_class (kinds.PoolVariable p t) lacks k m lk lm = none_from k m
      at_class (kinds.PoolConstant p t) lacks k m lk lm = none_from k m
      at_class (kinds.Initializer t b) lacks k m lk lm = none_from k m
      at_class (kinds.PoolInitializer p t b) lacks k m lk lm = none_from k m
      at_class (kinds.ProgramInitializer b) lacks k m lk lm = none_from k m
      at_class (kinds.Method c t) lacks k m lk lm = none_from k m
      at_class (kinds.ClassMethod c t) lacks k m lk lm = none_from k m
      at_class (kinds.Comment ts) lacks k m lk lm = none_from k m

      named : list_any (declares_class name) before ≡ false → find (declares_class name) all ≡ Some u
      named fails = ap (find (declares_class name)) whole ∙ find_behind (declares_class name) before u rest fails (any_push (declares_class name) before u there fails)

      at : (b : Bool) → is_built_in name ≡ b → find (declares_class name) all ≡ Some u → from_class k all (class_named all name) ≡ from_class m all (class_named all name)
      at true is found = let none = built_in_none name is in ap (from_class k all) none ∙ none_from k m ∙ ap (from_class m all) (sym none)
      at false is found =
          let here : class_named all name ≡ class_of_unit (Some u) = ap (λ b. if b then None else class_of_unit (find (declares_class name) all)) is ∙ ap class_of_unit found in
          ap (from_class k all) here ∙ at_class u.kind lacks k m (omega (arith, lk, size)) (omega (arith, lm, size)) ∙ ap (from_class m all) (sym here)

      by : (b : Bool) → list_any (declares_class name) before ≡ b → from_class k all (class_named all name) ≡ from_class m all (class_named all name)
      by true is = short name is k m (omega (arith, lk, size)) (omega (arith, lm, size))
      by false is = at (is_built_in name) refl (named is)

  all_short : (before rest : List FileUnit) → all ≡ before ++ rest → Ordered before rest → Short before → Short all
  all_short before [] whole ordered short = subst Short (sym (whole ∙ append-nil before)) short
  all_short before (u ∷ rest) whole ordered short = all_short (before ++ u ∷ []) rest (whole ∙ sym (append_assoc before (u ∷ []) rest)) ordered.1 (next before u rest whole ordered.0 short)

  pub line-same : Ordered [] all → (name : Text) (k m : ℕ) → length all ≤ k → length all ≤ m → from_class k all (class_named all name) ≡ from_class m all (class_named all name)
  line-same ordered name k m lk lm = by (list_any (declares_class name) all) refl
    where
      by : (b : Bool) → list_any (declares_class name) all ≡ b → from_class k all (class_named all name) ≡ from_class m all (class_named all name)
      by true is = all_short [] all refl ordered (λ t h k m lk lm. absurd (true≢false (sym h))) name is k m lk lm
      by false is = at (is_built_in name) refl
        where
          at : (b : Bool) → is_built_in name ≡ b → from_class k all (class_named all name) ≡ from_class m all (class_named all name)
          at true built = let none = built_in_none name built in ap (from_class k all) none ∙ none_from k m ∙ ap (from_class m all) (sym none)
          at false built =
              let none : class_named all name ≡ None = ap (λ b. if b then None else class_of_unit (find (declares_class name) all)) built ∙ ap class_of_unit (find_none (declares_class name) all is) in
              ap (from_class k all) none ∙ none_from k m ∙ ap (from_class m all) (sym none)
