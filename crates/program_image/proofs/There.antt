-- The texts that a program spells are among its names.
use Rattle.std.proofs.Common.{◌≡◌, ℕ, suc, ◌+◌, ◌<◌, Bool, true, false, ◌||◌, List, [], ◌∷◌, ◌++◌, map, length, Option, Some, None, refl, ap, ◌∙◌, arith, if◌then◌else◌}
use Rattle.std.specs.Str.{bytes_eq}
use Rattle.std.specs.List.{position_or_len, list_any}
use Rattle.std.proofs.lemmas.List.Folds.{list_any-append}
use Rattle.std.proofs.lemmas.Map.Steps.{list_any_congr}
use Rattle.std.proofs.lemmas.Cmp.{nat_list_eq_equiv}
use Rattle.indexmap.specs.IndexSet.{insert_key}
use Rattle.st_base.specs.BuiltIns.{messages}
use Rattle.st_tree.specs.declared.units.Unit.{Unit}
use Rattle.st_code.specs.Texts.{Text, same_text}
use Rattle.st_code.specs.Program.{Program, number_of}
use Rattle.st_code.specs.Named.{NamedUnit, ClassUnit, GlobalUnit, PoolVariableUnit, InitializerUnit, PoolInitializerUnit, ProgramUnit, MethodUnit, ClassMethodUnit}
use Rattle.st_code.specs.Written.{named_units}
use Rattle.st_code.specs.Resolved.{Names, text_in, number_or_last}
use Rattle.st_code.specs.Definitions.{declared_unit, declared_units, names_of, built_in_names}
use Rattle.st_code.specs.BuiltIns.{built_in_class_rows}
use Rattle.program_image.specs.Spelled.{spelled, names_in, selector_of, units_texts}
use Rattle.program_image.specs.Images.{image_names}
use Rattle.program_image.proofs.Numbers.{number-place}

pub position-low : (p : Text → Bool) (xs : List Text) → list_any p xs ≡ true → position_or_len p xs < length xs
position-low p [] e = absurd (grind (arith, e))
position-low p (x ∷ xs) e = step (p x) refl e (position-low p xs)
  where
    step : (b : Bool) → p x ≡ b → list_any p (x ∷ xs) ≡ true → (list_any p xs ≡ true → position_or_len p xs < length xs) → position_or_len p (x ∷ xs) < length (x ∷ xs)
    step true t any ih = rw t (omega arith)
    step false t any ih =
        let rest : list_any p xs ≡ true = rw t at any in
        rw t (omega (arith, ih rest))

-- the number of a text that is there
pub number-low : (names : List Text) (t : Text) → list_any (bytes_eq t) names ≡ true → number_or_last names t < length names
number-low names t there = rw (number-place names t) (position-low (bytes_eq t) names there)

-- ---- the number of a name

abbrev from : List Text → Text → ℕ → ℕ
from [] text n = n
from (t ∷ names) text n = elim (same_text t text) [ true ↦ n | false ↦ from names text (n + 1) ]

abbrev or_last : Option ℕ → ℕ → ℕ
or_last (Some k) last = k
or_last None last = last

abbrev pick : {A : Type 0} → Bool → A → A → A
pick b x y = elim b [ true ↦ x | false ↦ y ]

from-step : (b : Bool) (n m last : ℕ) (o : Option ℕ) → m ≡ or_last o last → pick b n m ≡ or_last (pick b (Some n) o) last
from-step true n m last o is = refl
from-step false n m last o is = is

from-place : (names : List Text) (t : Text) (n : ℕ) → from names t n ≡ or_last (text_in n names t) (n + length names)
from-place [] t n = omega arith
from-place (u ∷ names) t n =
    let next : n + 1 ≡ suc n = omega arith in
    let last : suc n + length names ≡ n + length (u ∷ names) = omega arith in
    let rest : from names t (n + 1) ≡ or_last (text_in (suc n) names t) (n + length (u ∷ names)) = ap (from names t) next ∙ from-place names t (suc n) ∙ ap (or_last (text_in (suc n) names t)) last in
    from-step (same_text u t) n (from names t (n + 1)) (n + length (u ∷ names)) (text_in (suc n) names t) rest

last-or : (o : Option ℕ) (last : ℕ) → or_last o last ≡ elim o [ Some k ↦ k | None ↦ last ]
last-or (Some k) last = refl
last-or None last = refl

pub number-last : (p : Program) (t : Text) → number_of p t ≡ number_or_last p.names t
unfolding number_of
number-last p t =
    let start : 0 + length p.names ≡ length p.names = omega arith in
    from-place p.names t 0 ∙ ap (or_last (text_in 0 p.names t)) start ∙ last-or (text_in 0 p.names t) (length p.names)

-- ---- what is spelled

or-true : (a : Bool) → (a || true) ≡ true
or-true true = refl
or-true false = refl

module _ (t : Text) where
  insert-kept : (names : List Text) (u : Text) → list_any (bytes_eq t) names ≡ true → list_any (bytes_eq t) (insert_key bytes_eq names u) ≡ true
  insert-kept names u there = step (list_any (bytes_eq u) names)
    where
      step : (b : Bool) → list_any (bytes_eq t) (if b then names else names ++ u ∷ []) ≡ true
      step true = there
      step false = list_any-append (bytes_eq t) names (u ∷ []) ∙ ap (λ b. b || list_any (bytes_eq t) (u ∷ [])) there

  insert-has : (names : List Text) (u : Text) → bytes_eq t u ≡ true → list_any (bytes_eq t) (insert_key bytes_eq names u) ≡ true
  insert-has names u same = step (list_any (bytes_eq u) names) refl
    where
      step : (b : Bool) → list_any (bytes_eq u) names ≡ b → list_any (bytes_eq t) (if b then names else names ++ u ∷ []) ≡ true
      step true is = list_any_congr nat_list_eq_equiv t u names same ∙ is
      step false is = list_any-append (bytes_eq t) names (u ∷ []) ∙ ap (λ b. list_any (bytes_eq t) names || (b || false)) same ∙ or-true (list_any (bytes_eq t) names)

  spelled-kept : (names texts : List Text) → list_any (bytes_eq t) names ≡ true → list_any (bytes_eq t) (spelled names texts) ≡ true
  spelled-kept names [] there = there
  spelled-kept names (u ∷ texts) there = spelled-kept (insert_key bytes_eq names u) texts (insert-kept names u there)

  spelled-has : (names texts : List Text) → list_any (bytes_eq t) texts ≡ true → list_any (bytes_eq t) (spelled names texts) ≡ true
  spelled-has names [] any = absurd (grind (arith, any))
  spelled-has names (u ∷ texts) any = step (bytes_eq t u) refl any (λ rest. spelled-has (insert_key bytes_eq names u) texts rest)
    where
      step : (b : Bool) → bytes_eq t u ≡ b → list_any (bytes_eq t) (u ∷ texts) ≡ true → (list_any (bytes_eq t) texts ≡ true → list_any (bytes_eq t) (spelled (insert_key bytes_eq names u) texts) ≡ true) → list_any (bytes_eq t) (spelled (insert_key bytes_eq names u) texts) ≡ true
      step true is all ih = spelled-kept (insert_key bytes_eq names u) texts (insert-has names u is)
      step false is all ih = let rest : list_any (bytes_eq t) texts ≡ true = rw is at all in ih rest

-- ---- the names of an image

names-kept : (x : Names) (units : List NamedUnit) → (declared_units x units).names ≡ x.names
names-kept x [] = refl
names-kept x (u ∷ units) = names-kept (declared_unit x u) units ∙ one-kept x u
  where
    one-kept : (x : Names) (u : NamedUnit) → (declared_unit x u).names ≡ x.names
    one-kept x (ClassUnit c) = refl
    one-kept x (GlobalUnit name) = refl
    one-kept x (PoolVariableUnit pool name) = refl
    one-kept x (InitializerUnit target b) = refl
    one-kept x (PoolInitializerUnit pool name b) = refl
    one-kept x (ProgramUnit b) = refl
    one-kept x (MethodUnit class m) = refl
    one-kept x (ClassMethodUnit class m) = refl

pub image-spelled : (units : List Unit) → (image_names units).names ≡ names_in (named_units units)
unfolding image_names names_of
image-spelled units = names-kept (record { names = names_in (named_units units); classes = map built_in_names built_in_class_rows; shared = [] }) (named_units units)

-- each selector of a built-in message
pub selector-there : (units : List Unit) (t : Text) → list_any (bytes_eq t) (map selector_of messages) ≡ true → list_any (bytes_eq t) (image_names units).names ≡ true
unfolding names_in
selector-there units t is =
    ap (list_any (bytes_eq t)) (image-spelled units)
    ∙ spelled-kept t (spelled [] (map selector_of messages)) (units_texts (named_units units)) (spelled-has t [] (map selector_of messages) is)
