-- The units that are kept, unit by unit, and that sets with the same texts keep the same.
use Rattle.std.proofs.Common.{◌≡◌, ℕ, ◌+◌, ◌<◌, List, [], ◌∷◌, ◌++◌, length, get_or, take, Option, Some, None, Bool, true, false, refl, sym, ap, ◌∙◌, append-nil}
use Rattle.std.proofs.lemmas.List.{take_more}
use Rattle.st_tree.specs.declared.units.Unit.{Unit}
use Rattle.st_code.specs.Texts.{Text}
use Rattle.st_code.specs.Named.{NamedUnit, ClassUnit, GlobalUnit, PoolVariableUnit, InitializerUnit, PoolInitializerUnit, ProgramUnit, MethodUnit, ClassMethodUnit}
use Rattle.st_code.specs.Resolved.{has_text}
use Rattle.st_code.specs.Written.{named_unit, named_units}
use Rattle.st_shake.specs.Needed.{Method, Has, IsLeast, always_needed, methods_of, texts_of}
use Rattle.st_shake.specs.Shaken.{is_kept, is_kept_kind, stays, before_if, units_that, kept, shaken}
use Rattle.st_shake.proofs.Closing.{closure_is_least}

-- ---- unit by unit

before-push : (b : Bool) (u : Unit) (us vs : List Unit) → before_if b u us ++ vs ≡ before_if b u (us ++ vs)
before-push true u us vs = refl
before-push false u us vs = refl

pub that-push : (test : Unit → Bool) (units : List Unit) (u : Unit) → units_that test (units ++ u ∷ []) ≡ units_that test units ++ before_if (test u) u []
that-push test [] u = refl
that-push test (x ∷ units) u = ap (before_if (test x) x) (that-push test units u) ∙ sym (before-push (test x) x (units_that test units) (before_if (test u) u []))

-- one unit more
pub kept-more : (selectors : List Text) (units : List Unit) (i : ℕ) (u : Unit) (all more : List Unit) → i < length units → u ≡ get_or units i u → all ≡ kept selectors (take i units) → more ≡ all ++ before_if (stays selectors u) u [] → more ≡ kept selectors (take (i + 1) units)
kept-more selectors units i u all more low is so_far gained =
    let whole : take i units ++ u ∷ [] ≡ take (i + 1) units = rw (take_more units i u low, ← is) refl in
    gained
    ∙ ap (λ us. us ++ before_if (stays selectors u) u []) so_far
    ∙ sym (that-push (stays selectors) (take i units) u)
    ∙ ap (kept selectors) whole

pub gained-if : (b c : Bool) (u : Unit) (all more : List Unit) → b ≡ true → b ≡ c → more ≡ all ++ u ∷ [] → more ≡ all ++ before_if c u []
gained-if b c u all more yes' same is = is ∙ ap (λ d. all ++ before_if d u []) (sym yes' ∙ same)

pub same-if : (b c : Bool) (u : Unit) (all : List Unit) → b ≡ false → b ≡ c → all ≡ all ++ before_if c u []
same-if b c u all not same = sym (append-nil all) ∙ ap (λ d. all ++ before_if d u []) (sym not ∙ same)

-- ---- least sets keep alike

pub both_ways : (a b : List Text) → ((t : Text) → Has a t → Has b t) → ((t : Text) → Has b t → Has a t) → (t : Text) → has_text a t ≡ has_text b t
both_ways a b f g t = by (has_text a t) refl (has_text b t) refl
  where
    by : (c : Bool) → has_text a t ≡ c → (d : Bool) → has_text b t ≡ d → c ≡ d
    by true e true h = refl
    by false e false h = refl
    by true e false h = sym (f t e) ∙ h
    by false e true h = sym e ∙ g t h

module _ (a b : List Text) (same : (t : Text) → has_text a t ≡ has_text b t) where
  pub kept-same : (u : NamedUnit) → is_kept a u ≡ is_kept b u
  kept-same (MethodUnit class m) = same m.selector
  kept-same (ClassMethodUnit class m) = same m.selector
  kept-same (ClassUnit c) = refl
  kept-same (GlobalUnit name) = refl
  kept-same (PoolVariableUnit pool name) = refl
  kept-same (InitializerUnit target body) = refl
  kept-same (PoolInitializerUnit pool name body) = refl
  kept-same (ProgramUnit body) = refl

  kind-same : (o : Option NamedUnit) → is_kept_kind a o ≡ is_kept_kind b o
  kind-same None = refl
  kind-same (Some u) = kept-same u

  pub same_kept : (units : List Unit) → kept a units ≡ kept b units
  same_kept [] = refl
  same_kept (u ∷ units) = ap (λ c. before_if c u (kept a units)) (kind-same (named_unit u)) ∙ ap (before_if (stays b u) u) (same_kept units)

pub least_alike : (methods : List Method) (first a b : List Text) → IsLeast methods first a → IsLeast methods first b → (units : List Unit) → kept a units ≡ kept b units
least_alike methods first a b g h units = same_kept a b (both_ways a b (g.least b h.has_first h.is_closed) (h.least a g.has_first g.is_closed)) units

-- a least set keeps what Needed keeps
pub kept-shaken : (units : List Unit) (selectors : List Text) → IsLeast (methods_of (named_units units)) (always_needed ++ texts_of (named_units units)) selectors → kept selectors units ≡ shaken units
kept-shaken units selectors h =
    let methods = methods_of (named_units units) in
    let first = always_needed ++ texts_of (named_units units) in
    least_alike methods first selectors _ h (closure_is_least methods first) units
