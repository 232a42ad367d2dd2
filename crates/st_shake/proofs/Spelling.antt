-- Texts that are spelled one behind the other: what is there before stays, each is there then, and nothing else.
use Rattle.std.proofs.Common.{◌≡◌, ◌⊎◌, inl, inr, List, [], ◌∷◌, ◌++◌, cond, Bool, true, false, refl, sym, ap, ◌∙◌, subst, append_assoc, append-nil, Option, Some, None}
use Rattle.std.specs.List.{list_any}
use Rattle.std.specs.Str.{bytes_eq}
use Rattle.indexmap.specs.IndexSet.{insert_key}
use Rattle.st_tree.specs.declared.units.Unit.{Unit}
use Rattle.st_code.specs.Texts.{Text}
use Rattle.st_code.specs.Named.{NamedUnit, ClassUnit, GlobalUnit, PoolVariableUnit, InitializerUnit, PoolInitializerUnit, ProgramUnit, MethodUnit, ClassMethodUnit}
use Rattle.st_code.specs.Resolved.{has_text}
use Rattle.st_code.specs.Written.{named_unit, named_units, with_named}
use Rattle.program_image.specs.Spelled.{spelled}
use Rattle.st_shake.specs.Needed.{Method, Has, kind_method, methods_of, first_kind, texts_of}
use Rattle.st_shake.proofs.Texts.{has_before, has_behind, has_either, has_itself, list_any-has, one_text}

-- ---- one text

keeps : (b : Bool) (names : List Text) (t u : Text) → Has names u → Has (cond b names (names ++ t ∷ [])) u
keeps true names t u h = h
keeps false names t u h = has_before names (t ∷ []) u h

gains : (b : Bool) (names : List Text) (t : Text) → has_text names t ≡ b → Has (cond b names (names ++ t ∷ [])) t
gains true names t e = e
gains false names t e = has_behind names (t ∷ []) t (has_itself t [])

from : (b : Bool) (names : List Text) (t u : Text) → Has (cond b names (names ++ t ∷ [])) u → Has names u ⊎ Has (t ∷ []) u
from true names t u h = inl h
from false names t u h = has_either names (t ∷ []) u h

-- ---- several

pub all_kept : (names texts : List Text) (u : Text) → Has names u → Has (spelled names texts) u
all_kept names [] u h = h
all_kept names (t ∷ texts) u h = all_kept (insert_key bytes_eq names t) texts u (keeps (list_any (bytes_eq t) names) names t u h)

pub all_there : (names texts : List Text) (u : Text) → Has texts u → Has (spelled names texts) u
all_there names [] u h = cc
all_there names (t ∷ texts) u h = by (has_either (t ∷ []) texts u h) (λ g. all_there (insert_key bytes_eq names t) texts u g)
  where
    by : Has (t ∷ []) u ⊎ Has texts u → (Has texts u → Has (spelled (insert_key bytes_eq names t) texts) u) → Has (spelled (insert_key bytes_eq names t) texts) u
    by (inl k) later = all_kept (insert_key bytes_eq names t) texts u (subst (λ v. Has (insert_key bytes_eq names t) v) (one_text t u k) (gains (list_any (bytes_eq t) names) names t (sym (list_any-has names t))))
    by (inr k) later = later k

pub none_else : (names texts : List Text) (u : Text) → Has (spelled names texts) u → Has names u ⊎ Has texts u
none_else names [] u h = inl h
none_else names (t ∷ texts) u h = by (none_else (insert_key bytes_eq names t) texts u h)
  where
    first : Has names u ⊎ Has (t ∷ []) u → Has names u ⊎ Has (t ∷ texts) u
    first (inl k) = inl k
    first (inr k) = inr (has_before (t ∷ []) texts u k)

    by : Has (insert_key bytes_eq names t) u ⊎ Has texts u → Has names u ⊎ Has (t ∷ texts) u
    by (inl k) = first (from (list_any (bytes_eq t) names) names t u k)
    by (inr k) = inr (has_behind (t ∷ []) texts u k)

-- names are only added
pub record Extends (names more : List Text) : Type 0 where
  pub extra : List Text
  pub is : more ≡ names ++ extra

pub spelled_extends : (names texts : List Text) → Extends names (spelled names texts)
spelled_extends names [] = record { extra = []; is = sym (append-nil names) }
spelled_extends names (t ∷ texts) = by (list_any (bytes_eq t) names) (λ ns. spelled_extends ns texts)
  where
    by : (b : Bool) → ((ns : List Text) → Extends ns (spelled ns texts)) → Extends names (spelled (cond b names (names ++ t ∷ [])) texts)
    by true later = later names
    by false later = let e = later (names ++ t ∷ []) in record { extra = t ∷ e.extra; is = e.is ∙ append_assoc names (t ∷ []) e.extra }

-- ---- what units add

abbrev pub listed : Option Method → List Method
listed None = []
listed (Some m) = m ∷ []

kind-methods : (o : Option NamedUnit) (units : List NamedUnit) → methods_of (with_named o units) ≡ listed (kind_method o) ++ methods_of units
kind-methods None units = refl
kind-methods (Some (MethodUnit class m)) units = refl
kind-methods (Some (ClassMethodUnit class m)) units = refl
kind-methods (Some (ClassUnit c)) units = refl
kind-methods (Some (GlobalUnit name)) units = refl
kind-methods (Some (PoolVariableUnit pool name)) units = refl
kind-methods (Some (InitializerUnit target b)) units = refl
kind-methods (Some (PoolInitializerUnit pool name b)) units = refl
kind-methods (Some (ProgramUnit b)) units = refl

unit-methods : (u : Unit) (units : List Unit) → methods_of (named_units (u ∷ units)) ≡ listed (kind_method (named_unit u)) ++ methods_of (named_units units)
unfolding named_units
unit-methods u units = kind-methods (named_unit u) (named_units units)

pub push-methods : (units : List Unit) (u : Unit) → methods_of (named_units (units ++ u ∷ [])) ≡ methods_of (named_units units) ++ listed (kind_method (named_unit u))
unfolding named_units
push-methods [] u = unit-methods u [] ∙ append-nil (listed (kind_method (named_unit u)))
push-methods (x ∷ units) u =
    unit-methods x (units ++ u ∷ [])
    ∙ ap (λ ms. listed (kind_method (named_unit x)) ++ ms) (push-methods units u)
    ∙ sym (append_assoc (listed (kind_method (named_unit x))) (methods_of (named_units units)) (listed (kind_method (named_unit u))))
    ∙ ap (λ ms. ms ++ listed (kind_method (named_unit u))) (sym (unit-methods x units))

kind-first : (o : Option NamedUnit) (units : List NamedUnit) → texts_of (with_named o units) ≡ first_kind o ++ texts_of units
kind-first None units = refl
kind-first (Some u) units = refl

pub unit-first : (u : Unit) (units : List Unit) → texts_of (named_units (u ∷ units)) ≡ first_kind (named_unit u) ++ texts_of (named_units units)
unfolding named_units
unit-first u units = kind-first (named_unit u) (named_units units)
