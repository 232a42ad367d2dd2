-- Texts that are spelled one behind the other.
use Rattle.std.proofs.Common.{◌≡◌, ℕ, suc, ◌+◌, ◌<◌, ◌≤◌, List, [], ◌∷◌, ◌++◌, drop, length, get_or, refl, ap, sym, ◌∙◌, Option, Some, None, OnOk, Result, subst, arith}
use Rattle.std.proofs.Math.Seq.{drop-cons}
use Rattle.std.proofs.lemmas.List.{drop_all}
use Rattle.std.specs.Str.{bytes_eq}
use Rattle.indexmap.specs.IndexSet.{insert_key}
use Rattle.st_code.specs.Texts.{Text}
use Rattle.st_code.specs.Named.{NamedUnit}
use Rattle.st_code.specs.Written.{named_unit, named_units, with_named}
use Rattle.st_tree.specs.declared.units.Unit.{Unit}
use Rattle.program_image.specs.Spelled.{spelled, kind_texts, units_texts}

pub spelled-append : (names xs ys : List Text) → spelled names (xs ++ ys) ≡ spelled (spelled names xs) ys
spelled-append names [] ys = refl
spelled-append names (t ∷ xs) ys = spelled-append (insert_key bytes_eq names t) xs ys

-- a text, and those behind it
pub spelled-one : (old new : List Text) (t u : Text) (xs zs : List Text) → new ≡ insert_key bytes_eq old u → u ≡ t → zs ≡ t ∷ xs → spelled new xs ≡ spelled old zs
spelled-one old new t u xs zs is same all = rw (is, same, all) refl

-- some texts, and those behind them
pub spelled-both : (old new xs ys zs : List Text) → new ≡ spelled old xs → zs ≡ xs ++ ys → spelled new ys ≡ spelled old zs
spelled-both old new xs ys zs is all = rw (is, all) (sym (spelled-append old xs ys))

-- a last call that spells the texts behind those
pub spelled-then : {R E : Type 0} → (r : Result R E) (old new last ys zs : List Text) → OnOk r (last ≡ spelled new ys) → spelled new ys ≡ spelled old zs → OnOk r (last ≡ spelled old zs)
spelled-then r old new last ys zs is all = subst (λ n. OnOk r (last ≡ n)) all is

-- a loop that spells the texts of each item
pub spelled-next : {X : Type 0} → (texts : List X → List Text) (of_one : X → List Text) → ((x : X) (xs : List X) → texts (x ∷ xs) ≡ of_one x ++ texts xs)
    → (now new whole : List Text) (items : List X) (i : ℕ) (x : X) → x ≡ get_or items i x → i < length items
    → spelled now (texts (drop i items)) ≡ whole → new ≡ spelled now (of_one x) → spelled new (texts (drop (i + 1) items)) ≡ whole
spelled-next texts of_one one now new whole items i x there low sofar is =
    let next : suc i ≡ i + 1 = omega arith in
    let ahead : texts (drop i items) ≡ of_one x ++ texts (drop (suc i) items) = ap texts (drop-cons items i x low) ∙ ap (λ y. texts (y ∷ drop (suc i) items)) (sym there) ∙ one x (drop (suc i) items) in
    subst (λ n. spelled new (texts (drop n items)) ≡ whole) next (spelled-both now new (of_one x) (texts (drop (suc i) items)) (texts (drop i items)) is ahead ∙ sofar)

pub spelled-end : {X : Type 0} → (texts : List X → List Text) → texts [] ≡ [] → (now whole : List Text) (items : List X) (i : ℕ) → length items ≤ i → spelled now (texts (drop i items)) ≡ whole → now ≡ whole
spelled-end texts none now whole items i past sofar = sym (ap (λ ts. spelled now ts) (ap texts (drop_all i items past) ∙ none)) ∙ sofar

kind-first : (o : Option NamedUnit) (units : List NamedUnit) → units_texts (with_named o units) ≡ kind_texts o ++ units_texts units
kind-first None units = refl
kind-first (Some u) units = refl

-- what a unit spells, and those behind it
pub unit-texts : (u : Unit) (units : List Unit) → units_texts (named_units (u ∷ units)) ≡ kind_texts (named_unit u) ++ units_texts (named_units units)
unfolding named_units
unit-texts u units = kind-first (named_unit u) (named_units units)
