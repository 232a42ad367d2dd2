-- Names that are repeated in a list, and what the list has seen.
use Rattle.std.proofs.Common.{◌≡◌, ℕ, Bool, true, false, cond, ◌||◌, List, [], ◌∷◌, ◌++◌, refl, ap, sym, ◌∙◌}
use Rattle.std.specs.List.{list_any}
use Rattle.std.specs.Str.{bytes_eq}
use Rattle.std.proofs.lemmas.List.Folds.{list_any-append}
use Rattle.std.proofs.lemmas.Slice.Eq.{bytes_eq-Decides}
use Rattle.st_tree.specs.declared.tree.Name.{Name}
use Rattle.st_checks.specs.Declarations.{Text}
use Rattle.st_checks.specs.Meanings.{declares}
use Rattle.st_checks.specs.StaticRules.{repeated_from}

-- the texts that a list has seen behind these names
abbrev pub seen_after : List Text → List Name → List Text
seen_after seen [] = seen
seen_after seen (n ∷ names) = seen_after (n.text ∷ seen) names

pub if-append : (b : Bool) (x : ℕ) (xs ys zs : List ℕ) → zs ≡ xs ++ ys → cond b (x ∷ zs) zs ≡ cond b (x ∷ xs) xs ++ ys
if-append true x xs ys zs e = ap (λ (l : List ℕ). x ∷ l) e
if-append false x xs ys zs e = e

pub repeated_from-append : (seen : List Text) (a b : List Name) → repeated_from seen (a ++ b) ≡ repeated_from seen a ++ repeated_from (seen_after seen a) b
repeated_from-append seen [] b = refl
repeated_from-append seen (n ∷ a) b = if-append (list_any (bytes_eq n.text) seen) n.at (repeated_from (n.text ∷ seen) a) (repeated_from (seen_after (n.text ∷ seen) a) b) (repeated_from (n.text ∷ seen) (a ++ b)) (repeated_from-append (n.text ∷ seen) a b)

pub or-false : (b : Bool) → (b || false) ≡ b
or-false true = refl
or-false false = refl

or-turn : (a b c : Bool) → ((a || b) || c) ≡ (b || (a || c))
or-turn true true c = refl
or-turn true false c = refl
or-turn false true c = refl
or-turn false false c = refl

pub seen_after-any : (t : Text) (seen : List Text) (names : List Name) → list_any (bytes_eq t) (seen_after seen names) ≡ (list_any (bytes_eq t) seen || declares t names)
seen_after-any t seen [] = sym (or-false (list_any (bytes_eq t) seen))
seen_after-any t seen (n ∷ names) = seen_after-any t (n.text ∷ seen) names ∙ or-turn (bytes_eq t n.text) (list_any (bytes_eq t) seen) (declares t names)

pub declares-push : (t : Text) (names : List Name) (n : Name) → declares t (names ++ n ∷ []) ≡ (declares t names || bytes_eq t n.text)
declares-push t names n = list_any-append (λ (n : Name). bytes_eq t n.text) names (n ∷ []) ∙ ap (λ (b : Bool). declares t names || b) (or-false (bytes_eq t n.text))

pub any-push : (t : Text) (texts : List Text) (u : Text) → list_any (bytes_eq t) (texts ++ u ∷ []) ≡ (list_any (bytes_eq t) texts || bytes_eq t u)
any-push t texts u = list_any-append (bytes_eq t) texts (u ∷ []) ∙ ap (λ (b : Bool). list_any (bytes_eq t) texts || b) (or-false (bytes_eq t u))

pub bytes_eq-is : (a b : Text) → bytes_eq a b ≡ true → a ≡ b
bytes_eq-is a b h = (bytes_eq-Decides a b).0 h
