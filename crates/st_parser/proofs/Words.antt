-- Words and strings, as the code takes them apart.
use Rattle.std.proofs.Common.{◌≡◌, ℕ, ◌-◌, List, [], ◌∷◌, ◌++◌, Bool, true, false, refl, ap, sym, ◌∙◌, drop, take, length, if◌then◌else◌, codes, drop-cons, ◌≤◌, append-nil}
use Rattle.std.proofs.lemmas.List.{drop_all}
use Rattle.std.specs.Prelude.{◌==◌}
use Rattle.std.specs.Str.{bytes_eq}
use Rattle.st_tree.specs.declared.tree.Literal.{Literal}
use Rattle.st_tree.specs.declared.tree.Literal.TheVariants as literal
use Rattle.st_tree.specs.declared.tree.Primary.{Primary}
use Rattle.st_tree.specs.declared.tree.Primary.TheVariants as primary
use Rattle.st_tree.specs.Symbols.{unquoted, string_value, Role, IsName, IsValue, IsSuper, role, word_item}

pub string_value_is : (t : List ℕ) → string_value t ≡ unquoted false (take (length t - 2) (drop 1 t))
unfolding string_value
string_value_is t = refl

pub word_item_is : (t : List ℕ) → word_item t ≡
    (if bytes_eq t (codes "nil") then literal.Nil
    else (if bytes_eq t (codes "true") then literal.True
    else (if bytes_eq t (codes "false") then literal.False else literal.Symbol t)))
unfolding word_item
word_item_is t = refl

pub role_is : (t : List ℕ) → role t ≡
    (if bytes_eq t (codes "nil") then IsValue (primary.Literal literal.Nil)
    else (if bytes_eq t (codes "true") then IsValue (primary.Literal literal.True)
    else (if bytes_eq t (codes "false") then IsValue (primary.Literal literal.False)
    else (if bytes_eq t (codes "self") then IsValue primary.SelfValue
    else (if bytes_eq t (codes "super") then IsSuper else IsName)))))
unfolding role
role_is t = refl

-- all bytes of a string are kept or skipped
pub string_done : (t items bytes : List ℕ) (skips : Bool) (i : ℕ) → length items ≤ i → bytes ++ unquoted skips (drop i items) ≡ unquoted false items → items ≡ take (length t - 2) (drop 1 t) → bytes ≡ string_value t
unfolding string_value
string_done t items bytes skips i h e f =
    sym (append-nil bytes) ∙ ap (λ x. bytes ++ unquoted skips x) (sym (drop_all i items h)) ∙ e ∙ ap (unquoted false) f
