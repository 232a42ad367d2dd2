-- The cells of literals bound how many objects they are.
use Rattle.std.proofs.Common.{◌≡◌, ℕ, suc, ◌+◌, ◌<◌, ◌≤◌, List, [], ◌∷◌, map, drop, length, get_or, refl, ap, sym, ◌∙◌, arith, length-append}
use Rattle.std.proofs.Math.Seq.{drop-cons}
use Rattle.std.proofs.lemmas.List.{drop_all, length-map, get_or-map}
use Rattle.object_heap.specs.Store.{Object}
use Rattle.st_tree.specs.declared.tree.Literal.{Literal as Tree}
use Rattle.st_tree.specs.declared.tree.Literal.TheVariants as literal
use Rattle.st_code.proofs.Written.{literal-array, literal-string}
use Rattle.object_heap.specs.Charges.{object_charge}
use Rattle.st_code.specs.Texts.{Text}
use Rattle.st_code.specs.Named.{Literal, NilLiteral, TrueLiteral, FalseLiteral, IntegerLiteral, CharacterLiteral, StringLiteral, SymbolLiteral, ArrayLiteral, Literals, no_literals, more_literals}
use Rattle.st_code.specs.Resolved.{literal_made, literals_made}
use Rattle.st_code.specs.Written.{named_literal, literal_row}
use Rattle.st_literals.specs.Cells.{text_cells, count_in, literal_cells, row_cells}

pub row-count : (ls : List Literal) → count_in (literal_row ls) ≡ length ls
row-count [] = refl
row-count (l ∷ ls) = ap suc (row-count ls)

-- each object takes a cell at least
mutual
  pub few-objects : (names : List Text) (n : ℕ) (l : Literal) → length (literal_made names n l).objects ≤ literal_cells l
  few-objects names n NilLiteral = omega arith
  few-objects names n TrueLiteral = omega arith
  few-objects names n FalseLiteral = omega arith
  few-objects names n (IntegerLiteral i) = omega arith
  few-objects names n (CharacterLiteral byte) = omega arith
  few-objects names n (StringLiteral t) = omega arith
  few-objects names n (SymbolLiteral t) = omega arith
  few-objects names n (ArrayLiteral row) = omega (arith, few-row names (suc n) row)

  few-row : (names : List Text) (n : ℕ) (row : Literals) → length (literals_made names n row).objects ≤ row_cells row
  few-row names n no_literals = omega arith
  few-row names n (more_literals l row) =
      let here : List Object = (literal_made names n l).objects in
      let rest : List Object = (literals_made names (n + length here) row).objects in
      omega (arith, length-append here rest, few-objects names n l, few-row names (n + length here) row)

pub item-count : (names : List Text) (n : ℕ) (row : Literals) → length (literals_made names n row).item ≡ count_in row
item-count names n no_literals = refl
item-count names n (more_literals l row) = ap suc (item-count names (n + length (literal_made names n l).objects) row)

-- ---- cells are added in loops

pub drop-next : {X : Type 0} (xs : List X) (i : ℕ) (x : X) → x ≡ get_or xs i x → i < length xs → drop i xs ≡ x ∷ drop (i + 1) xs
drop-next xs i x there low =
    let next : suc i ≡ i + 1 = omega arith in
    drop-cons xs i x low ∙ ap (λ y. y ∷ drop (suc i) xs) (sym there) ∙ ap (λ j. x ∷ drop j xs) next

pub cells-next : {X : Type 0} (cells : List X → ℕ) (of_one : X → ℕ) → ((x : X) (xs : List X) → cells (x ∷ xs) ≡ of_one x + cells xs)
    → (xs : List X) (i : ℕ) (x : X) (count more whole : ℕ) → x ≡ get_or xs i x → i < length xs → more ≡ count + of_one x → count + cells (drop i xs) ≡ whole → more + cells (drop (i + 1) xs) ≡ whole
cells-next cells of_one one xs i x count more whole there low added sofar =
    let here : cells (drop i xs) ≡ of_one x + cells (drop (i + 1) xs) = ap cells (drop-next xs i x there low) ∙ one x (drop (i + 1) xs) in
    omega (arith, here, added, sofar)

pub cells-end : {X : Type 0} (cells : List X → ℕ) → cells [] ≡ 0 → (xs : List X) (i count whole : ℕ) → length xs ≤ i → count + cells (drop i xs) ≡ whole → count ≡ whole
cells-end cells none xs i count whole past sofar =
    let here : cells (drop i xs) ≡ 0 = ap cells (drop_all i xs past) ∙ none in
    omega (arith, here, sofar)

pub array-cells : (items : List Tree) → object_charge (length items) 0 + row_cells (literal_row (map named_literal items)) ≡ literal_cells (named_literal (literal.Array items))
array-cells items =
    ap (λ k. object_charge k 0 + row_cells (literal_row (map named_literal items))) (sym (row-count (map named_literal items) ∙ length-map items named_literal))
    ∙ ap literal_cells (sym (literal-array items))

pub mapped-next : {X Y : Type 0} (f : X → Y) (xs : List X) (i : ℕ) (x : X) → x ≡ get_or xs i x → i < length xs → drop i (map f xs) ≡ f x ∷ drop (i + 1) (map f xs)
mapped-next f xs i x there low =
    let here : f x ≡ get_or (map f xs) i (f x) = ap f there ∙ sym (get_or-map f xs i x (f x) low) in
    let within : i < length (map f xs) = omega (arith, low, length-map xs f) in
    drop-next (map f xs) i (f x) here within

pub array-is : (l : Tree) (items : List Tree) → l ≡ literal.Array items → literal_cells (named_literal l) ≡ object_charge (length items) 0 + row_cells (literal_row (map named_literal items))
array-is l items is = ap (λ (x : Tree). literal_cells (named_literal x)) is ∙ sym (array-cells items)

pub string-cells : (l : Tree) (t u : Text) → l ≡ literal.Str t → u ≡ t → literal_cells (named_literal l) ≡ text_cells u
string-cells l t u is same = ap (λ (x : Tree). literal_cells (named_literal x)) is ∙ ap literal_cells (literal-string t) ∙ ap text_cells (sym same)

pub array-named : (l : Tree) (items xs : List Tree) → l ≡ literal.Array items → xs ≡ items → named_literal l ≡ ArrayLiteral (literal_row (map named_literal xs))
array-named l items xs is same = ap named_literal is ∙ literal-array items ∙ ap (λ (ys : List Tree). ArrayLiteral (literal_row (map named_literal ys))) (sym same)
