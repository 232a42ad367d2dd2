use Rattle.std.proofs.Common.{◌+◌, List, map, length, refl, ap, sym, ◌∙◌}
use Rattle.object_heap.specs.Charges.{object_charge}
use Rattle.st_tree.specs.declared.tree.Literal.{Literal}
use Rattle.st_code.specs.Written.{named_literal, literal_row}
use Rattle.st_code.proofs.Written.{literal-nil, literal-true, literal-false, literal-integer, literal-character, literal-string, literal-symbol}
use Rattle.st_literals.specs.Cells.{literal_cells, row_cells}
use Rattle.st_literals.proofs.Counted.{cells-end, array-cells}
use Rattle.st_literals.proofs.cells.+literal_cells.Goals as goal

pub returns-in-Nil : goal.returns-in-Nil
returns-in-Nil t c = rw (c.in-Nil.is, literal-nil) refl

pub returns-in-True : goal.returns-in-True
returns-in-True t c = rw (c.in-True.is, literal-true) refl

pub returns-in-False : goal.returns-in-False
returns-in-False t c = rw (c.in-False.is, literal-false) refl

pub returns-in-Integer : goal.returns-in-Integer
returns-in-Integer t c = rw (c.in-Integer.is, literal-integer c.in-Integer.field-0) refl

pub returns-in-Character : goal.returns-in-Character
returns-in-Character t c = rw (c.in-Character.is, literal-character c.in-Character.field-0) refl

pub returns-in-Symbol : goal.returns-in-Symbol
returns-in-Symbol t c = rw (c.in-Symbol.is, literal-symbol c.in-Symbol.field-0) refl

pub returns-in-Str : goal.returns-in-Str
returns-in-Str t c = rw (c.in-Str.is, literal-string c.in-Str.text, ← c.as_bytes.ensures) c.text_cells.ensures

pub returns-after-loop-item : goal.returns-after-loop-item
returns-after-loop-item t c =
    cells-end (λ (xs : List Literal). row_cells (literal_row (map named_literal xs))) refl c.as_slice-item-items.result.now c.loop-item.item-index c.loop-item.count (object_charge (length c.as_slice-item-items.result.now) 0 + row_cells (literal_row (map named_literal c.as_slice-item-items.result.now))) c.loop-item-test.false c.loop-item.invariant
    ∙ ap (λ (xs : List Literal). object_charge (length xs) 0 + row_cells (literal_row (map named_literal xs))) c.as_slice-item-items.ensures
    ∙ array-cells c.in-Array.items
    ∙ ap (λ (l : Literal). literal_cells (named_literal l)) (sym c.in-Array.is)
