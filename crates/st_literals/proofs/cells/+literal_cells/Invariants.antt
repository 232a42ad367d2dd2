use Rattle.std.proofs.Common.{◌≡◌, ◌+◌, drop, map, length}
use Rattle.object_heap.specs.Charges.{object_charge}
use Rattle.st_code.specs.Written.{named_literal, literal_row}
use Rattle.st_literals.specs.Cells.{row_cells}
use Rattle.st_literals.proofs.cells.+literal_cells.Given as goal

abbrev pub invariant-loop-item : goal.invariant-loop-item
invariant-loop-item l = l.count + row_cells (literal_row (map named_literal (drop l.item-index l.item-items))) ≡ object_charge (length l.item-items) 0 + row_cells (literal_row (map named_literal l.item-items))
