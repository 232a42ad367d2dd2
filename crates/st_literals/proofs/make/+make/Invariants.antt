use Rattle.std.proofs.Common.{◌≡◌, map}
use Rattle.st_code.specs.Written.{named_literal}
use Rattle.st_literals.specs.Cells.{literal_cells}
use Rattle.st_literals.proofs.Filling.{Filling}
use Rattle.st_literals.proofs.make.+make.Given as goal

abbrev pub decreases-make : goal.decreases-make
decreases-make g l = literal_cells (named_literal l.literal.now)

abbrev pub invariant-loop-item : goal.invariant-loop-item
invariant-loop-item g l = record {
  filled : Filling l.names (g.H.Heap.meaning l.fn.heap) (map named_literal l.item-items) l.item-index (g.H.Heap.meaning l.heap) g.H.Heap.reserved (g.H.Heap.literal_room l.fn.heap) (g.H.Heap.literal_room l.heap);
  place : l.slot ≡ l.item-index;
}
