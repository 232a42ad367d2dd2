use Rattle.std.proofs.Common.{◌≡◌, ◌-◌, IsTrue}
use Rattle.st_literals.specs.Cells.{text_cells}
use Rattle.st_literals.proofs.Filling.{with_text}
use Rattle.st_literals.proofs.make.make_text.Given as goal

abbrev pub invariant-loop-index : goal.invariant-loop-index
invariant-loop-index g l = record {
  written : g.H.Heap.meaning l.heap ≡ with_text l.text l.index (g.H.Heap.meaning l.fn.heap);
  left : IsTrue g.H.Heap.reserved → g.H.Heap.literal_room l.heap ≡ g.H.Heap.literal_room l.fn.heap - text_cells l.text;
}
