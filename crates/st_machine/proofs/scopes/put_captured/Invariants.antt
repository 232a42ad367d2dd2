use Rattle.std.proofs.Common.{◌≡◌, ◌≤◌, drop}
use Rattle.object_heap.specs.Charges.{with_store}
use Rattle.st_machine.specs.Scopes.{captured_put}
use Rattle.st_machine.proofs.scopes.put_captured.Given as goal

abbrev pub invariant-loop-index : goal.invariant-loop-index
invariant-loop-index g l = record {
  same : with_store (captured_put (drop l.index l.captured) (drop l.index l.arguments) l.scope l.place (g.H.Heap.meaning l.heap).store) (g.H.Heap.meaning l.heap) ≡ with_store (captured_put l.captured l.arguments l.scope 0 (g.H.Heap.meaning l.fn.heap).store) (g.H.Heap.meaning l.fn.heap);
  few : l.place ≤ l.index;
}
