use Rattle.std.proofs.Common.{◌≡◌, ◌+◌, drop, length}
use Rattle.object_heap.specs.Store.{object_at}
use Rattle.st_code.specs.Texts.{quotes_doubled}
use Rattle.st_messages.proofs.Puts.{put}
use Rattle.st_messages.proofs.pieces.put_doubled_of.Given as goal

-- the bytes behind are still to be written, and the other object stays
abbrev pub invariant-loop-place : goal.invariant-loop-place
invariant-loop-place g l = record {
  written : put l.object l.at (quotes_doubled (drop l.place (object_at l.from (g.H.Heap.meaning l.fn.heap).store).bytes)) (g.H.Heap.meaning l.heap) ≡ put l.object l.fn.at (quotes_doubled (object_at l.from (g.H.Heap.meaning l.fn.heap).store).bytes) (g.H.Heap.meaning l.fn.heap);
  behind : l.at + length (quotes_doubled (drop l.place (object_at l.from (g.H.Heap.meaning l.fn.heap).store).bytes)) ≡ l.fn.at + length (quotes_doubled (object_at l.from (g.H.Heap.meaning l.fn.heap).store).bytes);
  stays : object_at l.from (g.H.Heap.meaning l.heap).store ≡ object_at l.from (g.H.Heap.meaning l.fn.heap).store;
  literals : g.H.Heap.literal_room l.heap ≡ g.H.Heap.literal_room l.fn.heap;
}
