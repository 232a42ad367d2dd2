use Rattle.std.proofs.Common.{◌≡◌, ◌+◌, drop}
use Rattle.object_heap.specs.Store.{object_at}
use Rattle.st_messages.proofs.Puts.{put}
use Rattle.st_messages.proofs.pieces.put_bytes_of.Given as goal

-- the bytes behind are still to be written, and the other object stays
abbrev pub invariant-loop-place : goal.invariant-loop-place
invariant-loop-place g l = record {
  written : put l.object (l.at + l.place) (drop l.place (object_at l.from (g.H.Heap.meaning l.fn.heap).store).bytes) (g.H.Heap.meaning l.heap) ≡ put l.object l.at (object_at l.from (g.H.Heap.meaning l.fn.heap).store).bytes (g.H.Heap.meaning l.fn.heap);
  stays : object_at l.from (g.H.Heap.meaning l.heap).store ≡ object_at l.from (g.H.Heap.meaning l.fn.heap).store;
  literals : g.H.Heap.literal_room l.heap ≡ g.H.Heap.literal_room l.fn.heap;
}
