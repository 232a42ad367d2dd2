use Rattle.std.proofs.Common.{◌≡◌, ◌+◌, drop}
use Rattle.st_messages.proofs.Puts.{put}
use Rattle.st_messages.proofs.pieces.put_bytes.Given as goal

-- the bytes behind are still to be written
abbrev pub invariant-loop-place : goal.invariant-loop-place
invariant-loop-place g l = record {
  written : put l.object (l.at + l.place) (drop l.place l.bytes) (g.H.Heap.meaning l.heap) ≡ put l.object l.at l.bytes (g.H.Heap.meaning l.fn.heap);
  literals : g.H.Heap.literal_room l.heap ≡ g.H.Heap.literal_room l.fn.heap;
}
