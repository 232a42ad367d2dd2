use Rattle.std.proofs.Common.{◌≡◌, ◌+◌, drop, length}
use Rattle.st_code.specs.Texts.{quotes_doubled}
use Rattle.st_messages.proofs.Puts.{put}
use Rattle.st_messages.proofs.pieces.put_doubled.Given as goal

-- the bytes behind are still to be written
abbrev pub invariant-loop-byte : goal.invariant-loop-byte
invariant-loop-byte g l = record {
  written : put l.object l.at (quotes_doubled (drop l.byte-index l.bytes)) (g.H.Heap.meaning l.heap) ≡ put l.object l.fn.at (quotes_doubled l.bytes) (g.H.Heap.meaning l.fn.heap);
  behind : l.at + length (quotes_doubled (drop l.byte-index l.bytes)) ≡ l.fn.at + length (quotes_doubled l.bytes);
  literals : g.H.Heap.literal_room l.heap ≡ g.H.Heap.literal_room l.fn.heap;
}
