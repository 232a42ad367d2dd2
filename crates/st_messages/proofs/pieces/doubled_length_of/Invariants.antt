use Rattle.std.proofs.Common.{◌≡◌, ◌+◌, ◌≤◌, drop, length}
use Rattle.object_heap.specs.Store.{object_at}
use Rattle.st_code.specs.Texts.{quotes_doubled}
use Rattle.st_messages.proofs.pieces.doubled_length_of.Given as goal

-- those behind are still to be counted
abbrev pub invariant-loop-place : goal.invariant-loop-place
invariant-loop-place g l =
    let bytes = (object_at l.object (g.H.Heap.meaning l.heap).store).bytes in
    record {
      counted : l.quotes + (l.place + length (quotes_doubled (drop l.place bytes))) ≡ length (quotes_doubled bytes);
      few : l.quotes ≤ l.place;
    }
