use Rattle.std.proofs.Common.{◌≡◌, ◌+◌, ◌-◌, ◌≤◌, length, take}
use Rattle.object_heap.specs.Charges.{object_charge}
use Rattle.st_messages.specs.Pieces.{pieces_text}
use Rattle.st_messages.proofs.NewTexts.{text_so_far}
use Rattle.st_messages.proofs.texts.new_text.Given as goal

-- the pieces so far stand in the new String, and the rest is 0
abbrev pub invariant-loop-piece : goal.invariant-loop-piece
invariant-loop-piece g l =
    let m = g.H.Heap.meaning l.fn.heap in
    let done = pieces_text (g.P.ProgramFacts.meaning l.program) m.store (take l.piece-index l.pieces) in
    record {
      object : l.object ≡ length m.store.objects;
      at : l.at ≡ length done;
      memory : g.H.Heap.meaning l.heap ≡ text_so_far m (object_charge 0 l.count) done (l.count - l.at);
      paid : m.used + object_charge 0 l.count ≤ m.limit;
      literals : g.H.Heap.literal_room l.heap ≡ g.H.Heap.literal_room l.fn.heap;
    }
