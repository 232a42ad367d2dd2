use Rattle.std.proofs.Common.{◌≡◌, ◌+◌, drop, take}
use Rattle.object_heap.specs.Store.{object_at}
use Rattle.st_messages.proofs.SlotPuts.{put}
use Rattle.st_messages.proofs.slots.put_slots_of.Given as goal

-- the values behind are still to be written, and the other object stays
abbrev pub invariant-loop-place : goal.invariant-loop-place
invariant-loop-place g l =
    let slots = take l.count (object_at l.from (g.H.Heap.meaning l.fn.heap).store).slots in
    record {
      written : put l.object (l.at + l.place) (drop l.place slots) (g.H.Heap.meaning l.heap) ≡ put l.object l.at slots (g.H.Heap.meaning l.fn.heap);
      stays : object_at l.from (g.H.Heap.meaning l.heap).store ≡ object_at l.from (g.H.Heap.meaning l.fn.heap).store;
      literals : g.H.Heap.literal_room l.heap ≡ g.H.Heap.literal_room l.fn.heap;
    }
