use Rattle.std.proofs.Common.{◌≡◌, ◌+◌, ◌≤◌, length}
use Rattle.object_heap.specs.Charges.{object_charge}
use Rattle.st_collections.specs.Kinds.{slots_of}
use Rattle.st_loops.proofs.Made.{bytes_filled}
use Rattle.st_loops.proofs.makers.turn_into_string.Given as goal

-- the slots so far stand in the new object
abbrev pub invariant-loop-place : goal.invariant-loop-place
invariant-loop-place g l =
    let m = g.H.Heap.meaning l.fn.heap in
    let items = slots_of m.store l.made in
    record {
      object : l.object ≡ length m.store.objects;
      memory : g.H.Heap.meaning l.heap ≡ bytes_filled m items (length items) l.place;
      paid : m.used + (object_charge 0 (length items)) ≤ m.limit;
      literals : g.H.Heap.literal_room l.heap ≡ g.H.Heap.literal_room l.fn.heap;
    }
