use Rattle.std.proofs.Common.{◌≡◌, ◌+◌, ◌≤◌, length}
use Rattle.st_collections.proofs.Objects.{slots_filled}
use Rattle.st_collections.proofs.makers.new_values.Given as goal

-- the values so far stand in the new object, and the rest is nil
abbrev pub invariant-loop-place : goal.invariant-loop-place
invariant-loop-place g l = record {
  object : l.object ≡ length (g.H.Heap.meaning l.fn.heap).store.objects;
  memory : g.H.Heap.meaning l.heap ≡ slots_filled (g.H.Heap.meaning l.fn.heap) l.class l.values (length l.values) l.place;
  paid : (g.H.Heap.meaning l.fn.heap).used + (1 + length l.values) ≤ (g.H.Heap.meaning l.fn.heap).limit;
  literals : g.H.Heap.literal_room l.heap ≡ g.H.Heap.literal_room l.fn.heap;
}
