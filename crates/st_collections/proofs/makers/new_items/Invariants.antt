use Rattle.std.proofs.Common.{◌≡◌, ◌+◌, ◌≤◌, length}
use Rattle.st_collections.specs.Answers.{program_of}
use Rattle.st_collections.specs.Items.{sequence_charge}
use Rattle.st_collections.proofs.Objects.{filled}
use Rattle.st_collections.proofs.makers.new_items.Given as goal

-- the items so far stand in the new object, and the rest is nil
abbrev pub invariant-loop-place : goal.invariant-loop-place
invariant-loop-place g l = record {
  object : l.object ≡ length (g.H.Heap.meaning l.fn.heap).store.objects;
  memory : g.H.Heap.meaning l.heap ≡ filled (program_of l.names) (g.H.Heap.meaning l.fn.heap) l.class l.items l.count l.place;
  paid : (g.H.Heap.meaning l.fn.heap).used + sequence_charge l.class l.count ≤ (g.H.Heap.meaning l.fn.heap).limit;
  literals : g.H.Heap.literal_room l.heap ≡ g.H.Heap.literal_room l.fn.heap;
}
