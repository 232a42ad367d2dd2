use Rattle.std.proofs.Common.{◌≡◌, ◌-◌, ◌≤◌, ◌<◌, get_or, length}
use Rattle.std.specs.List.{insert, remove}
use Rattle.object_heap.specs.declared.value.Value.TheVariants.{Nil}
use Rattle.object_heap.specs.Charges.{with_store}
use Rattle.object_heap.specs.Store.{object_at}
use Rattle.st_collections.specs.Ordered.{slots_set}
use Rattle.st_loops.proofs.growth.take_out.Given as goal

-- the gap is as far up
abbrev pub invariant-loop-gap : goal.invariant-loop-gap
invariant-loop-gap g l =
    let m = g.H.Heap.meaning l.fn.heap in
    let slots = (object_at l.object m.store).slots in
    record {
      low : l.place ≤ l.gap;
      high : l.gap < length slots;
      memory : g.H.Heap.meaning l.heap ≡ with_store (slots_set l.object (insert (remove slots l.place) l.gap (get_or slots l.gap Nil)) m.store) m;
      literals : g.H.Heap.literal_room l.heap ≡ g.H.Heap.literal_room l.fn.heap;
    }

abbrev pub decreases-loop-gap : goal.decreases-loop-gap
decreases-loop-gap g l = l.last - l.gap
