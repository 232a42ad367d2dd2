use Rattle.std.proofs.Common.{◌≡◌}
use Rattle.object_heap.specs.Charges.{with_store}
use Rattle.st_collections.specs.Answers.{program_of}
use Rattle.st_collections.specs.Ordered.{slots_set}
use Rattle.st_collections.proofs.Appends.{appended}
use Rattle.st_collections.proofs.ordered.append_elements.Given as goal

-- the elements so far stand behind the slots, and the rest is nil
abbrev pub invariant-loop-place : goal.invariant-loop-place
invariant-loop-place g l =
    let m = g.H.Heap.meaning l.fn.heap in
    record {
      memory : g.H.Heap.meaning l.heap ≡ with_store (slots_set l.object (appended (program_of l.names) m.store l.object l.collection l.count l.place) m.store) m;
      literals : g.H.Heap.literal_room l.heap ≡ g.H.Heap.literal_room l.fn.heap;
    }
