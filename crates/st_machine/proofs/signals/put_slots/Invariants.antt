use Rattle.std.proofs.Common.{◌≡◌, ◌-◌, drop}
use Rattle.object_heap.specs.Charges.{with_store}
use Rattle.st_machine.specs.Signals.{slots_put}
use Rattle.st_machine.proofs.signals.put_slots.Given as goal

abbrev pub invariant-loop-slot : goal.invariant-loop-slot
invariant-loop-slot g l = with_store (slots_put (l.count - l.slot) (drop l.slot l.values) l.object l.slot (g.H.Heap.meaning l.heap).store) (g.H.Heap.meaning l.heap) ≡ with_store (slots_put l.count l.values l.object 0 (g.H.Heap.meaning l.fn.heap).store) (g.H.Heap.meaning l.fn.heap)
