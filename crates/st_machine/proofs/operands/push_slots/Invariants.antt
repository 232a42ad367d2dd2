use Rattle.std.proofs.Common.{◌≡◌, ◌++◌, ◌+◌, ◌≤◌, length, take, vec_capacity}
use Rattle.object_heap.specs.Store.{object_at}
use Rattle.st_machine.proofs.operands.push_slots.Given as goal

abbrev pub invariant-loop-slot : goal.invariant-loop-slot
invariant-loop-slot g l = record {
  items : l.values.items ≡ l.fn.values.items ++ take l.slot (object_at l.object (g.H.Heap.meaning l.heap).store).slots;
  counted : length l.values.items ≡ length l.fn.values.items + l.slot;
  grows : vec_capacity l.fn.values ≤ vec_capacity l.values;
}
