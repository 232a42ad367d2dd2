use Rattle.std.proofs.Common.{◌≡◌, ◌+◌, ◌≤◌, length, reverse, vec_capacity}
use Rattle.st_machine.specs.Operands.{taken}
use Rattle.st_machine.proofs.operands.pop_into.Given as goal

abbrev pub invariant-loop-left : goal.invariant-loop-left
invariant-loop-left l = record {
  same : taken l.left l.contexts (reverse l.values.items) ≡ taken l.count l.fn.contexts (reverse l.fn.values.items);
  room : length l.values.items + l.left ≤ vec_capacity l.values;
  counted : length l.values.items + l.left ≡ length l.fn.values.items + l.count;
  grows : vec_capacity l.fn.values ≤ vec_capacity l.values;
}

abbrev pub decreases-loop-left : goal.decreases-loop-left
decreases-loop-left l = l.left
