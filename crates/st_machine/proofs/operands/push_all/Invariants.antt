use Rattle.std.proofs.Common.{◌≡◌, ◌++◌, ◌+◌, ◌≤◌, length, take, vec_capacity}
use Rattle.st_machine.proofs.operands.push_all.Given as goal

abbrev pub invariant-loop-value : goal.invariant-loop-value
invariant-loop-value l = record {
  items : l.values.items ≡ l.fn.values.items ++ take l.value-index l.more;
  counted : length l.values.items ≡ length l.fn.values.items + l.value-index;
  grows : vec_capacity l.fn.values ≤ vec_capacity l.values;
}
