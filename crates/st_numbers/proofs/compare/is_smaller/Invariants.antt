use Rattle.std.proofs.Common.{◌≡◌, ◌+◌, ◌*◌, ◌<◌, nat_lt}
use Rattle.st_numbers.proofs.compare.is_smaller.Given as goal

abbrev pub invariant-loop-left : goal.invariant-loop-left
invariant-loop-left l = record {
  left : 0 < l.left.1;
  right : 0 < l.right.1;
  same : nat_lt (l.left.0 * l.right.1) (l.right.0 * l.left.1) ≡ nat_lt (l.fn.a * l.fn.d) (l.fn.c * l.fn.b);
}

abbrev pub decreases-loop-left : goal.decreases-loop-left
decreases-loop-left l = l.left.1 + l.right.1
