use Rattle.std.proofs.Common.{◌≡◌, ◌≤◌, length, reverse, take}
use Rattle.st_trace.specs.Stacked.{turn_link}
use Rattle.st_trace.proofs.stack.turn_inside.Given as goal

abbrev pub invariant-loop-at : goal.invariant-loop-at
invariant-loop-at l = record {
  within : l.at ≤ length l.items;
  left : turn_link l.number (reverse l.items) ≡ turn_link l.number (reverse (take l.at l.items));
}

abbrev pub decreases-loop-at : goal.decreases-loop-at
decreases-loop-at l = l.at
