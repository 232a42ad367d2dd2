use Rattle.std.proofs.Common.{◌≡◌, ◌+◌, ◌≤◌, drop}
use Rattle.st_rules.specs.State.{count_true}
use Rattle.st_machine.proofs.scopes.count_captured.Given as goal

abbrev pub invariant-loop-is_captured : goal.invariant-loop-is_captured
invariant-loop-is_captured l = record {
  same : l.count + count_true (drop l.is_captured-index l.captured) ≡ count_true l.captured;
  few : l.count ≤ l.is_captured-index;
}
