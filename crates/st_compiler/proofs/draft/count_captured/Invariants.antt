use Rattle.std.proofs.Common.{◌≡◌, ◌+◌, ◌≤◌, drop}
use Rattle.st_compiler.specs.Befores.{count_captured}
use Rattle.st_compiler.proofs.draft.count_captured.Given as goal

abbrev pub invariant-loop-is_captured : goal.invariant-loop-is_captured
invariant-loop-is_captured l = record {
  counted : l.count + count_captured (drop l.is_captured-index l.captured) ≡ count_captured l.captured;
  most : l.count ≤ l.is_captured-index;
}
