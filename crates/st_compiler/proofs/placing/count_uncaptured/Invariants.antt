use Rattle.std.proofs.Common.{◌≡◌, ◌+◌, ◌≤◌, drop}
use Rattle.st_code.specs.Compiled.{count_uncaptured}
use Rattle.st_compiler.proofs.placing.count_uncaptured.Given as goal

abbrev pub invariant-loop-is_captured : goal.invariant-loop-is_captured
invariant-loop-is_captured l = record {
  counted : l.count + count_uncaptured (drop l.is_captured-index l.captured) ≡ count_uncaptured l.captured;
  most : l.count ≤ l.is_captured-index;
}
