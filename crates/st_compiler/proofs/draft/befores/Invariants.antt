use Rattle.std.proofs.Common.{◌≡◌, ◌≤◌, ◌++◌, drop}
use Rattle.st_compiler.specs.Befores.{befores}
use Rattle.st_compiler.proofs.draft.befores.Given as goal

abbrev pub invariant-loop-is_captured : goal.invariant-loop-is_captured
invariant-loop-is_captured l = record {
  counted : l.before ++ befores l.count (drop l.is_captured-index l.captured) ≡ befores 0 l.captured;
  most : l.count ≤ l.is_captured-index;
}
