use Rattle.std.proofs.Common.{◌≡◌, ◌≤◌, drop, map, max}
use Rattle.st_code.specs.Compiled.{seen_code}
use Rattle.st_rules.specs.Flat.{greatest_width}
use Rattle.st_machine.proofs.loaded.greatest_width.Given as goal

abbrev pub invariant-loop-code : goal.invariant-loop-code
invariant-loop-code l = record {
  same : max l.greatest (greatest_width (map seen_code (drop l.code-index l.codes))) ≡ greatest_width (map seen_code l.codes);
  least : 8 ≤ l.greatest;
}
