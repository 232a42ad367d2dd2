use Rattle.std.proofs.Common.{◌≡◌, max, drop}
use Rattle.st_code.specs.Compiled.{most_standing}
use Rattle.st_compiler.proofs.placing.most_standing.Given as goal

abbrev pub invariant-loop-instruction : goal.invariant-loop-instruction
invariant-loop-instruction l = max l.most (most_standing (drop l.instruction-index l.instructions) l.standing) ≡ most_standing l.instructions 0
