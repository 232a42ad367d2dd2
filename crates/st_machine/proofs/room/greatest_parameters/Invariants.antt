use Rattle.std.proofs.Common.{◌≡◌, drop, map, max}
use Rattle.st_code.specs.Compiled.{seen_code}
use Rattle.st_machine.specs.Plans.{greatest_parameters}
use Rattle.st_machine.proofs.room.greatest_parameters.Given as goal

abbrev pub invariant-loop-code : goal.invariant-loop-code
invariant-loop-code l = max l.most (greatest_parameters (map seen_code (drop l.code-index l.codes))) ≡ greatest_parameters (map seen_code l.codes)
