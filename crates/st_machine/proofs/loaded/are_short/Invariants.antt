use Rattle.std.proofs.Common.{◌≡◌, drop, map}
use Rattle.st_code.specs.Compiled.{seen_code}
use Rattle.st_machine.specs.Plans.{are_short}
use Rattle.st_machine.proofs.loaded.are_short.Given as goal

abbrev pub invariant-loop-code : goal.invariant-loop-code
invariant-loop-code l = are_short (map seen_code (drop l.code-index l.codes)) ≡ are_short (map seen_code l.codes)
