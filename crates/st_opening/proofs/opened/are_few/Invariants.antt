use Rattle.std.proofs.Common.{◌≡◌, drop, map}
use Rattle.st_code.specs.Compiled.{seen_code}
use Rattle.st_opening.specs.Opened.{are_few}
use Rattle.st_opening.proofs.opened.are_few.Given as goal

abbrev pub invariant-loop-code : goal.invariant-loop-code
invariant-loop-code l = are_few (map seen_code (drop l.code-index l.codes)) ≡ are_few (map seen_code l.codes)
