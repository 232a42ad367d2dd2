use Rattle.std.proofs.Common.{◌≡◌, drop, map}
use Rattle.st_checks.specs.Declarations.{way}
use Rattle.st_checks.proofs.line.way.Given as goal

abbrev pub invariant-loop-class : goal.invariant-loop-class
invariant-loop-class l = way (map (λ c. c.now) l.line) ≡ way (map (λ c. c.now) (drop l.class-index l.line))
