use Rattle.std.proofs.Common.{◌≡◌, drop, map}
use Rattle.st_checks.specs.Meanings.{in_instances}
use Rattle.st_checks.proofs.view.any_has_own.Given as goal

abbrev pub invariant-loop-class : goal.invariant-loop-class
invariant-loop-class l = in_instances l.side (map (λ c. c.now) l.line) l.name ≡ in_instances l.side (map (λ c. c.now) (drop l.class-index l.line)) l.name
