use Rattle.std.proofs.Common.{◌≡◌, drop, map}
use Rattle.st_checks.specs.Meanings.{in_classes}
use Rattle.st_checks.proofs.view.in_classes.Given as goal

abbrev pub invariant-loop-class : goal.invariant-loop-class
invariant-loop-class l = in_classes l.table (map (λ c. c.now) l.line) l.name ≡ in_classes l.table (map (λ c. c.now) (drop l.class-index l.line)) l.name
