use Rattle.std.proofs.Common.{◌≡◌, ◌++◌, drop}
use Rattle.st_code.specs.Written.{named_units}
use Rattle.st_literals.specs.Gathered.{units_literals, seen_literals}
use Rattle.st_literals.proofs.gather.literals_of.Given as goal

abbrev pub invariant-loop-unit : goal.invariant-loop-unit
invariant-loop-unit l = seen_literals l.all ++ units_literals (named_units (drop l.unit-index l.units)) ≡ units_literals (named_units l.units)
