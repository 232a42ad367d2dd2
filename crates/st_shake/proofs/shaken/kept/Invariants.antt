use Rattle.std.proofs.Common.{◌≡◌, take}
use Rattle.st_shake.specs.Shaken.{kept}
use Rattle.st_shake.proofs.shaken.kept.Given as goal

abbrev pub invariant-loop-unit : goal.invariant-loop-unit
invariant-loop-unit l = l.all ≡ kept l.selectors (take l.unit-index l.units)
