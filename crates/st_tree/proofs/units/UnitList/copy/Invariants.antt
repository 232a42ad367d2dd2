use Rattle.std.proofs.Common.{◌≡◌, take}
use Rattle.st_tree.proofs.units.UnitList.copy.Given as goal

abbrev pub invariant-loop-unit : goal.invariant-loop-unit
invariant-loop-unit l = l.all ≡ take l.unit-index l.unit-items
