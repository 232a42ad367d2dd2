use Rattle.std.proofs.Common.{◌≡◌, take}
use Rattle.st_tree.specs.Numbers.{elements_in}
use Rattle.st_tree.proofs.units.Definition.elements.Given as goal

abbrev pub invariant-loop-unit : goal.invariant-loop-unit
invariant-loop-unit l = l.number ≡ elements_in (take l.unit-index l.unit-items)
