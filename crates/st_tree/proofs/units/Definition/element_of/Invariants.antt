use Rattle.std.proofs.Common.{◌≡◌, ◌+◌, take}
use Rattle.st_tree.specs.Numbers.{elements_in}
use Rattle.st_tree.proofs.units.Definition.element_of.Given as goal

abbrev pub invariant-loop-before : goal.invariant-loop-before
invariant-loop-before l = l.number ≡ elements_in (take l.before-index l.before-items) + 1
