use Rattle.std.proofs.Common.{◌≡◌, take}
use Rattle.st_tree.proofs.copy_units.copy_annotations.Given as goal

abbrev pub invariant-loop-annotation : goal.invariant-loop-annotation
invariant-loop-annotation l = l.all ≡ take l.annotation-index l.annotation-items
