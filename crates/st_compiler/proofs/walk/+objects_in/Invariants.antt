use Rattle.std.proofs.Common.{◌≡◌, ◌+◌, drop, map}
use Rattle.st_code.specs.Written.{named_literal, literal_row}
use Rattle.st_compiler.specs.Walked.{objects_in_row}
use Rattle.st_compiler.proofs.walk.+objects_in.Given as goal

abbrev pub invariant-loop-item : goal.invariant-loop-item
invariant-loop-item l = l.count + objects_in_row (literal_row (map named_literal (drop l.item-index l.item-items))) ≡ 1 + objects_in_row (literal_row (map named_literal l.item-items))
