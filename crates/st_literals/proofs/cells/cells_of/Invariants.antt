use Rattle.std.proofs.Common.{◌≡◌, ◌+◌, drop}
use Rattle.st_literals.specs.Gathered.{seen_literals}
use Rattle.st_literals.specs.Cells.{cells_of}
use Rattle.st_literals.proofs.cells.cells_of.Given as goal

abbrev pub invariant-loop-literal : goal.invariant-loop-literal
invariant-loop-literal l = l.count + cells_of (seen_literals (drop l.literal-index l.literals)) ≡ cells_of (seen_literals l.literals)
