use Rattle.std.proofs.Common.{drop}
use Rattle.st_literals.specs.Gathered.{seen_literals}
use Rattle.st_literals.proofs.Making.{MakingAll}
use Rattle.st_literals.proofs.make.make_all.Given as goal

abbrev pub invariant-loop-literal : goal.invariant-loop-literal
invariant-loop-literal g l = MakingAll l.names (g.H.Heap.meaning l.fn.heap) (seen_literals l.literals) (seen_literals (drop l.literal-index l.literals)) (g.H.Heap.meaning l.heap) g.H.Heap.reserved (g.H.Heap.literal_room l.fn.heap) (g.H.Heap.literal_room l.heap)
