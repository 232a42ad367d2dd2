use Rattle.std.proofs.Common.{drop, map}
use Rattle.object_heap.specs.Troubles.{text_of}
use Rattle.st_literals.proofs.Making.{MakingTexts}
use Rattle.st_literals.proofs.make.make_texts.Given as goal

abbrev pub invariant-loop-trouble : goal.invariant-loop-trouble
invariant-loop-trouble g l = MakingTexts (g.H.Heap.meaning l.fn.heap) (map text_of l.troubles) (map text_of (drop l.trouble-index l.troubles)) (g.H.Heap.meaning l.heap) g.H.Heap.reserved (g.H.Heap.literal_room l.fn.heap) (g.H.Heap.literal_room l.heap)
