use Rattle.std.proofs.Common.{◌≡◌, drop}
use Rattle.st_collections.specs.Answers.{program_of}
use Rattle.st_collections.specs.Orders.{folded, text_of, text_order}
use Rattle.st_collections.proofs.texts.order_of.Given as goal

-- what is behind the place decides
abbrev pub invariant-loop-place : goal.invariant-loop-place
invariant-loop-place g l =
    let text = text_of (program_of l.names) (g.H.Heap.meaning l.heap).store in
    text_order (folded l.folding (text l.left)) (folded l.folding (text l.right)) ≡ text_order (drop l.place (folded l.folding (text l.left))) (drop l.place (folded l.folding (text l.right)))
