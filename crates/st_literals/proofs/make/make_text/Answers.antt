use Rattle.std.proofs.Common.{get_or, refl, ◌∙◌}
use Rattle.st_literals.proofs.Filling.{text-next}
use Rattle.st_literals.proofs.make.make_text.Goals as goal

pub loop-index-preserved : goal.loop-index-preserved
loop-index-preserved g c = record {
  written = text-next c.args.text.now c.loop-index.index (get_or c.args.text.now c.loop-index.index 0) c.in_ok-number.number (g.H.Heap.meaning c.args.heap.now) (g.H.Heap.meaning c.loop-index.heap) (g.H.Heap.meaning c.put_byte.new.self) c.loop-index-test.true refl c.in_ok-number.ensures.answer c.put_byte.ensures.written c.loop-index.invariant.written;
  left = λ r. c.put_byte.ensures.literals ∙ c.loop-index.invariant.left r;
}
