use Rattle.std.proofs.Common.{sym, ◌∙◌, ap, arith, false, drop}
use Rattle.object_heap.specs.Charges.{with_store}
use Rattle.st_machine.proofs.Loops.{put_more, put_none, put_end}
use Rattle.st_machine.proofs.scopes.put_captured.Goals as goal
use Rattle.st_machine.proofs.scopes.put_captured.Goals.{then-is_captured, else-is_captured}

pub loop-index-preserved : goal.loop-index-preserved
loop-index-preserved g c = elim c.if-is_captured.branch [
  | then-is_captured w ↦ record {
    same = put_more c.args.captured.now c.args.arguments.now c.loop-index.index false c.args.scope c.loop-index.place c.if-is_captured.place w.argument.result (g.H.Heap.meaning c.loop-index.heap) (g.H.Heap.meaning c.if-is_captured.heap) c.loop-index-test.true w.if-is_captured.true w.argument.ensures w.place-is (ap g.H.Heap.meaning w.heap-is ∙ w.scope_put.ensures.written) ∙ c.loop-index.invariant.same;
    few = omega (arith, w.place-is, c.loop-index.invariant.few);
  }
  | else-is_captured w ↦ record {
    same = put_none c.args.captured.now c.args.arguments.now c.loop-index.index false c.args.scope c.loop-index.place c.if-is_captured.place (g.H.Heap.meaning c.loop-index.heap) (g.H.Heap.meaning c.if-is_captured.heap) c.loop-index-test.true w.if-is_captured.false w.place-is (ap g.H.Heap.meaning w.heap-is) ∙ c.loop-index.invariant.same;
    few = omega (arith, w.place-is, c.loop-index.invariant.few);
  }
]

pub returns : goal.returns
returns g c = ap (λ s. with_store s (g.H.Heap.meaning c.loop-index.heap)) (sym (put_end c.args.captured.now (drop c.loop-index.index c.args.arguments.now) c.loop-index.index c.args.scope c.loop-index.place (g.H.Heap.meaning c.loop-index.heap).store c.loop-index-test.false)) ∙ c.loop-index.invariant.same
