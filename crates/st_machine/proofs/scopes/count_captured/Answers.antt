use Rattle.std.proofs.Common.{arith, false}
use Rattle.st_machine.proofs.Loops.{count_step, count_stay, count_end}
use Rattle.st_machine.proofs.scopes.count_captured.Goals as goal
use Rattle.st_machine.proofs.scopes.count_captured.Goals.{then-is_captured, else-is_captured}

pub loop-is_captured-preserved : goal.loop-is_captured-preserved
loop-is_captured-preserved c = elim c.if-is_captured.branch [
  | then-is_captured w ↦ rw w.count-is (record {
    same = omega (arith, c.loop-is_captured.invariant.same, count_step c.args.captured.now c.loop-is_captured.is_captured-index false c.loop-is_captured-test.true w.if-is_captured.true);
    few = omega (arith, c.loop-is_captured.invariant.few);
  })
  | else-is_captured w ↦ rw w.count-is (record {
    same = omega (arith, c.loop-is_captured.invariant.same, count_stay c.args.captured.now c.loop-is_captured.is_captured-index false c.loop-is_captured-test.true w.if-is_captured.false);
    few = omega (arith, c.loop-is_captured.invariant.few);
  })
]

pub returns : goal.returns
returns c = omega (arith, c.loop-is_captured.invariant.same, count_end c.args.captured.now c.loop-is_captured.is_captured-index c.loop-is_captured-test.false)
