use Rattle.std.proofs.Common.{sym, ◌∙◌, ap, arith}
use Rattle.st_machine.specs.Operands.{Taken}
use Rattle.st_machine.proofs.Loops.{taken_step, taken_end}
use Rattle.st_machine.proofs.operands.pop_into.Goals as goal

pub loop-left-preserved : goal.loop-left-preserved
loop-left-preserved c = record {
  same = taken_step c.loop-left.left c.loop-left.contexts c.pop_value.new.self c.pop_value.result c.loop-left.values.items c.push.new.self.items c.loop-left-test.true c.pop_value.ensures.popped c.pop_value.ensures.value c.in-Ok.ensures.items ∙ c.loop-left.invariant.same;
  room = rw c.in-Ok.ensures.items (grind (arith, c.loop-left.invariant.room, c.loop-left-test.true, c.in-Ok.ensures.capacity));
  counted = rw c.in-Ok.ensures.items (grind (arith, c.loop-left.invariant.counted, c.loop-left-test.true));
  grows = grind (arith, c.loop-left.invariant.grows, c.in-Ok.ensures.capacity);
}

pub returns-clause-stack : goal.returns-clause-stack
returns-clause-stack c = sym (ap (λ (t : Taken). t.stack) (sym c.loop-left.invariant.same ∙ taken_end c.loop-left.left c.loop-left.contexts _ c.loop-left-test.false))

pub returns-clause-values : goal.returns-clause-values
returns-clause-values c = sym (ap (λ (t : Taken). t.values) (sym c.loop-left.invariant.same ∙ taken_end c.loop-left.left c.loop-left.contexts _ c.loop-left-test.false))
