use Rattle.std.proofs.Common.{◌∙◌, arith}
use Rattle.st_numbers.proofs.Comparisons.{whole-decides, rests-decide, no-rest, only-rest}
use Rattle.st_numbers.proofs.compare.is_smaller.Goals as goal

pub returns-then-whole-other : goal.returns-then-whole-other
returns-then-whole-other c = whole-decides c.loop-left.left.0 c.loop-left.left.1 c.loop-left.right.0 c.loop-left.right.1 c.loop-left.invariant.left c.loop-left.invariant.right c.if-whole-other.true ∙ c.loop-left.invariant.same

pub returns-then-remainder-eq0 : goal.returns-then-remainder-eq0
returns-then-remainder-eq0 c = no-rest c.loop-left.left.0 c.loop-left.left.1 c.loop-left.right.0 c.loop-left.right.1 c.loop-left.invariant.left c.loop-left.invariant.right c.if-whole-other.false c.if-remainder-eq0.true ∙ c.loop-left.invariant.same

pub returns-then-rest-eq0 : goal.returns-then-rest-eq0
returns-then-rest-eq0 c = only-rest c.loop-left.left.0 c.loop-left.left.1 c.loop-left.right.0 c.loop-left.right.1 c.loop-left.invariant.left c.loop-left.invariant.right c.if-whole-other.false c.if-rest-eq0.true (omega (arith, c.if-remainder-eq0.false)) ∙ c.loop-left.invariant.same

pub loop-left-preserved : goal.loop-left-preserved
loop-left-preserved c = record {
  left = omega (arith, c.if-remainder-eq0.false);
  right = omega (arith, c.if-rest-eq0.false);
  same = rests-decide c.loop-left.left.0 c.loop-left.left.1 c.loop-left.right.0 c.loop-left.right.1 c.loop-left.invariant.left c.loop-left.invariant.right c.if-whole-other.false ∙ c.loop-left.invariant.same;
}
