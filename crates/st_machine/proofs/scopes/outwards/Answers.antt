use Rattle.std.proofs.Common.{sym, ◌∙◌}
use Rattle.st_machine.proofs.Loops.{up_step, up_none, up_end}
use Rattle.st_machine.proofs.scopes.outwards.Goals as goal

pub loop-left-preserved : goal.loop-left-preserved
loop-left-preserved g c = rw c.scope_outer-at.ensures (up_step c.loop-left.left c.in-Some.number (g.H.Heap.meaning c.args.heap.now).store c.loop-left-test.true ∙ rw c.in-Some.is at c.loop-left.invariant)

pub returns-in-None : goal.returns-in-None
returns-in-None g c = up_none c.loop-left.left (g.H.Heap.meaning c.args.heap.now).store c.loop-left-test.true ∙ rw c.in-None.is at c.loop-left.invariant

pub returns : goal.returns
returns g c = sym (up_end c.loop-left.left c.loop-left.at (g.H.Heap.meaning c.args.heap.now).store c.loop-left-test.false) ∙ c.loop-left.invariant
