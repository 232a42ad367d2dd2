use Rattle.std.proofs.Common.{sym, ◌∙◌, drop}
use Rattle.st_machine.proofs.Slots.{slots_step, slots_end}
use Rattle.st_machine.proofs.signals.put_slots.Goals as goal

pub loop-slot-preserved : goal.loop-slot-preserved
loop-slot-preserved g c = slots_step c.args.count c.loop-slot.slot c.args.values.now c.args.object (g.H.Heap.meaning c.loop-slot.heap) (g.H.Heap.meaning c.put.new.self) c.argument.result c.loop-slot-test.true c.argument.ensures c.put.ensures.written ∙ c.loop-slot.invariant

pub returns : goal.returns
returns g c = sym (slots_end c.args.count c.loop-slot.slot (drop c.loop-slot.slot c.args.values.now) c.args.object (g.H.Heap.meaning c.loop-slot.heap) c.loop-slot-test.false) ∙ c.loop-slot.invariant
