use Rattle.st_sprint.proofs.AtOnce.{replied_if, kept_if}
use Rattle.st_sprint.proofs.messages.reply_of.Goals as goal

pub returns-clause-made : goal.returns-clause-made
returns-clause-made g c = rw (← c.machine.view_is) (replied_if c.args.row c.args.receiver _ c.machine.invariant c.row_message.result c.values-arguments.result.now _ (g.H.Heap.meaning c.row_message.new.heap) c.values-arguments.ensures c.row_message.ensures.memory c.row_message.ensures.reply c.row_message.ensures.reserved c.row_message.ensures.here)

pub returns-clause-kept : goal.returns-clause-kept
returns-clause-kept g c = rw (← c.machine.view_is) (kept_if c.row_message.result _ (g.H.Heap.meaning c.row_message.new.heap) c.row_message.ensures.rest)
