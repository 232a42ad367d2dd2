use Rattle.std.proofs.Common.{◌∙◌, sym}
use Rattle.st_messages.proofs.Sound.{sound_so}
use Rattle.st_messages.proofs.dispatch.row_message.Goals as goal

pub row_reply-requires : goal.row_reply-requires
row_reply-requires g c = sound_so (g.H.Heap.meaning c.args.heap.now).store c.args.row c.args.receiver c.args.arguments.now (sym c.may_act.ensures ∙ c.if-may_act.true)
