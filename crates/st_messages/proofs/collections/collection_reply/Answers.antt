use Rattle.std.proofs.Common.{sym}
use Rattle.st_collections.specs.AtOnce.{action_of}
use Rattle.st_messages.proofs.AtOnce.{reply_memory, reply_told}
use Rattle.st_messages.proofs.CollectionsAtOnce.{collections_once}
use Rattle.st_messages.proofs.collections.collection_reply.Goals as goal

pub returns-clause-memory : goal.returns-clause-memory
returns-clause-memory g c =
    let p = g.P.ProgramFacts.meaning c.args.program.now in
    let m = g.H.Heap.meaning c.args.heap.now in
    reply_memory c.collection_message.result (action_of p m.store c.args.message c.args.receiver c.args.arguments.now) m (g.H.Heap.meaning c.collection_message.new.heap) (collections_once p m.store c.args.message c.args.receiver c.args.arguments.now) (c.collection_message.ensures.memory p (sym c.names.ensures))

pub returns-clause-reply : goal.returns-clause-reply
returns-clause-reply g c =
    let p = g.P.ProgramFacts.meaning c.args.program.now in
    let m = g.H.Heap.meaning c.args.heap.now in
    reply_told c.collection_message.result (action_of p m.store c.args.message c.args.receiver c.args.arguments.now) m (collections_once p m.store c.args.message c.args.receiver c.args.arguments.now) (c.collection_message.ensures.answer p (sym c.names.ensures))
