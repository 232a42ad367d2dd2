use Rattle.st_collections.proofs.ByNames.{action_by_names}
use Rattle.st_collections.proofs.dispatch.collection_message.Goals as goal

pub returns-clause-memory : goal.returns-clause-memory
returns-clause-memory g c = λ p e. rw (action_by_names p c.args.names.now (g.H.Heap.meaning c.args.heap.now).store c.args.message c.args.receiver c.args.arguments.now e) c.at_once.ensures.memory

pub returns-clause-answer : goal.returns-clause-answer
returns-clause-answer g c = λ p e. rw (action_by_names p c.args.names.now (g.H.Heap.meaning c.args.heap.now).store c.args.message c.args.receiver c.args.arguments.now e) c.at_once.ensures.answer
