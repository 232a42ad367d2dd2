use Rattle.st_loops.specs.Kinds.{message_of}
use Rattle.st_loops.proofs.Begun.{started_visit-names}
use Rattle.st_loops.proofs.beginning.begin.Goals as goal

pub returns-clause-memory : goal.returns-clause-memory
returns-clause-memory g c = λ p e. rw (started_visit-names p c.args.names.now (g.H.Heap.meaning c.args.heap.now).store (message_of c.args.kind) c.args.receiver c.args.arguments.now e) c.begin_by_names.ensures.memory

pub returns-clause-step : goal.returns-clause-step
returns-clause-step g c = λ p e. rw (started_visit-names p c.args.names.now (g.H.Heap.meaning c.args.heap.now).store (message_of c.args.kind) c.args.receiver c.args.arguments.now e) c.begin_by_names.ensures.step

pub returns-clause-partway : goal.returns-clause-partway
returns-clause-partway g c = λ p e. rw (started_visit-names p c.args.names.now (g.H.Heap.meaning c.args.heap.now).store (message_of c.args.kind) c.args.receiver c.args.arguments.now e) c.begin_by_names.ensures.partway
