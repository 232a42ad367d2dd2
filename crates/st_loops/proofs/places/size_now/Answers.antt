use Rattle.std.proofs.Common.{◌≡◌, [], refl}
use Rattle.st_collections.specs.declared.message.CollectionMessage.{CollectionMessage}
use Rattle.st_collections.specs.declared.message.OfSequence.{OfSequence}
use Rattle.st_collections.specs.Answers.{answer_of, memory_of, program_of, unless_out}
use Rattle.st_collections.specs.AtOnce.{action_of}
use Rattle.st_collections.specs.Kinds.{size_of}
use Rattle.st_loops.proofs.AtIndex.{read_size, read_size_memory, read_size_reserved, size_message-is}
use Rattle.st_loops.proofs.places.size_now.Goals as goal

pub returns-clause-memory : goal.returns-clause-memory
returns-clause-memory g c =
    let m = g.H.Heap.meaning c.args.heap.now in
    let p = program_of c.args.names.now in
    let r = c.collection_message.result in
    let h : g.H.Heap.meaning c.collection_message.new.heap ≡ unless_out r m (memory_of (action_of p m.store (CollectionMessage.Sequence OfSequence.Size) c.args.receiver []) m) = c.collection_message.ensures.memory p refl in
    read_size_memory r (size_of p m.store c.args.receiver) m (g.H.Heap.meaning c.collection_message.new.heap) (rw (size_message-is p m.store c.args.receiver) at h)

pub returns-clause-size : goal.returns-clause-size
returns-clause-size g c =
    let m = g.H.Heap.meaning c.args.heap.now in
    let p = program_of c.args.names.now in
    let r = c.collection_message.result in
    let h : r ≡ unless_out r r (answer_of (action_of p m.store (CollectionMessage.Sequence OfSequence.Size) c.args.receiver []) m) = c.collection_message.ensures.answer p refl in
    rw c.number_told.ensures (read_size r (size_of p m.store c.args.receiver) m (rw (size_message-is p m.store c.args.receiver) at h))

pub returns-clause-reserved : goal.returns-clause-reserved
returns-clause-reserved g c = λ reserved.
    let m = g.H.Heap.meaning c.args.heap.now in
    let p = program_of c.args.names.now in
    let r = c.collection_message.result in
    let h : r ≡ unless_out r r (answer_of (action_of p m.store (CollectionMessage.Sequence OfSequence.Size) c.args.receiver []) m) = c.collection_message.ensures.answer p refl in
    rw c.number_told.ensures (read_size_reserved r (size_of p m.store c.args.receiver) m (rw (size_message-is p m.store c.args.receiver) at h) (c.collection_message.ensures.reserved reserved))
