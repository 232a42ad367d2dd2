use Rattle.std.proofs.Common.{◌≡◌, [], ◌∷◌, refl, to_z, of_z}
use Rattle.std.specs.Int.{w128}
use Rattle.std.proofs.lemmas.Int.{to_z-of_z}
use Rattle.object_heap.specs.declared.value.Value.TheVariants.{Integer}
use Rattle.st_collections.specs.declared.message.CollectionMessage.{CollectionMessage}
use Rattle.st_collections.specs.declared.message.OfSequence.{OfSequence}
use Rattle.st_collections.specs.Answers.{answer_of, memory_of, program_of, unless_out}
use Rattle.st_collections.specs.AtOnce.{action_of}
use Rattle.st_collections.specs.Kinds.{element, natural_of}
use Rattle.st_loops.specs.Visits.{is_place}
use Rattle.st_loops.proofs.AtIndex.{read_memory, read_place, read_reserved, at_message-is}
use Rattle.st_loops.proofs.places.place_at.Goals as goal

pub returns-clause-memory : goal.returns-clause-memory
returns-clause-memory g c =
    let m = g.H.Heap.meaning c.args.heap.now in
    let p = program_of c.args.names.now in
    let r = c.collection_message.result in
    let h : g.H.Heap.meaning c.collection_message.new.heap ≡ unless_out r m (memory_of (action_of p m.store (CollectionMessage.Sequence OfSequence.At) c.args.receiver (Integer (to_z w128 (of_z w128 c.args.index)) ∷ [])) m) = c.collection_message.ensures.memory p refl in
    read_memory r (is_place p m.store c.args.receiver c.args.index) (element p m.store c.args.receiver (natural_of c.args.index)) m (g.H.Heap.meaning c.collection_message.new.heap)
    (rw (to_z-of_z w128 c.args.index c.ranges.index, at_message-is p m.store c.args.receiver c.args.index) at h)

pub returns-clause-place : goal.returns-clause-place
returns-clause-place g c =
    let m = g.H.Heap.meaning c.args.heap.now in
    let p = program_of c.args.names.now in
    let r = c.collection_message.result in
    let h : r ≡ unless_out r r (answer_of (action_of p m.store (CollectionMessage.Sequence OfSequence.At) c.args.receiver (Integer (to_z w128 (of_z w128 c.args.index)) ∷ [])) m) = c.collection_message.ensures.answer p refl in
    rw c.place_told.ensures
    (read_place r (is_place p m.store c.args.receiver c.args.index) (element p m.store c.args.receiver (natural_of c.args.index)) m
    (rw (to_z-of_z w128 c.args.index c.ranges.index, at_message-is p m.store c.args.receiver c.args.index) at h))

pub returns-clause-reserved : goal.returns-clause-reserved
returns-clause-reserved g c = λ reserved.
    let m = g.H.Heap.meaning c.args.heap.now in
    let p = program_of c.args.names.now in
    let r = c.collection_message.result in
    let h : r ≡ unless_out r r (answer_of (action_of p m.store (CollectionMessage.Sequence OfSequence.At) c.args.receiver (Integer (to_z w128 (of_z w128 c.args.index)) ∷ [])) m) = c.collection_message.ensures.answer p refl in
    rw c.place_told.ensures
    (read_reserved r (is_place p m.store c.args.receiver c.args.index) (element p m.store c.args.receiver (natural_of c.args.index)) m
    (rw (to_z-of_z w128 c.args.index c.ranges.index, at_message-is p m.store c.args.receiver c.args.index) at h)
    (c.collection_message.ensures.reserved reserved))
