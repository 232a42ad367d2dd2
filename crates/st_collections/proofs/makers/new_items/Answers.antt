use Rattle.std.proofs.Common.{◌∙◌, ◌≡◌, ◌<◌, replicate, arith}
use Rattle.object_heap.specs.declared.value.Value.TheVariants.{Nil}
use Rattle.object_heap.specs.Store.{object_added}
use Rattle.st_collections.specs.Actions.{next_object}
use Rattle.st_collections.specs.Answers.{program_of}
use Rattle.st_collections.specs.Items.{items_of, sequence_charge, sequence_object, item_at}
use Rattle.st_collections.proofs.Bytes.{is_byte_read}
use Rattle.st_collections.proofs.Objects.{makes_items-is, filled_more, filled_all, filled_answer, stop_memory, stop_answer-is, so_far}
use Rattle.st_collections.proofs.Steady.{reads_steady, item_steady}
use Rattle.st_collections.proofs.makers.new_items.Goals as goal

pub returns-in-Err-clause-memory : goal.returns-in-Err-clause-memory
returns-in-Err-clause-memory g c =
    let m = g.H.Heap.meaning c.args.heap.now in
    let p = program_of c.args.names.now in
    let charge = sequence_charge c.args.class c.args.count in
    rw (c.answer_stop.ensures, makes_items-is p c.args.class c.args.items c.args.count m.store)
    (stop_memory c.in-Err.stop m (g.H.Heap.meaning c.blank.new.heap) charge (object_added (sequence_object c.args.class (replicate c.args.count Nil)) m.store) (object_added (sequence_object c.args.class (items_of p m.store c.args.items c.args.count)) m.store) (next_object m.store) c.in-Err.ensures.made c.in-Err.ensures.answer)

pub returns-in-Err-clause-answer : goal.returns-in-Err-clause-answer
returns-in-Err-clause-answer g c =
    let m = g.H.Heap.meaning c.args.heap.now in
    let p = program_of c.args.names.now in
    let charge = sequence_charge c.args.class c.args.count in
    rw (c.answer_stop.ensures, makes_items-is p c.args.class c.args.items c.args.count m.store)
    (stop_answer-is c.in-Err.stop m charge (object_added (sequence_object c.args.class (items_of p m.store c.args.items c.args.count)) m.store) (next_object m.store) c.in-Err.ensures.answer)

pub item_now-value-requires : goal.item_now-value-requires
item_now-value-requires g c =
    let m = g.H.Heap.meaning c.args.heap.now in
    let p = program_of c.args.names.now in
    rw c.loop-place.invariant.memory (reads_steady p c.args.items c.loop-place.place (sequence_object c.args.class (so_far (item_at p m.store c.args.items) c.args.count c.loop-place.place)) m.store (c.requires.reads c.loop-place.place (omega arith)))

pub put_item-requires : goal.put_item-requires
put_item-requires g c =
    let m = g.H.Heap.meaning c.args.heap.now in
    let p = program_of c.args.names.now in
    let o = (sequence_object c.args.class (so_far (item_at p m.store c.args.items) c.args.count c.loop-place.place)) in
    λ is. is_byte_read p m.store o c.args.items c.loop-place.place c.item_now-value.result (c.requires.reads c.loop-place.place (omega arith)) (c.requires.bytes is c.loop-place.place (omega arith)) (rw c.loop-place.invariant.memory at c.item_now-value.ensures.item) (rw c.loop-place.invariant.memory at c.item_now-value.ensures.byte)

pub loop-place-preserved : goal.loop-place-preserved
loop-place-preserved g c =
    let m = g.H.Heap.meaning c.args.heap.now in
    let p = program_of c.args.names.now in
    let o = (sequence_object c.args.class (so_far (item_at p m.store c.args.items) c.args.count c.loop-place.place)) in
    let here : c.loop-place.place < c.args.count = omega arith in
    let read : c.item_now-value.result ≡ item_at p m.store c.args.items c.loop-place.place =
    (rw c.loop-place.invariant.memory at c.item_now-value.ensures.item) ∙ item_steady p c.args.items c.loop-place.place o m.store (c.requires.reads c.loop-place.place here) in
    record {
      object = c.loop-place.invariant.object;
      memory = (rw (c.loop-place.invariant.memory, c.loop-place.invariant.object) at c.put_item.ensures.written) ∙ filled_more p m c.args.class c.args.items c.args.count c.loop-place.place c.item_now-value.result here read;
      paid = c.loop-place.invariant.paid;
      literals = c.put_item.ensures.literals ∙ c.loop-place.invariant.literals;
    }

pub returns-clause-memory : goal.returns-clause-memory
returns-clause-memory g c =
    let e : c.loop-place.place ≡ c.args.count = omega arith in
    (rw e at c.loop-place.invariant.memory) ∙ filled_all (program_of c.args.names.now) (g.H.Heap.meaning c.args.heap.now) c.args.class c.args.items c.args.count c.loop-place.invariant.paid

pub returns-clause-answer : goal.returns-clause-answer
returns-clause-answer g c =
    filled_answer (program_of c.args.names.now) (g.H.Heap.meaning c.args.heap.now) c.args.class c.args.items c.args.count c.in-Ok.object c.loop-place.invariant.object c.loop-place.invariant.paid
