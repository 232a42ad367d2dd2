use Rattle.std.proofs.Common.{◌≡◌, ◌∙◌, refl, arith, ◌+◌, ◌<◌, get_or, length}
use Rattle.std.specs.Prelude.{[], replicate}
use Rattle.object_heap.specs.declared.value.Value.TheVariants.{Nil}
use Rattle.object_heap.specs.Store.{object_added}
use Rattle.st_collections.specs.Actions.{new_object, next_object, with_new}
use Rattle.st_collections.proofs.Objects.{makes_slots-is, slots_more, slots_all, slots_answer, stop_memory, stop_answer-is}
use Rattle.st_collections.proofs.makers.new_values.Goals as goal

pub returns-in-Err-clause-memory : goal.returns-in-Err-clause-memory
returns-in-Err-clause-memory g c =
    let m = g.H.Heap.meaning c.args.heap.now in
    let n = length c.args.values.now in
    rw (c.answer_stop.ensures, makes_slots-is c.args.class c.args.values.now n m.store refl)
    (stop_memory c.in-Err.stop m (g.H.Heap.meaning c.blank_slots.new.heap) (1 + n) (object_added (new_object c.args.class (replicate n Nil) []) m.store) (with_new c.args.class c.args.values.now [] m.store) (next_object m.store) c.in-Err.ensures.made c.in-Err.ensures.answer)

pub returns-in-Err-clause-answer : goal.returns-in-Err-clause-answer
returns-in-Err-clause-answer g c =
    let m = g.H.Heap.meaning c.args.heap.now in
    let n = length c.args.values.now in
    rw (c.answer_stop.ensures, makes_slots-is c.args.class c.args.values.now n m.store refl)
    (stop_answer-is c.in-Err.stop m (1 + n) (with_new c.args.class c.args.values.now [] m.store) (next_object m.store) c.in-Err.ensures.answer)

pub loop-place-preserved : goal.loop-place-preserved
loop-place-preserved g c =
    let m = g.H.Heap.meaning c.args.heap.now in
    let n = length c.args.values.now in
    let here : c.loop-place.place < n = c.loop-place-test.true in
    record {
      object = c.loop-place.invariant.object;
      memory = (rw (c.loop-place.invariant.memory, c.loop-place.invariant.object) at c.put.ensures.written) ∙ slots_more m c.args.class c.args.values.now n c.loop-place.place (get_or c.args.values.now c.loop-place.place Nil) here refl;
      paid = c.loop-place.invariant.paid;
      literals = c.put.ensures.literals ∙ c.loop-place.invariant.literals;
    }

pub returns-clause-memory : goal.returns-clause-memory
returns-clause-memory g c =
    let m = g.H.Heap.meaning c.args.heap.now in
    let n = length c.args.values.now in
    let e : c.loop-place.place ≡ n = omega arith in
    (rw e at c.loop-place.invariant.memory) ∙ slots_all m c.args.class c.args.values.now n refl c.loop-place.invariant.paid

pub returns-clause-answer : goal.returns-clause-answer
returns-clause-answer g c =
    let m = g.H.Heap.meaning c.args.heap.now in
    let n = length c.args.values.now in
    slots_answer m c.args.class c.args.values.now n c.in-Ok.object refl c.loop-place.invariant.object c.loop-place.invariant.paid
