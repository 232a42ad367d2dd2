use Rattle.std.proofs.Common.{◌≡◌, ◌+◌, ◌*◌, ◌≤◌, ◌++◌, ◌∷◌, [], max, length, arith}
use Rattle.object_heap.specs.Store.{Store, object_at, object_set, with_length, with_room, with_slot}
use Rattle.object_heap.specs.Charges.{charged, with_store}
use Rattle.st_collections.specs.SequenceRows.{with_room as put_room}
use Rattle.st_collections.proofs.Gaps.{paid_room}
use Rattle.st_loops.proofs.Grown.{one_room, with_one, one_store, one_room-fits, paid_memory, stopped_memory}
use Rattle.st_loops.proofs.growth.append.Goals as goal

pub returns-in-Err-clause-made : goal.returns-in-Err-clause-made
unfolding one_room
returns-in-Err-clause-made g c =
    let m = g.H.Heap.meaning c.args.heap.now in
    let n = c.args.object in
    let o = object_at n m.store in
    let r = one_room m.store n in
    let more : c.max-more.result ≡ max 4 (2 * o.capacity) = omega (arith, c.max-more.ensures, c.capacity.ensures) in
    rw (with_one m.store n c.args.value c.requires)
    (stopped_memory c.in-Err.stop m (g.H.Heap.meaning c.reserve.new.heap) r.cells (with_room n r.elements m.store) (object_set n (put_room o (o.slots ++ c.args.value ∷ []) r.elements) m.store) (rw more at c.in-Err.ensures.made) (rw more at c.in-Err.ensures.answer))

pub returns-in-Err-clause-answer : goal.returns-in-Err-clause-answer
unfolding one_room
returns-in-Err-clause-answer g c =
    let m = g.H.Heap.meaning c.args.heap.now in
    let n = c.args.object in
    let o = object_at n m.store in
    let more : c.max-more.result ≡ max 4 (2 * o.capacity) = omega (arith, c.max-more.ensures, c.capacity.ensures) in
    rw (with_one m.store n c.args.value c.requires) (rw more at c.in-Err.ensures.answer)

pub returns-clause-made : goal.returns-clause-made
unfolding one_room
returns-clause-made g c =
    let m = g.H.Heap.meaning c.args.heap.now in
    let m1 = g.H.Heap.meaning c.reserve.new.heap in
    let n = c.args.object in
    let o = object_at n m.store in
    let r = one_room m.store n in
    let more : c.max-more.result ≡ max 4 (2 * o.capacity) = omega (arith, c.max-more.ensures, c.capacity.ensures) in
    let paid : m.used + r.cells ≤ m.limit = paid_room r.cells m (rw more at c.in-Ok.ensures.answer) in
    let made : m1 ≡ charged r.cells (with_room n r.elements m.store) m = rw more at c.in-Ok.ensures.made in
    let f = λ (t : Store). with_slot n (length o.slots) c.args.value (with_length n (length o.slots + 1) t) in
    let written : g.H.Heap.meaning c.put.new.self ≡ with_store (f m1.store) m1 = rw (c.set_length.ensures.resized, c.length-length.ensures) at c.put.ensures.written in
    rw (with_one m.store n c.args.value c.requires)
    (paid_memory m m1 (g.H.Heap.meaning c.put.new.self) r.cells (with_room n r.elements m.store) (object_set n (put_room o (o.slots ++ c.args.value ∷ []) r.elements) m.store) f made paid written
    (one_store m.store n r.elements c.args.value c.requires.roomy.stands (one_room-fits m.store n c.requires)))

pub returns-clause-answer : goal.returns-clause-answer
unfolding one_room
returns-clause-answer g c =
    let m = g.H.Heap.meaning c.args.heap.now in
    let n = c.args.object in
    let o = object_at n m.store in
    let more : c.max-more.result ≡ max 4 (2 * o.capacity) = omega (arith, c.max-more.ensures, c.capacity.ensures) in
    rw (with_one m.store n c.args.value c.requires) (rw more at c.in-Ok.ensures.answer)
