use Rattle.std.proofs.Common.{◌+◌, ◌≤◌, length}
use Rattle.std.specs.List.{insert}
use Rattle.object_heap.specs.Store.{object_at, object_set}
use Rattle.st_collections.specs.Ordered.{room_for_one}
use Rattle.st_collections.specs.SequenceRows.{with_room as put_room}
use Rattle.object_heap.specs.Store.{with_room}
use Rattle.st_collections.proofs.Gaps.{with_more, added_memory, added_answer, full_memory, full_answer, paid_room, stands_open}
use Rattle.st_collections.proofs.ordered.add_at.Goals as goal

pub returns-in-Err-clause-memory : goal.returns-in-Err-clause-memory
returns-in-Err-clause-memory g c =
    let m = g.H.Heap.meaning c.args.heap.now in
    let o = object_at c.args.object m.store in
    rw (c.answer_stop.ensures, with_more m.store c.args.object c.args.place c.args.value c.requires.open c.requires.within)
    (full_memory c.in-Err.stop m (g.H.Heap.meaning c.reserve_slot.new.heap) (room_for_one (length o.slots) o.capacity).cells (with_room c.args.object (room_for_one (length o.slots) o.capacity).elements m.store) (object_set c.args.object (put_room o (insert o.slots c.args.place c.args.value) (room_for_one (length o.slots) o.capacity).elements) m.store) c.args.value c.in-Err.ensures.made c.in-Err.ensures.answer)

pub returns-in-Err-clause-answer : goal.returns-in-Err-clause-answer
returns-in-Err-clause-answer g c =
    let m = g.H.Heap.meaning c.args.heap.now in
    let o = object_at c.args.object m.store in
    rw (c.answer_stop.ensures, with_more m.store c.args.object c.args.place c.args.value c.requires.open c.requires.within)
    (full_answer c.in-Err.stop m (room_for_one (length o.slots) o.capacity).cells (object_set c.args.object (put_room o (insert o.slots c.args.place c.args.value) (room_for_one (length o.slots) o.capacity).elements) m.store) c.args.value c.in-Err.ensures.answer)

pub returns-clause-memory : goal.returns-clause-memory
returns-clause-memory g c =
    let m = g.H.Heap.meaning c.args.heap.now in
    let o = object_at c.args.object m.store in
    let paid : m.used + (room_for_one (length o.slots) o.capacity).cells ≤ m.limit = paid_room (room_for_one (length o.slots) o.capacity).cells m c.in-Ok.ensures.answer in
    added_memory m (g.H.Heap.meaning c.reserve_slot.new.heap) (g.H.Heap.meaning c.open_slot.new.heap) (g.H.Heap.meaning c.put.new.self) c.args.object c.args.place c.args.value c.requires.open c.requires.within (stands_open m.store c.args.object c.requires.open) c.in-Ok.ensures.made paid c.open_slot.ensures.opened c.put.ensures.written

pub returns-clause-answer : goal.returns-clause-answer
returns-clause-answer g c =
    let m = g.H.Heap.meaning c.args.heap.now in
    let o = object_at c.args.object m.store in
    let paid : m.used + (room_for_one (length o.slots) o.capacity).cells ≤ m.limit = paid_room (room_for_one (length o.slots) o.capacity).cells m c.in-Ok.ensures.answer in
    added_answer m c.args.object c.args.place c.args.value c.requires.open c.requires.within paid
