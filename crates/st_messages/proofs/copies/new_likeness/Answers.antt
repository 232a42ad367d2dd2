use Rattle.std.proofs.Common.{arith}
use Rattle.object_heap.specs.Charges.{object_charge}
use Rattle.st_collections.proofs.Objects.{paid_of}
use Rattle.st_messages.proofs.Copying.{bytes_beside, bytes_fit, copy_begun, copy_ended, copy_told, no_copy, no_copy-told, slots_beside, slots_copied, slots_there}
use Rattle.st_messages.proofs.copies.new_likeness.Goals as goal

pub returns-in-Err-clause-memory : goal.returns-in-Err-clause-memory
returns-in-Err-clause-memory g c =
    let m = g.H.Heap.meaning c.args.heap.now in
    rw c.answer_stop.ensures (no_copy c.in-Err.stop m (g.H.Heap.meaning c.blank.new.heap) c.args.object c.class_of-class.result c.length-slots.result c.byte_length-bytes.result c.length-slots.ensures c.byte_length-bytes.ensures c.in-Err.ensures.made c.in-Err.ensures.answer)

pub returns-in-Err-clause-answer : goal.returns-in-Err-clause-answer
returns-in-Err-clause-answer g c =
    let m = g.H.Heap.meaning c.args.heap.now in
    rw c.answer_stop.ensures (no_copy-told c.in-Err.stop m c.args.object c.length-slots.result c.byte_length-bytes.result c.length-slots.ensures c.byte_length-bytes.ensures c.in-Err.ensures.answer)

pub put_slots_of-requires-clause-other : goal.put_slots_of-requires-clause-other
put_slots_of-requires-clause-other g c =
    let m = g.H.Heap.meaning c.args.heap.now in
    let paid = paid_of c.in-Ok.copy (object_charge c.length-slots.result c.byte_length-bytes.result) m c.in-Ok.ensures.answer in
    slots_beside m c.args.object c.in-Ok.copy c.length-slots.result c.length-slots.ensures paid.1

pub put_slots_of-requires-clause-within : goal.put_slots_of-requires-clause-within
put_slots_of-requires-clause-within g c =
    let m = g.H.Heap.meaning c.args.heap.now in
    let m1 = g.H.Heap.meaning c.blank.new.heap in
    let charge = object_charge c.length-slots.result c.byte_length-bytes.result in
    let paid = paid_of c.in-Ok.copy charge m c.in-Ok.ensures.answer in
    let begun = copy_begun m m1 c.args.object c.class_of-class.result c.length-slots.result c.byte_length-bytes.result c.class_of-class.ensures c.length-slots.ensures c.byte_length-bytes.ensures paid.0 c.in-Ok.ensures.made in
    slots_there m m1 c.args.object c.length-slots.result charge c.length-slots.ensures begun

pub put_bytes_of-requires-clause-other : goal.put_bytes_of-requires-clause-other
put_bytes_of-requires-clause-other g c =
    let m = g.H.Heap.meaning c.args.heap.now in
    let m1 = g.H.Heap.meaning c.blank.new.heap in
    let m2 = g.H.Heap.meaning c.put_slots_of.new.heap in
    let charge = object_charge c.length-slots.result c.byte_length-bytes.result in
    let paid = paid_of c.in-Ok.copy charge m c.in-Ok.ensures.answer in
    let begun = copy_begun m m1 c.args.object c.class_of-class.result c.length-slots.result c.byte_length-bytes.result c.class_of-class.ensures c.length-slots.ensures c.byte_length-bytes.ensures paid.0 c.in-Ok.ensures.made in
    let slots = slots_copied m m1 m2 c.args.object c.in-Ok.copy c.length-slots.result charge c.length-slots.ensures paid.1 begun c.put_slots_of.ensures.written in
    bytes_beside m m2 c.args.object c.in-Ok.copy charge paid.1 slots

pub put_bytes_of-requires-clause-fits : goal.put_bytes_of-requires-clause-fits
put_bytes_of-requires-clause-fits g c =
    let m = g.H.Heap.meaning c.args.heap.now in
    let m1 = g.H.Heap.meaning c.blank.new.heap in
    let m2 = g.H.Heap.meaning c.put_slots_of.new.heap in
    let charge = object_charge c.length-slots.result c.byte_length-bytes.result in
    let paid = paid_of c.in-Ok.copy charge m c.in-Ok.ensures.answer in
    let begun = copy_begun m m1 c.args.object c.class_of-class.result c.length-slots.result c.byte_length-bytes.result c.class_of-class.ensures c.length-slots.ensures c.byte_length-bytes.ensures paid.0 c.in-Ok.ensures.made in
    let slots = slots_copied m m1 m2 c.args.object c.in-Ok.copy c.length-slots.result charge c.length-slots.ensures paid.1 begun c.put_slots_of.ensures.written in
    let size = bytes_fit m m2 c.args.object charge c.byte_length-bytes.result c.byte_length-bytes.ensures slots in
    omega (arith, size)

pub returns-clause-memory : goal.returns-clause-memory
returns-clause-memory g c =
    let m = g.H.Heap.meaning c.args.heap.now in
    let m1 = g.H.Heap.meaning c.blank.new.heap in
    let m2 = g.H.Heap.meaning c.put_slots_of.new.heap in
    let m3 = g.H.Heap.meaning c.put_bytes_of.new.heap in
    let charge = object_charge c.length-slots.result c.byte_length-bytes.result in
    let paid = paid_of c.in-Ok.copy charge m c.in-Ok.ensures.answer in
    let begun = copy_begun m m1 c.args.object c.class_of-class.result c.length-slots.result c.byte_length-bytes.result c.class_of-class.ensures c.length-slots.ensures c.byte_length-bytes.ensures paid.0 c.in-Ok.ensures.made in
    let slots = slots_copied m m1 m2 c.args.object c.in-Ok.copy c.length-slots.result charge c.length-slots.ensures paid.1 begun c.put_slots_of.ensures.written in
    copy_ended m m2 m3 c.args.object c.in-Ok.copy c.length-slots.result c.byte_length-bytes.result c.length-slots.ensures c.byte_length-bytes.ensures paid.1 paid.0 slots c.put_bytes_of.ensures.written

pub returns-clause-answer : goal.returns-clause-answer
returns-clause-answer g c =
    let m = g.H.Heap.meaning c.args.heap.now in
    let paid = paid_of c.in-Ok.copy (object_charge c.length-slots.result c.byte_length-bytes.result) m c.in-Ok.ensures.answer in
    copy_told m c.args.object c.in-Ok.copy c.length-slots.result c.byte_length-bytes.result c.length-slots.ensures c.byte_length-bytes.ensures paid.1 paid.0
