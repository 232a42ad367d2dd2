use Rattle.std.proofs.Common.{◌∷◌, [], refl}
use Rattle.st_code.specs.BuiltIns.{fraction_class}
use Rattle.st_messages.proofs.NewSlots.{no_slots, no_slots-told, paid_slots, slots_begin, slots_told, two_end, two_put}
use Rattle.st_messages.proofs.slots.new_fraction.Goals as goal

pub returns-in-Err-clause-memory : goal.returns-in-Err-clause-memory
returns-in-Err-clause-memory g c =
    rw c.answer_stop.ensures (no_slots c.in-Err.stop (g.H.Heap.meaning c.args.heap.now) (g.H.Heap.meaning c.blank.new.heap) fraction_class (c.args.over ∷ c.args.under ∷ []) 2 refl c.in-Err.ensures.made c.in-Err.ensures.answer)

pub returns-in-Err-clause-answer : goal.returns-in-Err-clause-answer
returns-in-Err-clause-answer g c =
    rw c.answer_stop.ensures (no_slots-told c.in-Err.stop (g.H.Heap.meaning c.args.heap.now) fraction_class (c.args.over ∷ c.args.under ∷ []) 2 refl c.in-Err.ensures.answer)

pub returns-clause-memory : goal.returns-clause-memory
returns-clause-memory g c =
    let m = g.H.Heap.meaning c.args.heap.now in
    let m1 = g.H.Heap.meaning c.blank.new.heap in
    let m3 = g.H.Heap.meaning c.put-2.new.self in
    let paid = paid_slots c.in-Ok.object 2 m c.in-Ok.ensures.answer in
    two_end m m1 m3 fraction_class c.in-Ok.object c.args.over c.args.under paid.1 paid.0 (slots_begin m m1 fraction_class 2 paid.0 c.in-Ok.ensures.made)
    (two_put c.in-Ok.object c.args.over c.args.under m1 (g.H.Heap.meaning c.put.new.self) m3 c.put.ensures.written c.put-2.ensures.written)

pub returns-clause-answer : goal.returns-clause-answer
returns-clause-answer g c =
    let m = g.H.Heap.meaning c.args.heap.now in
    let paid = paid_slots c.in-Ok.object 2 m c.in-Ok.ensures.answer in
    slots_told m fraction_class c.in-Ok.object (c.args.over ∷ c.args.under ∷ []) paid.1 paid.0
