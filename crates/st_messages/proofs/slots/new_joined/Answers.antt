use Rattle.std.proofs.Common.{◌≡◌, ◌++◌, ◌+◌, [], length, refl, arith}
use Rattle.st_code.specs.BuiltIns.{exception_set_class}
use Rattle.st_messages.specs.Selectors.{selectors_in}
use Rattle.st_messages.proofs.NewSlots.{joined_end, joined_size, no_slots, no_slots-told, other_selectors, paid_slots, selectors_step, selectors_there, slots_begin, slots_so_far, slots_told}
use Rattle.st_messages.proofs.slots.new_joined.Goals as goal

pub returns-in-Err-clause-memory : goal.returns-in-Err-clause-memory
returns-in-Err-clause-memory g c =
    let m = g.H.Heap.meaning c.args.heap.now in
    let vs = selectors_in m.store c.args.left ++ selectors_in m.store c.args.right in
    rw c.answer_stop.ensures (no_slots c.in-Err.stop m (g.H.Heap.meaning c.blank.new.heap) exception_set_class vs (c.selector_count-count.result + c.selector_count-more.result) (joined_size m.store c.args.left c.args.right c.selector_count-count.result c.selector_count-more.result c.selector_count-count.ensures c.selector_count-more.ensures) c.in-Err.ensures.made c.in-Err.ensures.answer)

pub returns-in-Err-clause-answer : goal.returns-in-Err-clause-answer
returns-in-Err-clause-answer g c =
    let m = g.H.Heap.meaning c.args.heap.now in
    let vs = selectors_in m.store c.args.left ++ selectors_in m.store c.args.right in
    rw c.answer_stop.ensures (no_slots-told c.in-Err.stop m exception_set_class vs (c.selector_count-count.result + c.selector_count-more.result) (joined_size m.store c.args.left c.args.right c.selector_count-count.result c.selector_count-more.result c.selector_count-count.ensures c.selector_count-more.ensures) c.in-Err.ensures.answer)

pub put_selectors-at-requires-clause-other : goal.put_selectors-at-requires-clause-other
put_selectors-at-requires-clause-other g c =
    let m = g.H.Heap.meaning c.args.heap.now in
    let paid = paid_slots c.in-Ok.object (c.selector_count-count.result + c.selector_count-more.result) m c.in-Ok.ensures.answer in
    λ h. other_selectors m c.in-Ok.object c.selector_count-count.result c.args.left paid.1 c.selector_count-count.ensures h

pub put_selectors-requires-clause-other : goal.put_selectors-requires-clause-other
put_selectors-requires-clause-other g c =
    let m = g.H.Heap.meaning c.args.heap.now in
    let paid = paid_slots c.in-Ok.object (c.selector_count-count.result + c.selector_count-more.result) m c.in-Ok.ensures.answer in
    λ h. other_selectors m c.in-Ok.object c.selector_count-more.result c.args.right paid.1 c.selector_count-more.ensures h

pub put_selectors-requires-clause-within : goal.put_selectors-requires-clause-within
put_selectors-requires-clause-within g c =
    let m = g.H.Heap.meaning c.args.heap.now in
    let m1 = g.H.Heap.meaning c.blank.new.heap in
    let m2 = g.H.Heap.meaning c.put_selectors-at.new.heap in
    let count = c.selector_count-count.result in
    let more = c.selector_count-more.result in
    let paid = paid_slots c.in-Ok.object (count + more) m c.in-Ok.ensures.answer in
    let begun = slots_begin m m1 exception_set_class (count + more) paid.0 c.in-Ok.ensures.made in
    let first = selectors_step m m1 m2 exception_set_class (1 + (count + more)) c.in-Ok.object 0 [] more count c.args.left c.selector_count-count.ensures paid.1 refl begun c.put_selectors-at.ensures.written in
    selectors_there m m2 exception_set_class (1 + (count + more)) (selectors_in m.store c.args.left) more more c.args.right c.selector_count-more.ensures first

pub returns-clause-memory : goal.returns-clause-memory
returns-clause-memory g c =
    let m = g.H.Heap.meaning c.args.heap.now in
    let m1 = g.H.Heap.meaning c.blank.new.heap in
    let m2 = g.H.Heap.meaning c.put_selectors-at.new.heap in
    let m3 = g.H.Heap.meaning c.put_selectors.new.heap in
    let count = c.selector_count-count.result in
    let more = c.selector_count-more.result in
    let paid = paid_slots c.in-Ok.object (count + more) m c.in-Ok.ensures.answer in
    let begun = slots_begin m m1 exception_set_class (count + more) paid.0 c.in-Ok.ensures.made in
    let first : m2 ≡ slots_so_far m exception_set_class (1 + (count + more)) (selectors_in m.store c.args.left) more = selectors_step m m1 m2 exception_set_class (1 + (count + more)) c.in-Ok.object 0 [] more count c.args.left c.selector_count-count.ensures paid.1 refl begun c.put_selectors-at.ensures.written in
    let at : c.put_selectors-at.result ≡ length (selectors_in m.store c.args.left) = omega (arith, c.put_selectors-at.ensures.behind, c.selector_count-count.ensures) in
    let room : more + 0 ≡ more = omega arith in
    let second = selectors_step m m2 m3 exception_set_class (1 + (count + more)) c.in-Ok.object c.put_selectors-at.result (selectors_in m.store c.args.left) 0 more c.args.right c.selector_count-more.ensures paid.1 at (rw room first) c.put_selectors.ensures.written in
    joined_end m m3 exception_set_class count more c.args.left c.args.right c.selector_count-count.ensures c.selector_count-more.ensures paid.0 second

pub returns-clause-answer : goal.returns-clause-answer
returns-clause-answer g c =
    let m = g.H.Heap.meaning c.args.heap.now in
    let count = c.selector_count-count.result in
    let more = c.selector_count-more.result in
    let paid = paid_slots c.in-Ok.object (count + more) m c.in-Ok.ensures.answer in
    let size = joined_size m.store c.args.left c.args.right count more c.selector_count-count.ensures c.selector_count-more.ensures in
    slots_told m exception_set_class c.in-Ok.object (selectors_in m.store c.args.left ++ selectors_in m.store c.args.right) paid.1 (rw size at paid.0)
