use Rattle.std.proofs.Common.{◌≡◌, ◌≢◌, ◌<◌, ◌∙◌, ◌+◌, get_or, length, take, sym, ap, arith}
use Rattle.std.proofs.lemmas.List.{get_or-take, length-take-le}
use Rattle.object_heap.specs.declared.value.Value.TheVariants.{Nil}
use Rattle.object_heap.specs.Store.{object_at}
use Rattle.object_heap.specs.Charges.{Memory}
use Rattle.st_messages.proofs.SlotPuts.{put_more, put_all, other_stays}
use Rattle.st_messages.proofs.slots.put_slots_of.Goals as goal

pub loop-place-preserved : goal.loop-place-preserved
loop-place-preserved g c =
    let slots = (object_at c.args.from (g.H.Heap.meaning c.args.heap.now).store).slots in
    let values = take c.args.count slots in
    let size : length values ≡ c.args.count = length-take-le c.args.count slots c.requires.within in
    let below : c.loop-place.place < c.args.count = c.loop-place-test.true in
    let here : c.loop-place.place < length values = omega (arith, size, below) in
    let m = g.H.Heap.meaning c.loop-place.heap in
    let other : c.args.from ≢ c.args.object = c.requires.other (omega (arith, below)) in
    let read : c.get-value.result ≡ get_or values c.loop-place.place Nil = (rw c.loop-place.invariant.stays at c.get-value.ensures) ∙ sym (get_or-take c.args.count slots c.loop-place.place Nil below) in
    record {
      written = put_more values c.args.object c.args.at c.loop-place.place m (g.H.Heap.meaning c.put.new.self) here (rw read at c.put.ensures.written) ∙ c.loop-place.invariant.written;
      stays = ap (λ (n : Memory). object_at c.args.from n.store) c.put.ensures.written ∙ (other_stays c.args.from c.args.object (c.args.at + c.loop-place.place) c.get-value.result m.store other ∙ c.loop-place.invariant.stays);
      literals = c.put.ensures.literals ∙ c.loop-place.invariant.literals;
    }

pub returns-clause-written : goal.returns-clause-written
returns-clause-written g c =
    let slots = (object_at c.args.from (g.H.Heap.meaning c.args.heap.now).store).slots in
    let values = take c.args.count slots in
    let size : length values ≡ c.args.count = length-take-le c.args.count slots c.requires.within in
    sym (put_all values c.args.object (c.args.at + c.loop-place.place) c.loop-place.place (g.H.Heap.meaning c.loop-place.heap) (omega (arith, size))) ∙ c.loop-place.invariant.written
