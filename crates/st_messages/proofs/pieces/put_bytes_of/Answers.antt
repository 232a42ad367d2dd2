use Rattle.std.proofs.Common.{◌<◌, ◌∙◌, ◌+◌, length, sym, ap, arith}
use Rattle.object_heap.specs.Store.{object_at}
use Rattle.object_heap.specs.Charges.{Memory}
use Rattle.st_messages.proofs.Puts.{put_more, put_all, other_stays}
use Rattle.st_messages.proofs.pieces.put_bytes_of.Goals as goal

pub loop-place-preserved : goal.loop-place-preserved
loop-place-preserved g c =
    let bytes = (object_at c.args.from (g.H.Heap.meaning c.args.heap.now).store).bytes in
    let here : c.loop-place.place < length bytes = omega arith in
    let m = g.H.Heap.meaning c.loop-place.heap in
    let wrote = c.put_byte.ensures.written in
    record {
      written = put_more bytes c.args.object c.args.at c.loop-place.place m (g.H.Heap.meaning c.put_byte.new.self) here (rw (c.get_byte-byte.ensures, c.loop-place.invariant.stays) at wrote) ∙ c.loop-place.invariant.written;
      stays = ap (λ (n : Memory). object_at c.args.from n.store) wrote ∙ (other_stays c.args.from c.args.object (c.args.at + c.loop-place.place) c.get_byte-byte.result m.store (c.requires.other (omega arith)) ∙ c.loop-place.invariant.stays);
      literals = c.put_byte.ensures.literals ∙ c.loop-place.invariant.literals;
    }

pub returns-clause-written : goal.returns-clause-written
returns-clause-written g c =
    let bytes = (object_at c.args.from (g.H.Heap.meaning c.args.heap.now).store).bytes in
    sym (put_all bytes c.args.object (c.args.at + c.loop-place.place) c.loop-place.place (g.H.Heap.meaning c.loop-place.heap) (omega arith)) ∙ c.loop-place.invariant.written
