use Rattle.std.proofs.Common.{◌≡◌, ◌<◌, ◌∙◌, ◌∷◌, [], ℕ, List, drop, get_or, length, sym, ap, arith}
use Rattle.object_heap.specs.Store.{object_at}
use Rattle.object_heap.specs.Charges.{Memory}
use Rattle.st_code.specs.Texts.{quotes_doubled}
use Rattle.st_messages.proofs.Puts.{put, put_none, doubled_length, doubled_none, doubled_put, other_stays-put}
use Rattle.st_messages.proofs.pieces.put_doubled_of.Goals as goal

pub put_doubled_byte-at-requires : goal.put_doubled_byte-at-requires
put_doubled_byte-at-requires g c =
    let bytes = (object_at c.args.from (g.H.Heap.meaning c.args.heap.now).store).bytes in
    let here : c.loop-place.place < length bytes = omega arith in
    rw (c.get_byte-byte.ensures, c.loop-place.invariant.stays) (omega (arith, doubled_length bytes c.loop-place.place here, c.loop-place.invariant.behind, c.requires.fits))

pub loop-place-preserved : goal.loop-place-preserved
loop-place-preserved g c =
    let bytes = (object_at c.args.from (g.H.Heap.meaning c.args.heap.now).store).bytes in
    let here : c.loop-place.place < length bytes = omega arith in
    let m = g.H.Heap.meaning c.loop-place.heap in
    let wrote = rw (c.get_byte-byte.ensures, c.loop-place.invariant.stays) at c.put_doubled_byte-at.ensures.written in
    let moved = rw (c.get_byte-byte.ensures, c.loop-place.invariant.stays) at c.put_doubled_byte-at.ensures.behind in
    record {
      written = doubled_put bytes c.args.object c.loop-place.at c.put_doubled_byte-at.result c.loop-place.place m (g.H.Heap.meaning c.put_doubled_byte-at.new.heap) here wrote moved ∙ c.loop-place.invariant.written;
      behind = omega (arith, doubled_length bytes c.loop-place.place here, c.loop-place.invariant.behind, moved);
      stays = ap (λ (n : Memory). object_at c.args.from n.store) wrote ∙ (other_stays-put c.args.from c.args.object c.loop-place.at (quotes_doubled (get_or bytes c.loop-place.place 0 ∷ [])) m.store c.requires.other ∙ c.loop-place.invariant.stays);
      literals = c.put_doubled_byte-at.ensures.literals ∙ c.loop-place.invariant.literals;
    }

pub returns-clause-written : goal.returns-clause-written
returns-clause-written g c =
    let bytes = (object_at c.args.from (g.H.Heap.meaning c.args.heap.now).store).bytes in
    let none = doubled_none bytes c.loop-place.place (omega arith) in
    let m = g.H.Heap.meaning c.loop-place.heap in
    sym (ap (λ (t : List ℕ). put c.args.object c.loop-place.at t m) none ∙ put_none c.args.object c.loop-place.at m) ∙ c.loop-place.invariant.written

pub returns-clause-behind : goal.returns-clause-behind
returns-clause-behind g c =
    let bytes = (object_at c.args.from (g.H.Heap.meaning c.args.heap.now).store).bytes in
    let none : length (quotes_doubled (drop c.loop-place.place bytes)) ≡ 0 = ap (λ (t : List ℕ). length t) (doubled_none bytes c.loop-place.place (omega arith)) in
    omega (arith, none, c.loop-place.invariant.behind)
