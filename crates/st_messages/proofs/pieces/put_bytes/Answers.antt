use Rattle.std.proofs.Common.{◌≡◌, ◌∙◌, ◌+◌, sym, refl, arith}
use Rattle.st_messages.proofs.Puts.{put_more, put_all}
use Rattle.st_messages.proofs.pieces.put_bytes.Goals as goal

pub loop-place-init : goal.loop-place-init
loop-place-init g c = let e : c.args.at + 0 ≡ c.args.at = omega arith in record { written = rw e refl; literals = refl }

pub loop-place-preserved : goal.loop-place-preserved
loop-place-preserved g c = record {
  written = put_more c.args.bytes.now c.args.object c.args.at c.loop-place.place (g.H.Heap.meaning c.loop-place.heap) (g.H.Heap.meaning c.put_byte.new.self) c.loop-place-test.true c.put_byte.ensures.written ∙ c.loop-place.invariant.written;
  literals = c.put_byte.ensures.literals ∙ c.loop-place.invariant.literals;
}

pub returns-clause-written : goal.returns-clause-written
returns-clause-written g c =
    sym (put_all c.args.bytes.now c.args.object (c.args.at + c.loop-place.place) c.loop-place.place (g.H.Heap.meaning c.loop-place.heap) (omega arith)) ∙ c.loop-place.invariant.written
