use Rattle.std.proofs.Common.{◌≡◌, ◌∙◌, ℕ, List, drop, length, sym, ap, arith}
use Rattle.st_code.specs.Texts.{quotes_doubled}
use Rattle.st_messages.proofs.Puts.{put, put_none, doubled_length, doubled_none, doubled_put}
use Rattle.st_messages.proofs.pieces.put_doubled.Goals as goal

pub put_doubled_byte-at-requires : goal.put_doubled_byte-at-requires
put_doubled_byte-at-requires g c = omega (arith, doubled_length c.args.bytes.now c.loop-byte.byte-index c.loop-byte-test.true, c.loop-byte.invariant.behind, c.requires)

pub loop-byte-preserved : goal.loop-byte-preserved
loop-byte-preserved g c = record {
  written = doubled_put c.args.bytes.now c.args.object c.loop-byte.at c.put_doubled_byte-at.result c.loop-byte.byte-index (g.H.Heap.meaning c.loop-byte.heap) (g.H.Heap.meaning c.put_doubled_byte-at.new.heap) c.loop-byte-test.true c.put_doubled_byte-at.ensures.written c.put_doubled_byte-at.ensures.behind ∙ c.loop-byte.invariant.written;
  behind = omega (arith, doubled_length c.args.bytes.now c.loop-byte.byte-index c.loop-byte-test.true, c.loop-byte.invariant.behind, c.put_doubled_byte-at.ensures.behind);
  literals = c.put_doubled_byte-at.ensures.literals ∙ c.loop-byte.invariant.literals;
}

pub returns-clause-written : goal.returns-clause-written
returns-clause-written g c =
    let none = doubled_none c.args.bytes.now c.loop-byte.byte-index (omega arith) in
    let m = g.H.Heap.meaning c.loop-byte.heap in
    sym (ap (λ (t : List ℕ). put c.args.object c.loop-byte.at t m) none ∙ put_none c.args.object c.loop-byte.at m) ∙ c.loop-byte.invariant.written

pub returns-clause-behind : goal.returns-clause-behind
returns-clause-behind g c =
    let none : length (quotes_doubled (drop c.loop-byte.byte-index c.args.bytes.now)) ≡ 0 = ap (λ (t : List ℕ). length t) (doubled_none c.args.bytes.now c.loop-byte.byte-index (omega arith)) in
    omega (arith, none, c.loop-byte.invariant.behind)
