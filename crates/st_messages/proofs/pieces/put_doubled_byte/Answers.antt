use Rattle.st_messages.proofs.Puts.{put_quote, put_other}
use Rattle.st_messages.proofs.pieces.put_doubled_byte.Goals as goal

pub returns-then-byte-eq39-clause-written : goal.returns-then-byte-eq39-clause-written
returns-then-byte-eq39-clause-written g c =
    put_quote c.args.object c.args.at c.args.byte (g.H.Heap.meaning c.args.heap.now) (g.H.Heap.meaning c.put_byte.new.self) (g.H.Heap.meaning c.put_byte-then-byte-eq39.new.self) c.if-byte-eq39.true c.put_byte.ensures.written c.put_byte-then-byte-eq39.ensures.written

pub returns-clause-written : goal.returns-clause-written
returns-clause-written g c =
    put_other c.args.object c.args.at c.args.byte (g.H.Heap.meaning c.args.heap.now) (g.H.Heap.meaning c.put_byte.new.self) c.if-byte-eq39.false c.put_byte.ensures.written
