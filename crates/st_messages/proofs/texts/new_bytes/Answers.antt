use Rattle.std.proofs.Common.{length, refl}
use Rattle.st_messages.proofs.NewTexts.{bytes_end, no_text, no_text-told, paid_text, text_told}
use Rattle.st_messages.proofs.texts.new_bytes.Goals as goal

pub returns-in-Err-clause-memory : goal.returns-in-Err-clause-memory
returns-in-Err-clause-memory g c =
    rw c.answer_stop.ensures (no_text c.in-Err.stop (g.H.Heap.meaning c.args.heap.now) (g.H.Heap.meaning c.blank.new.heap) c.args.bytes.now (length c.args.bytes.now) refl c.in-Err.ensures.made c.in-Err.ensures.answer)

pub returns-in-Err-clause-answer : goal.returns-in-Err-clause-answer
returns-in-Err-clause-answer g c =
    rw c.answer_stop.ensures (no_text-told c.in-Err.stop (g.H.Heap.meaning c.args.heap.now) c.args.bytes.now (length c.args.bytes.now) refl c.in-Err.ensures.answer)

pub returns-clause-memory : goal.returns-clause-memory
returns-clause-memory g c =
    let m = g.H.Heap.meaning c.args.heap.now in
    let paid = paid_text c.in-Ok.object (length c.args.bytes.now) m c.in-Ok.ensures.answer in
    bytes_end m (g.H.Heap.meaning c.blank.new.heap) (g.H.Heap.meaning c.put_bytes.new.heap) c.in-Ok.object c.args.bytes.now paid.1 paid.0 c.in-Ok.ensures.made c.put_bytes.ensures.written

pub returns-clause-answer : goal.returns-clause-answer
returns-clause-answer g c =
    let m = g.H.Heap.meaning c.args.heap.now in
    let paid = paid_text c.in-Ok.object (length c.args.bytes.now) m c.in-Ok.ensures.answer in
    text_told m (length c.args.bytes.now) c.in-Ok.object c.args.bytes.now refl paid.1 paid.0
