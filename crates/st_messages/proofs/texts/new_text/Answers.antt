use Rattle.std.proofs.Common.{◌∙◌, get_or, arith}
use Rattle.object_heap.specs.Charges.{object_charge}
use Rattle.st_messages.specs.declared.pieces.Piece.{Piece}
use Rattle.st_messages.specs.Pieces.{pieces_text}
use Rattle.st_messages.proofs.NewTexts.{elsewhere, known_at, no_text, no_text-told, text_end, text_fits, text_step, text_told}
use Rattle.st_messages.proofs.texts.new_text.Goals as goal

pub returns-in-Err-clause-memory : goal.returns-in-Err-clause-memory
returns-in-Err-clause-memory g c =
    let m = g.H.Heap.meaning c.args.heap.now in
    let t = pieces_text (g.P.ProgramFacts.meaning c.args.program.now) m.store c.args.pieces.now in
    rw c.answer_stop.ensures (no_text c.in-Err.stop m (g.H.Heap.meaning c.blank.new.heap) t c.pieces_length-count.result c.pieces_length-count.ensures c.in-Err.ensures.made c.in-Err.ensures.answer)

pub returns-in-Err-clause-answer : goal.returns-in-Err-clause-answer
returns-in-Err-clause-answer g c =
    let m = g.H.Heap.meaning c.args.heap.now in
    let t = pieces_text (g.P.ProgramFacts.meaning c.args.program.now) m.store c.args.pieces.now in
    rw c.answer_stop.ensures (no_text-told c.in-Err.stop m t c.pieces_length-count.result c.pieces_length-count.ensures c.in-Err.ensures.answer)

pub put_piece-at-requires-clause-other : goal.put_piece-at-requires-clause-other
put_piece-at-requires-clause-other g c =
    let m = g.H.Heap.meaning c.args.heap.now in
    let i = c.loop-piece.piece-index in
    rw c.loop-piece.invariant.object (elsewhere (get_or c.args.pieces.now i Piece.Nothing) m.store (known_at m.store c.args.pieces.now i Piece.Nothing c.loop-piece-test.true c.requires.known))

pub put_piece-at-requires-clause-fits : goal.put_piece-at-requires-clause-fits
put_piece-at-requires-clause-fits g c =
    let m = g.H.Heap.meaning c.args.heap.now in
    let p = g.P.ProgramFacts.meaning c.args.program.now in
    omega (arith, text_fits p m (g.H.Heap.meaning c.loop-piece.heap) c.args.pieces.now c.loop-piece.piece-index c.pieces_length-count.result c.loop-piece.at (object_charge 0 c.pieces_length-count.result) c.requires.known c.loop-piece-test.true c.loop-piece.invariant.at c.pieces_length-count.ensures c.loop-piece.invariant.memory, c.in-Ok.ensures.bytes)

pub loop-piece-preserved : goal.loop-piece-preserved
loop-piece-preserved g c =
    let m = g.H.Heap.meaning c.args.heap.now in
    let p = g.P.ProgramFacts.meaning c.args.program.now in
    let step = text_step p m (g.H.Heap.meaning c.loop-piece.heap) (g.H.Heap.meaning c.put_piece-at.new.heap) c.args.pieces.now c.loop-piece.piece-index c.pieces_length-count.result c.in-Ok.object c.loop-piece.at c.put_piece-at.result (object_charge 0 c.pieces_length-count.result) c.requires.known c.loop-piece-test.true c.loop-piece.invariant.object c.loop-piece.invariant.at c.pieces_length-count.ensures c.loop-piece.invariant.memory c.put_piece-at.ensures.written c.put_piece-at.ensures.behind in
    record {
      object = c.loop-piece.invariant.object;
      at = step.0;
      memory = step.1;
      paid = c.loop-piece.invariant.paid;
      literals = c.put_piece-at.ensures.literals ∙ c.loop-piece.invariant.literals;
    }

pub returns-clause-memory : goal.returns-clause-memory
returns-clause-memory g c =
    let m = g.H.Heap.meaning c.args.heap.now in
    let p = g.P.ProgramFacts.meaning c.args.program.now in
    text_end p m (g.H.Heap.meaning c.loop-piece.heap) c.args.pieces.now c.loop-piece.piece-index c.pieces_length-count.result c.loop-piece.at (omega arith) c.loop-piece.invariant.at c.pieces_length-count.ensures c.loop-piece.invariant.paid c.loop-piece.invariant.memory

pub returns-clause-answer : goal.returns-clause-answer
returns-clause-answer g c =
    let m = g.H.Heap.meaning c.args.heap.now in
    text_told m c.pieces_length-count.result c.in-Ok.object (pieces_text (g.P.ProgramFacts.meaning c.args.program.now) m.store c.args.pieces.now) c.pieces_length-count.ensures c.loop-piece.invariant.object c.loop-piece.invariant.paid
