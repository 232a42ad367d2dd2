use Rattle.std.proofs.Common.{arith}
use Rattle.st_messages.specs.declared.pieces.Piece.{Piece}
use Rattle.st_messages.proofs.NewTexts.{length-text_more}
use Rattle.st_messages.proofs.texts.pieces_length.Goals as goal

pub loop-piece-preserved : goal.loop-piece-preserved
loop-piece-preserved g c =
    let p = g.P.ProgramFacts.meaning c.args.program.now in
    let s = (g.H.Heap.meaning c.args.heap.now).store in
    record {
      counted = omega (arith, length-text_more p s c.args.pieces.now c.loop-piece.piece-index Piece.Nothing c.loop-piece-test.true, c.loop-piece.invariant.counted, c.piece_length-count.ensures.length);
      small = omega (arith, c.loop-piece.invariant.small, c.piece_length-count.ensures.small);
    }
