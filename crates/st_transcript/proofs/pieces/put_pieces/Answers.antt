use Rattle.std.proofs.Common.{◌≡◌, ◌<◌, ◌∙◌, ◌+◌, [], List, drop, get_or, length, refl, arith}
use Rattle.std.proofs.lemmas.List.{drop_all}
use Rattle.std.proofs.lemmas.Result.{err_from_is_err_and}
use Rattle.st_messages.specs.declared.pieces.Piece.{Piece}
use Rattle.st_messages.specs.Pieces.{piece_text, pieces_text}
use Rattle.st_transcript.proofs.Gaining.{Wrote, wrote_first, wrote_more, wrote_last, wrote_part, next_piece}
use Rattle.st_transcript.proofs.pieces.put_pieces.Goals as goal

pub loop-piece-init : goal.loop-piece-init
loop-piece-init g c = record { wrote = wrote_first _ _ _ refl; faults = refl }

pub returns-in_err-put_piece-clause-text : goal.returns-in_err-put_piece-clause-text
returns-in_err-put_piece-clause-text g c =
    let p = err_from_is_err_and c.from_residual.result c.from_residual.ensures.1 in
    let i = c.loop-piece.piece-index in
    let pieces = c.args.pieces.now in
    let program = g.P.ProgramFacts.meaning c.args.program.now in
    let store = (g.H.Heap.meaning c.args.heap.now).store in
    rw p.1 (wrote_part (pieces_text program store pieces) (piece_text program store (get_or pieces i Piece.Nothing)) (pieces_text program store (drop (i + 1) pieces)) _ _ _ (rw (next_piece program store pieces i c.loop-piece-test.true) at c.loop-piece.invariant.wrote) c.in_err-put_piece.ensures.text)

pub loop-piece-preserved : goal.loop-piece-preserved
loop-piece-preserved g c =
    let i = c.loop-piece.piece-index in
    let pieces = c.args.pieces.now in
    let program = g.P.ProgramFacts.meaning c.args.program.now in
    let store = (g.H.Heap.meaning c.args.heap.now).store in
    record {
      wrote = wrote_more (pieces_text program store pieces) (piece_text program store (get_or pieces i Piece.Nothing)) (pieces_text program store (drop (i + 1) pieces)) _ _ _ (rw (next_piece program store pieces i c.loop-piece-test.true) at c.loop-piece.invariant.wrote) c.in_ok-put_piece.ensures.text;
      faults = c.in_ok-put_piece.ensures.cause.kept ∙ c.loop-piece.invariant.faults;
    }

pub returns-clause-text : goal.returns-clause-text
returns-clause-text g c =
    let pieces = c.args.pieces.now in
    let none : drop c.loop-piece.piece-index pieces ≡ [] = drop_all c.loop-piece.piece-index pieces (omega arith) in
    wrote_last (pieces_text (g.P.ProgramFacts.meaning c.args.program.now) (g.H.Heap.meaning c.args.heap.now).store pieces) _ _ (rw none at c.loop-piece.invariant.wrote)
