use Rattle.std.proofs.Common.{[], refl}
use Rattle.std.proofs.lemmas.Result.{err_from_is_err_and}
use Rattle.sif_export.proofs.PieceLemmas.{started, fails_then, puts_then}
use Rattle.sif_export.proofs.pieces.two_pieces.Goals as goal

pub returns-in_err-piece-clause-text : goal.returns-in_err-piece-clause-text
returns-in_err-piece-clause-text g c =
    let p = err_from_is_err_and c.from_residual.result c.from_residual.ensures.1 in
    rw p.1 (fails_then _ _ _ [] c.args.first.now c.args.second.now _ (started _) c.in_err-piece.ensures.text refl)

pub returns-clause-text : goal.returns-clause-text
returns-clause-text g c = puts_then _ _ _ _ c.args.first.now c.args.second.now c.in_ok-piece.ensures.text c.piece-2.ensures.text
