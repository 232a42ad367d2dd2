use Rattle.std.proofs.Common.{◌++◌, [], ◌∷◌, refl}
use Rattle.std.proofs.lemmas.Result.{err_from_is_err_and}
use Rattle.sif_export.specs.Words.{quotes_doubled}
use Rattle.sif_export.proofs.PieceLemmas.{started, fails_then, puts_then, written_then}
use Rattle.sif_export.proofs.pieces.quoted_piece.Goals as goal

pub returns-in_err-piece-clause-text : goal.returns-in_err-piece-clause-text
returns-in_err-piece-clause-text g c =
    let p = err_from_is_err_and c.from_residual.result c.from_residual.ensures.1 in
    rw p.1 (fails_then _ _ _ [] (39 ∷ []) (quotes_doubled c.args.bytes.now ++ 39 ∷ []) _ (started _) c.in_err-piece.ensures.text refl)

pub returns-in_err-inner_piece-clause-text : goal.returns-in_err-inner_piece-clause-text
returns-in_err-inner_piece-clause-text g c =
    let p = err_from_is_err_and c.from_residual-in_err-inner_piece.result c.from_residual-in_err-inner_piece.ensures.1 in
    rw p.1 (fails_then _ _ _ (39 ∷ []) (quotes_doubled c.args.bytes.now) (39 ∷ []) _ c.in_ok-piece.ensures.text c.in_err-inner_piece.ensures.text refl)

pub returns-clause-text : goal.returns-clause-text
returns-clause-text g c =
    puts_then _ _ _ _ (39 ∷ quotes_doubled c.args.bytes.now) (39 ∷ []) (written_then _ _ _ (39 ∷ []) (quotes_doubled c.args.bytes.now) c.in_ok-piece.ensures.text c.in_ok-inner_piece.ensures.text) c.piece-2.ensures.text
