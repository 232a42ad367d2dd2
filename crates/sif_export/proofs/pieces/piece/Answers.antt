use Rattle.sif_export.proofs.PieceLemmas.{gains_of}
use Rattle.sif_export.proofs.pieces.piece.Goals as goal

pub returns-clause-text : goal.returns-clause-text
returns-clause-text g c = gains_of _ _ _ _ c.piece.ensures.all c.piece.ensures.part
