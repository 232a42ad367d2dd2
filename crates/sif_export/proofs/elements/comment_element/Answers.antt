use Rattle.std.proofs.lemmas.Result.{err_from_is_err_and}
use Rattle.sif_export.specs.ExportText.{comment_text}
use Rattle.sif_export.proofs.LaidLemmas.{lays_closed, fails_open}
use Rattle.sif_export.proofs.PieceLemmas.{gains_of}
use Rattle.sif_export.proofs.elements.comment_element.Goals as goal

pub returns-in_err-remarks-clause-text : goal.returns-in_err-remarks-clause-text
unfolding comment_text
returns-in_err-remarks-clause-text g c =
    let p = err_from_is_err_and c.from_residual.result c.from_residual.ensures.1 in
    rw p.1 (fails_open _ _ (comment_text c.args.comments.now) c.in_err-remarks.ensures.text)

pub returns-clause-text : goal.returns-clause-text
unfolding comment_text
returns-clause-text g c =
    lays_closed _ _ _ _ _ _ _ c.in_ok-remarks.ensures.text (gains_of _ _ _ _ c.close.ensures.all c.close.ensures.part)
