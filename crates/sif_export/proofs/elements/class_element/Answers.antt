use Rattle.std.proofs.lemmas.Result.{err_from_is_err_and}
use Rattle.sif_export.specs.ExportText.{class_text}
use Rattle.sif_export.proofs.LaidLemmas.{lays_closed, fails_open}
use Rattle.sif_export.proofs.PieceLemmas.{gains_of}
use Rattle.sif_export.proofs.elements.class_element.Goals as goal

pub returns-in_err-class_words-clause-text : goal.returns-in_err-class_words-clause-text
unfolding class_text
returns-in_err-class_words-clause-text g c =
    let p = err_from_is_err_and c.from_residual.result c.from_residual.ensures.1 in
    rw p.1 (fails_open _ _ (class_text c.args.class.now) c.in_err-class_words.ensures.text)

pub returns-clause-text : goal.returns-clause-text
unfolding class_text
returns-clause-text g c =
    lays_closed _ _ _ _ _ _ _ c.in_ok-class_words.ensures.text (gains_of _ _ _ _ c.close.ensures.all c.close.ensures.part)
