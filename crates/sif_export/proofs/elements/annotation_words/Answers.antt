use Rattle.std.proofs.Common.{◌++◌, ◌∷◌, [], refl, codes}
use Rattle.std.proofs.lemmas.Result.{err_from_is_err_and}
use Rattle.sif_export.specs.Words.{Named, Joined}
use Rattle.sif_export.specs.ExportText.{keyed, annotation_words}
use Rattle.sif_export.proofs.LaidLemmas.{done_none, done_more, lays_as, lays_more, stopped}
use Rattle.sif_export.proofs.Steps.{annotation_words-of}
use Rattle.sif_export.proofs.elements.annotation_words.Goals as goal

pub returns-in_err-gap-clause-text : goal.returns-in_err-gap-clause-text
returns-in_err-gap-clause-text g c =
    let a = c.args.annotation.now in
    let p = err_from_is_err_and c.from_residual.result c.from_residual.ensures.1 in
    rw p.1 (stopped Joined Joined _ _ _ [] (Named (codes "Annotation") ∷ []) (keyed (codes "key:") a.key ++ keyed (codes "value:") a.value) (annotation_words a) (done_none _ _) (c.in_err-gap.ensures.text (Named (codes "Annotation")) (refl, refl, refl)) refl)

pub returns-in_err-gap-2-clause-text : goal.returns-in_err-gap-2-clause-text
returns-in_err-gap-2-clause-text g c =
    let a = c.args.annotation.now in
    let p = err_from_is_err_and c.from_residual-in_err-gap-2.result c.from_residual-in_err-gap-2.ensures.1 in
    rw p.1 (stopped _ _ _ _ _ (Named (codes "Annotation") ∷ []) (keyed (codes "key:") c.as_bytes.result.now) (keyed (codes "value:") a.value) _ (c.in_ok-gap.ensures.text (Named (codes "Annotation")) (refl, refl, refl)) c.in_err-gap-2.ensures.text (annotation_words-of a _ _ c.as_bytes.ensures refl))

pub returns-clause-text : goal.returns-clause-text
returns-clause-text g c =
    let a = c.args.annotation.now in
    lays_as _ _ _ _ _ _ (lays_more _ _ _ _ _ _ (Named (codes "Annotation") ∷ keyed (codes "key:") c.as_bytes.result.now) (keyed (codes "value:") c.as_bytes-2.result.now) (done_more _ _ _ _ _ _ (Named (codes "Annotation") ∷ []) (keyed (codes "key:") c.as_bytes.result.now) (c.in_ok-gap.ensures.text (Named (codes "Annotation")) (refl, refl, refl)) c.in_ok-gap-2.ensures.text) c.key_and_string-2.ensures.text) (annotation_words-of a _ _ c.as_bytes.ensures c.as_bytes-2.ensures)
