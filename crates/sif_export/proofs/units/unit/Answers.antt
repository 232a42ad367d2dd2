use Rattle.std.proofs.Common.{[], map}
use Rattle.std.proofs.lemmas.Result.{err_from_is_err_and}
use Rattle.sif_chunks.specs.Writing.{all_closed}
use Rattle.sif_export.specs.ExportText.{kind_texts, annotation_text}
use Rattle.sif_export.proofs.PieceLemmas.{started, gains_stop, gains_then, gains_as}
use Rattle.sif_export.proofs.Steps.{all_closed-append}
use Rattle.sif_export.proofs.units.unit.Goals as goal

pub returns-in_err-kind-clause-text : goal.returns-in_err-kind-clause-text
returns-in_err-kind-clause-text g c =
    let u = c.args.unit.now in
    let p = err_from_is_err_and c.from_residual.result c.from_residual.ensures.1 in
    rw p.1 (gains_stop _ _ _ [] (all_closed (kind_texts u.kind)) (all_closed (map annotation_text u.annotations)) _ (started _) c.in_err-kind.ensures.text (all_closed-append (kind_texts u.kind) (map annotation_text u.annotations)))

pub returns-clause-text : goal.returns-clause-text
returns-clause-text g c =
    let u = c.args.unit.now in
    gains_as _ _ _ _ _ (gains_then _ _ _ _ (all_closed (kind_texts u.kind)) (all_closed (map annotation_text u.annotations)) c.in_ok-kind.ensures.text c.annotations.ensures.text) (all_closed-append (kind_texts u.kind) (map annotation_text u.annotations))
