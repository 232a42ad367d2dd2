use Rattle.std.proofs.Common.{rules, ◌∙◌, refl, ap, sym, take, drop, ◌+◌, arith, map}
use Rattle.std.proofs.lemmas.Result.{err_from_is_err_and}
use Rattle.std.specs.Io.KnownBytes.{append_known}
use Rattle.sif_chunks.specs.Writing.{closed, all_closed}
use Rattle.sif_export.specs.ExportText.{annotation_text}
use Rattle.sif_export.proofs.PieceLemmas.{started, gains_stop, gained_then}
use Rattle.sif_export.proofs.Steps.{annotations_cut, annotations_more}
use Rattle.sif_export.proofs.units.annotations.Goals as goal

pub loop-annotation-init : goal.loop-annotation-init
loop-annotation-init g c = record { written = started _; faults = refl }

pub returns-in_err-annotation_element-clause-text : goal.returns-in_err-annotation_element-clause-text
returns-in_err-annotation_element-clause-text g c =
    let items = c.as_slice-annotation-items.result.now in
    let i = c.loop-annotation.annotation-index in
    let x = c.annotation-item.result in
    let p = err_from_is_err_and c.from_residual.result c.from_residual.ensures.1 in
    rw p.1 (gains_stop _ _ _ (all_closed (map annotation_text (take i items))) (closed (annotation_text x)) (all_closed (map annotation_text (drop (i + 1) items))) _ c.loop-annotation.invariant.written c.in_err-annotation_element.ensures.text (ap (λ xs. all_closed (map annotation_text xs)) (sym c.as_slice-annotation-items.ensures) ∙ annotations_cut items i x (omega arith) c.annotation-item.is))

pub loop-annotation-preserved : goal.loop-annotation-preserved
loop-annotation-preserved g c =
    let items = c.as_slice-annotation-items.result.now in
    let i = c.loop-annotation.annotation-index in
    let x = c.annotation-item.result in
    record {
      written = gained_then _ _ _ (all_closed (map annotation_text (take i items))) (closed (annotation_text x)) c.loop-annotation.invariant.written c.in_ok-annotation_element.ensures.text ∙ ap (append_known (g.K.Sink.written c.args.sink.now)) (sym (annotations_more items i x (omega arith) c.annotation-item.is));
      faults = search rules;
    }
