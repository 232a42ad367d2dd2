use Rattle.std.proofs.Common.{rules, ◌∙◌, refl, ap, sym, take, drop, map, ◌+◌, ◌++◌, ◌∷◌, [], arith}
use Rattle.std.proofs.lemmas.List.{map-append}
use Rattle.std.proofs.lemmas.Result.{err_from_is_err_and}
use Rattle.sif_export.specs.Words.{Remark}
use Rattle.sif_export.proofs.LaidLemmas.{done_none, done_more, done_as, stopped}
use Rattle.sif_export.proofs.Steps.{item_more, item_cut}
use Rattle.sif_export.proofs.elements.remarks.Goals as goal

pub loop-comment-init : goal.loop-comment-init
loop-comment-init g c = record { text = done_none _ _; faults = refl }

pub loop-comment-preserved : goal.loop-comment-preserved
loop-comment-preserved g c =
    let items = c.as_slice-comment-items.result.now in
    let i = c.loop-comment.comment-index in
    let x = c.comment-item.result in
    record {
      text = done_as _ _ _ _ _ _ (done_more _ _ _ _ _ _ (map Remark (take i items)) (Remark c.as_bytes.result.now ∷ []) c.loop-comment.invariant.text c.in_ok-gap.ensures.text)
          (ap (map Remark) (item_more items i x (omega arith) c.comment-item.is) ∙ map-append Remark (take i items) (x ∷ []) ∙ ap (λ t. map Remark (take i items) ++ Remark t ∷ []) (sym c.as_bytes.ensures));
      faults = search rules;
    }

pub returns-in_err-gap-clause-text : goal.returns-in_err-gap-clause-text
returns-in_err-gap-clause-text g c =
    let items = c.as_slice-comment-items.result.now in
    let i = c.loop-comment.comment-index in
    let x = c.comment-item.result in
    let p = err_from_is_err_and c.from_residual.result c.from_residual.ensures.1 in
    rw p.1 (stopped _ _ _ _ _ (map Remark (take i items)) (Remark c.as_bytes.result.now ∷ []) (map Remark (drop (i + 1) items)) _ c.loop-comment.invariant.text c.in_err-gap.ensures.text
    (ap (map Remark) (sym c.as_slice-comment-items.ensures ∙ item_cut items i x (omega arith) c.comment-item.is) ∙ map-append Remark (take i items) (x ∷ drop (i + 1) items) ∙ ap (λ t. map Remark (take i items) ++ Remark t ∷ map Remark (drop (i + 1) items)) (sym c.as_bytes.ensures)))
