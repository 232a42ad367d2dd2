use Rattle.std.proofs.Common.{rules, ◌∙◌, refl, ap, sym, take, drop, ◌+◌, ◌∷◌, [], arith}
use Rattle.std.proofs.lemmas.Result.{err_from_is_err_and}
use Rattle.sif_export.specs.Words.{Parameter}
use Rattle.sif_export.specs.TreeWords.{colon_words}
use Rattle.sif_export.proofs.LaidLemmas.{done_none, done_more, done_as, stopped}
use Rattle.sif_export.proofs.Steps.{item_more, item_cut, colon_words-append}
use Rattle.sif_export.proofs.trees.coloned.Goals as goal

pub loop-name-init : goal.loop-name-init
loop-name-init g c = record { text = done_none _ _; faults = refl }

pub loop-name-preserved : goal.loop-name-preserved
loop-name-preserved g c =
    let items = c.as_slice-name-items.result.now in
    let i = c.loop-name.name-index in
    let x = c.name-item.result in
    record {
      text = done_as _ _ _ _ _ _ (done_more _ _ _ _ _ _ (colon_words (take i items)) (Parameter x.text ∷ []) c.loop-name.invariant.text (c.in_ok-gap.ensures.text (Parameter x.text) (ap (λ ys. 58 ∷ ys) (sym c.as_bytes.ensures), refl, refl)))
          (ap colon_words (item_more items i x (omega arith) c.name-item.is) ∙ colon_words-append (take i items) (x ∷ []));
      faults = search rules;
    }

pub returns-in_err-gap-clause-text : goal.returns-in_err-gap-clause-text
returns-in_err-gap-clause-text g c =
    let items = c.as_slice-name-items.result.now in
    let i = c.loop-name.name-index in
    let x = c.name-item.result in
    let p = err_from_is_err_and c.from_residual.result c.from_residual.ensures.1 in
    rw p.1 (stopped _ _ _ _ _ (colon_words (take i items)) (Parameter x.text ∷ []) (colon_words (drop (i + 1) items)) _ c.loop-name.invariant.text (c.in_err-gap.ensures.text (Parameter x.text) (ap (λ ys. 58 ∷ ys) (sym c.as_bytes.ensures), refl, refl))
    (ap colon_words (sym c.as_slice-name-items.ensures ∙ item_cut items i x (omega arith) c.name-item.is) ∙ colon_words-append (take i items) (x ∷ drop (i + 1) items)))
