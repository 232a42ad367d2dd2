use Rattle.std.proofs.Common.{rules, ◌∙◌, refl, ap, sym, take, drop, ◌+◌, ◌∷◌, [], arith}
use Rattle.std.proofs.lemmas.Result.{err_from_is_err_and}
use Rattle.sif_export.specs.Words.{Named, Mark}
use Rattle.sif_export.specs.declared.sign.Sign.TheVariants as sign
use Rattle.sif_export.specs.TreeWords.{target_words}
use Rattle.sif_export.proofs.LaidLemmas.{done_none, done_as, stopped, done_then, stopped_then}
use Rattle.sif_export.proofs.Steps.{item_more, item_cut, target_words-append}
use Rattle.sif_export.proofs.trees.targets.Goals as goal

pub loop-name-init : goal.loop-name-init
loop-name-init g c = record { text = done_none _ _; faults = refl }

pub loop-name-preserved : goal.loop-name-preserved
loop-name-preserved g c =
    let items = c.as_slice-name-items.result.now in
    let i = c.loop-name.name-index in
    let x = c.name-item.result in
    record {
      text = done_as _ _ _ _ _ _ (done_then _ _ _ _ _ _ _ _ (target_words (take i items)) (Named x.text ∷ []) (Mark sign.Assign ∷ []) c.loop-name.invariant.text (c.in_ok-gap.ensures.text (Named x.text) (sym c.as_bytes.ensures, refl, refl)) c.in_ok-gap-2.ensures.text)
          (ap target_words (item_more items i x (omega arith) c.name-item.is) ∙ target_words-append (take i items) (x ∷ []));
      faults = search rules;
    }

pub returns-in_err-gap-clause-text : goal.returns-in_err-gap-clause-text
returns-in_err-gap-clause-text g c =
    let items = c.as_slice-name-items.result.now in
    let i = c.loop-name.name-index in
    let x = c.name-item.result in
    let p = err_from_is_err_and c.from_residual.result c.from_residual.ensures.1 in
    rw p.1 (stopped _ _ _ _ _ (target_words (take i items)) (Named x.text ∷ []) (Mark sign.Assign ∷ target_words (drop (i + 1) items)) _ c.loop-name.invariant.text (c.in_err-gap.ensures.text (Named x.text) (sym c.as_bytes.ensures, refl, refl))
    (ap target_words (sym c.as_slice-name-items.ensures ∙ item_cut items i x (omega arith) c.name-item.is) ∙ target_words-append (take i items) (x ∷ drop (i + 1) items)))

pub returns-in_err-gap-2-clause-text : goal.returns-in_err-gap-2-clause-text
returns-in_err-gap-2-clause-text g c =
    let items = c.as_slice-name-items.result.now in
    let i = c.loop-name.name-index in
    let x = c.name-item.result in
    let p = err_from_is_err_and c.from_residual-in_err-gap-2.result c.from_residual-in_err-gap-2.ensures.1 in
    rw p.1 (stopped_then _ _ _ _ _ _ _ (target_words (take i items)) (Named x.text ∷ []) (Mark sign.Assign ∷ []) (target_words (drop (i + 1) items)) _ c.loop-name.invariant.text (c.in_ok-gap.ensures.text (Named x.text) (sym c.as_bytes.ensures, refl, refl)) c.in_err-gap-2.ensures.text
    (ap target_words (sym c.as_slice-name-items.ensures ∙ item_cut items i x (omega arith) c.name-item.is) ∙ target_words-append (take i items) (x ∷ drop (i + 1) items)))
