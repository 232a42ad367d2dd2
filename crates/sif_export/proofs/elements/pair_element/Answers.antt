use Rattle.std.proofs.Common.{◌∷◌, [], refl}
use Rattle.std.proofs.lemmas.Result.{err_from_is_err_and}
use Rattle.sif_export.specs.Words.{Named, Joined}
use Rattle.sif_export.specs.ExportText.{pair_text}
use Rattle.sif_export.proofs.LaidLemmas.{done_none, done_more, stopped, lays_closed, fails_open}
use Rattle.sif_export.proofs.PieceLemmas.{gains_of}
use Rattle.sif_export.proofs.elements.pair_element.Goals as goal

pub returns-in_err-gap-clause-text : goal.returns-in_err-gap-clause-text
unfolding pair_text
returns-in_err-gap-clause-text g c =
    let p = err_from_is_err_and c.from_residual.result c.from_residual.ensures.1 in
    rw p.1 (fails_open _ _ (pair_text c.args.first.now c.args.second.now) (stopped Joined Joined _ _ _ [] (Named c.args.first.now ∷ []) (Named c.args.second.now ∷ []) _ (done_none _ _) (c.in_err-gap.ensures.text (Named c.args.first.now) (refl, refl, refl)) refl))

pub returns-in_err-word-clause-text : goal.returns-in_err-word-clause-text
unfolding pair_text
returns-in_err-word-clause-text g c =
    let p = err_from_is_err_and c.from_residual-in_err-word.result c.from_residual-in_err-word.ensures.1 in
    rw p.1 (fails_open _ _ (pair_text c.args.first.now c.args.second.now) (stopped _ _ _ _ _ (Named c.args.first.now ∷ []) (Named c.args.second.now ∷ []) [] _ (c.in_ok-gap.ensures.text (Named c.args.first.now) (refl, refl, refl)) (c.in_err-word.ensures.text (Named c.args.second.now) (refl, refl, refl)) refl))

pub returns-clause-text : goal.returns-clause-text
unfolding pair_text
returns-clause-text g c =
    lays_closed _ _ _ _ _ _ _ (done_more _ _ _ _ _ _ (Named c.args.first.now ∷ []) (Named c.args.second.now ∷ []) (c.in_ok-gap.ensures.text (Named c.args.first.now) (refl, refl, refl)) (c.in_ok-word.ensures.text (Named c.args.second.now) (refl, refl, refl))) (gains_of _ _ _ _ c.close.ensures.all c.close.ensures.part)
