use Rattle.std.proofs.Common.{◌∷◌, [], refl}
use Rattle.std.proofs.lemmas.Result.{err_from_is_err_and}
use Rattle.sif_export.specs.Words.{Named, Joined}
use Rattle.sif_export.specs.ExportText.{keyed, string_text}
use Rattle.sif_export.proofs.LaidLemmas.{done_none, done_more, stopped, lays_closed, fails_open}
use Rattle.sif_export.proofs.PieceLemmas.{gains_of}
use Rattle.sif_export.proofs.elements.string_element.Goals as goal

pub returns-in_err-gap-clause-text : goal.returns-in_err-gap-clause-text
unfolding string_text
returns-in_err-gap-clause-text g c =
    let p = err_from_is_err_and c.from_residual.result c.from_residual.ensures.1 in
    rw p.1 (fails_open _ _ (string_text c.args.first.now c.args.key.now c.args.text.now) (stopped Joined Joined _ _ _ [] (Named c.args.first.now ∷ []) (keyed c.args.key.now c.args.text.now) _ (done_none _ _) (c.in_err-gap.ensures.text (Named c.args.first.now) (refl, refl, refl)) refl))

pub returns-in_err-key_and_string-clause-text : goal.returns-in_err-key_and_string-clause-text
unfolding string_text
returns-in_err-key_and_string-clause-text g c =
    let p = err_from_is_err_and c.from_residual-in_err-key_and_string.result c.from_residual-in_err-key_and_string.ensures.1 in
    rw p.1 (fails_open _ _ (string_text c.args.first.now c.args.key.now c.args.text.now) (stopped _ _ _ _ _ (Named c.args.first.now ∷ []) (keyed c.args.key.now c.args.text.now) [] _ (c.in_ok-gap.ensures.text (Named c.args.first.now) (refl, refl, refl)) c.in_err-key_and_string.ensures.text refl))

pub returns-clause-text : goal.returns-clause-text
unfolding string_text
returns-clause-text g c =
    lays_closed _ _ _ _ _ _ _ (done_more _ _ _ _ _ _ (Named c.args.first.now ∷ []) (keyed c.args.key.now c.args.text.now) (c.in_ok-gap.ensures.text (Named c.args.first.now) (refl, refl, refl)) c.in_ok-key_and_string.ensures.text) (gains_of _ _ _ _ c.close.ensures.all c.close.ensures.part)
