use Rattle.std.proofs.Common.{[], ◌∷◌, refl}
use Rattle.std.proofs.lemmas.Result.{err_from_is_err_and}
use Rattle.sif_export.specs.Words.{Key, Str}
use Rattle.sif_export.specs.ExportText.{spaced}
use Rattle.sif_export.proofs.LaidLemmas.{done_none, lays_more, stopped}
use Rattle.sif_export.proofs.elements.key_and_names.Goals as goal

pub returns-in_err-gap-clause-text : goal.returns-in_err-gap-clause-text
returns-in_err-gap-clause-text g c =
    let p = err_from_is_err_and c.from_residual.result c.from_residual.ensures.1 in
    rw p.1 (stopped _ _ _ _ _ [] (Key c.args.key.now ∷ []) (Str (spaced c.args.names.now) ∷ []) _ (done_none _ _) (c.in_err-gap.ensures.text (Key c.args.key.now) (refl, refl, refl)) refl)

pub returns-clause-text : goal.returns-clause-text
returns-clause-text g c =
    lays_more _ _ _ _ _ _ (Key c.args.key.now ∷ []) (Str (spaced c.args.names.now) ∷ []) (c.in_ok-gap.ensures.text (Key c.args.key.now) (refl, refl, refl)) c.names_word.ensures.text
