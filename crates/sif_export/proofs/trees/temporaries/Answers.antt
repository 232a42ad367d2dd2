use Rattle.std.proofs.Common.{◌++◌, refl, ap, sym, ◌∷◌, [], true≢false}
use Rattle.std.proofs.lemmas.Result.{err_from_is_err_and}
use Rattle.sif_export.specs.Words.{Mark}
use Rattle.sif_export.specs.declared.sign.Sign.TheVariants as sign
use Rattle.sif_export.specs.TreeWords.{temporary_words, named_words}
use Rattle.sif_export.proofs.LaidLemmas.{done_none, done_more, done_as, lays_as, lays_more, stopped}
use Rattle.sif_export.proofs.Steps.{temporaries_of}
use Rattle.sif_export.proofs.trees.temporaries.Goals as goal

pub returns-then-is_empty-clause-text : goal.returns-then-is_empty-clause-text
returns-then-is_empty-clause-text g c = done_as _ _ _ _ _ _ (done_none _ _) (ap (temporary_words c.args.bar) (c.if-is_empty.ensures.0 refl))

pub returns-in_err-gap-clause-text : goal.returns-in_err-gap-clause-text
returns-in_err-gap-clause-text g c =
    let p = err_from_is_err_and c.from_residual.result c.from_residual.ensures.1 in
    rw p.1 (stopped _ _ _ _ _ [] (Mark sign.Bar ∷ []) (named_words c.args.names.now ++ Mark c.args.bar ∷ []) _ (done_none _ _) c.in_err-gap.ensures.text (temporaries_of c.args.bar c.args.names.now (λ e. true≢false (sym (c.if-is_empty.ensures.1 e)))))

pub returns-in_err-gap-2-clause-text : goal.returns-in_err-gap-2-clause-text
returns-in_err-gap-2-clause-text g c =
    let p = err_from_is_err_and c.from_residual-in_err-gap-2.result c.from_residual-in_err-gap-2.ensures.1 in
    rw p.1 (stopped _ _ _ _ _ (Mark sign.Bar ∷ []) (named_words c.args.names.now) (Mark c.args.bar ∷ []) _ c.in_ok-gap.ensures.text c.in_err-gap-2.ensures.text (temporaries_of c.args.bar c.args.names.now (λ e. true≢false (sym (c.if-is_empty.ensures.1 e)))))

pub returns-clause-text : goal.returns-clause-text
returns-clause-text g c = lays_as _ _ _ _ _ _ (lays_more _ _ _ _ _ _ (Mark sign.Bar ∷ named_words c.args.names.now) (Mark c.args.bar ∷ []) (done_more _ _ _ _ _ _ (Mark sign.Bar ∷ []) (named_words c.args.names.now) c.in_ok-gap.ensures.text c.in_ok-gap-2.ensures.text) c.mark-2.ensures.text) (temporaries_of c.args.bar c.args.names.now (λ e. true≢false (sym (c.if-is_empty.ensures.1 e))))
