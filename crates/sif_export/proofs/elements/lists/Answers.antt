use Rattle.std.proofs.Common.{◌++◌, [], refl, codes}
use Rattle.std.proofs.lemmas.Result.{err_from_is_err_and}
use Rattle.sif_export.specs.ExportText.{keyed, spaced}
use Rattle.sif_export.proofs.LaidLemmas.{done_none, done_then, lays_more, stopped, stopped_then}
use Rattle.sif_export.proofs.elements.lists.Goals as goal

pub returns-in_err-gap-clause-text : goal.returns-in_err-gap-clause-text
returns-in_err-gap-clause-text g c =
    let u = c.args.class.now in
    let p = err_from_is_err_and c.from_residual.result c.from_residual.ensures.1 in
    rw p.1 (stopped _ _ _ _ _ [] (keyed (codes "instanceVariableNames:") (spaced u.instance_names)) (keyed (codes "classVariableNames:") (spaced u.class_names) ++ (keyed (codes "sharedPools:") (spaced u.pools) ++ keyed (codes "classInstanceVariableNames:") (spaced u.class_instance_names))) _ (done_none _ _) c.in_err-gap.ensures.text refl)

pub returns-in_err-gap-2-clause-text : goal.returns-in_err-gap-2-clause-text
returns-in_err-gap-2-clause-text g c =
    let u = c.args.class.now in
    let p = err_from_is_err_and c.from_residual-in_err-gap-2.result c.from_residual-in_err-gap-2.ensures.1 in
    rw p.1 (stopped _ _ _ _ _ (keyed (codes "instanceVariableNames:") (spaced u.instance_names)) (keyed (codes "classVariableNames:") (spaced u.class_names)) (keyed (codes "sharedPools:") (spaced u.pools) ++ keyed (codes "classInstanceVariableNames:") (spaced u.class_instance_names)) _ c.in_ok-gap.ensures.text c.in_err-gap-2.ensures.text refl)

pub returns-in_err-gap-3-clause-text : goal.returns-in_err-gap-3-clause-text
returns-in_err-gap-3-clause-text g c =
    let u = c.args.class.now in
    let p = err_from_is_err_and c.from_residual-in_err-gap-3.result c.from_residual-in_err-gap-3.ensures.1 in
    rw p.1 (stopped_then _ _ _ _ _ _ _ (keyed (codes "instanceVariableNames:") (spaced u.instance_names)) (keyed (codes "classVariableNames:") (spaced u.class_names)) (keyed (codes "sharedPools:") (spaced u.pools)) (keyed (codes "classInstanceVariableNames:") (spaced u.class_instance_names)) _ c.in_ok-gap.ensures.text c.in_ok-gap-2.ensures.text c.in_err-gap-3.ensures.text refl)

pub returns-clause-text : goal.returns-clause-text
returns-clause-text g c =
    let u = c.args.class.now in
    lays_more _ _ _ _ _ _ (keyed (codes "instanceVariableNames:") (spaced u.instance_names) ++ (keyed (codes "classVariableNames:") (spaced u.class_names) ++ keyed (codes "sharedPools:") (spaced u.pools))) (keyed (codes "classInstanceVariableNames:") (spaced u.class_instance_names)) (done_then _ _ _ _ _ _ _ _ (keyed (codes "instanceVariableNames:") (spaced u.instance_names)) (keyed (codes "classVariableNames:") (spaced u.class_names)) (keyed (codes "sharedPools:") (spaced u.pools)) c.in_ok-gap.ensures.text c.in_ok-gap-2.ensures.text c.in_ok-gap-3.ensures.text) c.key_and_names-4.ensures.text
