use Rattle.std.proofs.Common.{◌++◌, ◌∷◌, [], refl, codes}
use Rattle.std.proofs.lemmas.Result.{err_from_is_err_and}
use Rattle.sif_export.specs.Words.{Joined, Named, Key, Symbol}
use Rattle.sif_export.specs.ExportText.{keyed, class_words, way_name, list_words}
use Rattle.sif_export.proofs.LaidLemmas.{done_none, done_more, lays_as, lays_more, stopped}
use Rattle.sif_export.proofs.Steps.{class_words-of}
use Rattle.sif_export.proofs.elements.class_words.Goals as goal

pub returns-in_err-gap-clause-text : goal.returns-in_err-gap-clause-text
returns-in_err-gap-clause-text g c =
    let u = c.args.class.now in
    let p = err_from_is_err_and c.from_residual.result c.from_residual.ensures.1 in
    rw p.1 (stopped Joined Joined _ _ _ [] (Named (codes "Class") ∷ []) (keyed (codes "named:") u.name ++ (keyed (codes "superclass:") u.superclass ++ (Key (codes "indexedInstanceVariables:") ∷ Symbol (way_name u.indexed) ∷ list_words u))) (class_words u) (done_none _ _) (c.in_err-gap.ensures.text (Named (codes "Class")) (refl, refl, refl)) refl)

pub returns-in_err-gap-2-clause-text : goal.returns-in_err-gap-2-clause-text
returns-in_err-gap-2-clause-text g c =
    let u = c.args.class.now in
    let p = err_from_is_err_and c.from_residual-in_err-gap-2.result c.from_residual-in_err-gap-2.ensures.1 in
    rw p.1 (stopped _ _ _ _ _ (Named (codes "Class") ∷ []) (keyed (codes "named:") c.as_bytes.result.now) (keyed (codes "superclass:") u.superclass ++ (Key (codes "indexedInstanceVariables:") ∷ Symbol (way_name u.indexed) ∷ list_words u)) _ (c.in_ok-gap.ensures.text (Named (codes "Class")) (refl, refl, refl)) c.in_err-gap-2.ensures.text (class_words-of u _ _ _ c.as_bytes.ensures refl refl))

pub returns-in_err-gap-3-clause-text : goal.returns-in_err-gap-3-clause-text
returns-in_err-gap-3-clause-text g c =
    let u = c.args.class.now in
    let p = err_from_is_err_and c.from_residual-in_err-gap-3.result c.from_residual-in_err-gap-3.ensures.1 in
    rw p.1 (stopped _ _ _ _ _ (Named (codes "Class") ∷ keyed (codes "named:") c.as_bytes.result.now) (keyed (codes "superclass:") c.as_bytes-2.result.now) (Key (codes "indexedInstanceVariables:") ∷ Symbol (way_name u.indexed) ∷ list_words u) _ (done_more _ _ _ _ _ _ (Named (codes "Class") ∷ []) (keyed (codes "named:") c.as_bytes.result.now) (c.in_ok-gap.ensures.text (Named (codes "Class")) (refl, refl, refl)) c.in_ok-gap-2.ensures.text) c.in_err-gap-3.ensures.text (class_words-of u _ _ _ c.as_bytes.ensures c.as_bytes-2.ensures refl))

pub returns-in_err-gap-4-clause-text : goal.returns-in_err-gap-4-clause-text
returns-in_err-gap-4-clause-text g c =
    let u = c.args.class.now in
    let p = err_from_is_err_and c.from_residual-in_err-gap-4.result c.from_residual-in_err-gap-4.ensures.1 in
    rw p.1 (stopped _ _ _ _ _ (Named (codes "Class") ∷ keyed (codes "named:") c.as_bytes.result.now ++ keyed (codes "superclass:") c.as_bytes-2.result.now) (Key (codes "indexedInstanceVariables:") ∷ []) (Symbol (way_name u.indexed) ∷ list_words u) _ (done_more _ _ _ _ _ _ (Named (codes "Class") ∷ keyed (codes "named:") c.as_bytes.result.now) (keyed (codes "superclass:") c.as_bytes-2.result.now) (done_more _ _ _ _ _ _ (Named (codes "Class") ∷ []) (keyed (codes "named:") c.as_bytes.result.now) (c.in_ok-gap.ensures.text (Named (codes "Class")) (refl, refl, refl)) c.in_ok-gap-2.ensures.text) c.in_ok-gap-3.ensures.text) (c.in_err-gap-4.ensures.text (Key (codes "indexedInstanceVariables:")) (refl, refl, refl)) (class_words-of u _ _ _ c.as_bytes.ensures c.as_bytes-2.ensures refl))

pub returns-in_err-gap-5-clause-text : goal.returns-in_err-gap-5-clause-text
returns-in_err-gap-5-clause-text g c =
    let u = c.args.class.now in
    let p = err_from_is_err_and c.from_residual-in_err-gap-5.result c.from_residual-in_err-gap-5.ensures.1 in
    rw p.1 (stopped _ _ _ _ _ (Named (codes "Class") ∷ keyed (codes "named:") c.as_bytes.result.now ++ (keyed (codes "superclass:") c.as_bytes-2.result.now ++ Key (codes "indexedInstanceVariables:") ∷ [])) (Symbol c.way_name.result.now ∷ []) (list_words u) _ (done_more _ _ _ _ _ _ (Named (codes "Class") ∷ keyed (codes "named:") c.as_bytes.result.now ++ keyed (codes "superclass:") c.as_bytes-2.result.now) (Key (codes "indexedInstanceVariables:") ∷ []) (done_more _ _ _ _ _ _ (Named (codes "Class") ∷ keyed (codes "named:") c.as_bytes.result.now) (keyed (codes "superclass:") c.as_bytes-2.result.now) (done_more _ _ _ _ _ _ (Named (codes "Class") ∷ []) (keyed (codes "named:") c.as_bytes.result.now) (c.in_ok-gap.ensures.text (Named (codes "Class")) (refl, refl, refl)) c.in_ok-gap-2.ensures.text) c.in_ok-gap-3.ensures.text) (c.in_ok-gap-4.ensures.text (Key (codes "indexedInstanceVariables:")) (refl, refl, refl))) c.in_err-gap-5.ensures.text (class_words-of u _ _ _ c.as_bytes.ensures c.as_bytes-2.ensures c.way_name.ensures))

pub returns-clause-text : goal.returns-clause-text
returns-clause-text g c =
    let u = c.args.class.now in
    lays_as _ _ _ _ _ _ (lays_more _ _ _ _ _ _ (Named (codes "Class") ∷ keyed (codes "named:") c.as_bytes.result.now ++ (keyed (codes "superclass:") c.as_bytes-2.result.now ++ Key (codes "indexedInstanceVariables:") ∷ Symbol c.way_name.result.now ∷ [])) (list_words u) (done_more _ _ _ _ _ _ (Named (codes "Class") ∷ keyed (codes "named:") c.as_bytes.result.now ++ (keyed (codes "superclass:") c.as_bytes-2.result.now ++ Key (codes "indexedInstanceVariables:") ∷ [])) (Symbol c.way_name.result.now ∷ []) (done_more _ _ _ _ _ _ (Named (codes "Class") ∷ keyed (codes "named:") c.as_bytes.result.now ++ keyed (codes "superclass:") c.as_bytes-2.result.now) (Key (codes "indexedInstanceVariables:") ∷ []) (done_more _ _ _ _ _ _ (Named (codes "Class") ∷ keyed (codes "named:") c.as_bytes.result.now) (keyed (codes "superclass:") c.as_bytes-2.result.now) (done_more _ _ _ _ _ _ (Named (codes "Class") ∷ []) (keyed (codes "named:") c.as_bytes.result.now) (c.in_ok-gap.ensures.text (Named (codes "Class")) (refl, refl, refl)) c.in_ok-gap-2.ensures.text) c.in_ok-gap-3.ensures.text) (c.in_ok-gap-4.ensures.text (Key (codes "indexedInstanceVariables:")) (refl, refl, refl))) c.in_ok-gap-5.ensures.text) c.lists.ensures.text) (class_words-of u _ _ _ c.as_bytes.ensures c.as_bytes-2.ensures c.way_name.ensures)
