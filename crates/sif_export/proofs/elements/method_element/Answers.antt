use Rattle.std.proofs.Common.{◌++◌, [], ℕ, List, refl, ap, sym, append-nil}
use Rattle.std.proofs.lemmas.Result.{err_from_is_err_and}
use Rattle.sif_chunks.specs.Split.{doubled}
use Rattle.sif_chunks.specs.Writing.{closing}
use Rattle.sif_export.specs.Words.{Joined, Line, laid}
use Rattle.sif_export.specs.TreeWords.{pattern_words, top_words}
use Rattle.sif_export.specs.ExportText.{method_text}
use Rattle.sif_export.proofs.LaidLemmas.{fails_open}
use Rattle.sif_export.proofs.PieceLemmas.{started, fails_then, written_then, gains_of, gains_then}
use Rattle.sif_export.proofs.elements.method_element.Goals as goal

pub returns-in_err-pattern-clause-text : goal.returns-in_err-pattern-clause-text
unfolding method_text
returns-in_err-pattern-clause-text g c =
    let m = c.args.method.now in
    let p = err_from_is_err_and c.from_residual.result c.from_residual.ensures.1 in
    rw p.1 (fails_open _ _ (method_text m) (fails_then _ _ _ [] (laid Joined (pattern_words m)) (laid Line (top_words m.body)) (method_text m) (started _) c.in_err-pattern.ensures.text refl))

pub returns-in_err-top-clause-text : goal.returns-in_err-top-clause-text
unfolding method_text
returns-in_err-top-clause-text g c =
    let m = c.args.method.now in
    let p = err_from_is_err_and c.from_residual-in_err-top.result c.from_residual-in_err-top.ensures.1 in
    rw p.1 (fails_open _ _ (method_text m) (fails_then _ _ _ (laid Joined (pattern_words m)) (laid Line (top_words m.body)) [] (method_text m) c.in_ok-pattern.ensures.text.written c.in_err-top.ensures.text (ap (λ (ys : List ℕ). laid Joined (pattern_words m) ++ ys) (sym (append-nil (laid Line (top_words m.body)))))))

pub returns-clause-text : goal.returns-clause-text
unfolding method_text
returns-clause-text g c =
    let m = c.args.method.now in
    gains_then _ _ _ _ (doubled (method_text m)) closing (written_then _ _ _ (laid Joined (pattern_words m)) (laid Line (top_words m.body)) c.in_ok-pattern.ensures.text.written c.in_ok-top.ensures.text.written) (gains_of _ _ _ _ c.close.ensures.all c.close.ensures.part)
