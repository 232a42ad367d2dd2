use Rattle.std.proofs.Common.{◌++◌, [], ◌∷◌, refl, sym, append_assoc}
use Rattle.std.proofs.lemmas.Result.{err_from_is_err_and}
use Rattle.sif_export.specs.Words.{Str, gap_bytes, quotes_doubled}
use Rattle.sif_export.specs.ExportText.{spaced}
use Rattle.sif_export.proofs.LaidLemmas.{word_first_fails, word_middle_fails, word_third_fails, word_of_three}
use Rattle.sif_export.proofs.elements.names_word.Goals as goal

pub returns-in_err-two_pieces-clause-text : goal.returns-in_err-two_pieces-clause-text
returns-in_err-two_pieces-clause-text g c =
    let p = err_from_is_err_and c.from_residual.result c.from_residual.ensures.1 in
    rw p.1 (let inside = quotes_doubled (spaced c.args.names.now) in word_first_fails c.args.gap _ _ (Str (spaced c.args.names.now)) (39 ∷ []) (inside ++ 39 ∷ []) (gap_bytes c.args.gap ++ 39 ∷ []) (inside ++ 39 ∷ []) (refl, refl, refl) (rw c.bytes.ensures at c.in_err-two_pieces.ensures.text) (sym (append_assoc (gap_bytes c.args.gap) (39 ∷ []) (inside ++ 39 ∷ []))))

pub returns-in_err-spaced_names-clause-text : goal.returns-in_err-spaced_names-clause-text
returns-in_err-spaced_names-clause-text g c =
    let p = err_from_is_err_and c.from_residual-in_err-spaced_names.result c.from_residual-in_err-spaced_names.ensures.1 in
    rw p.1 (word_middle_fails c.args.gap _ _ _ (Str (spaced c.args.names.now)) (39 ∷ []) (quotes_doubled (spaced c.args.names.now)) (39 ∷ []) (refl, refl, refl) (rw c.bytes.ensures at c.in_ok-two_pieces.ensures.text) (rw c.as_slice.ensures at c.in_err-spaced_names.ensures.text))

pub returns-in_err-piece-clause-text : goal.returns-in_err-piece-clause-text
returns-in_err-piece-clause-text g c =
    let p = err_from_is_err_and c.from_residual-in_err-piece.result c.from_residual-in_err-piece.ensures.1 in
    rw p.1 (word_third_fails c.args.gap _ _ _ _ (Str (spaced c.args.names.now)) (39 ∷ []) (quotes_doubled (spaced c.args.names.now)) (39 ∷ []) (refl, refl, refl) (rw c.bytes.ensures at c.in_ok-two_pieces.ensures.text) (rw c.as_slice.ensures at c.in_ok-spaced_names.ensures.text) c.in_err-piece.ensures.text)

pub returns-clause-text : goal.returns-clause-text
returns-clause-text g c =
    word_of_three c.args.gap _ _ _ _ (Str (spaced c.args.names.now)) (39 ∷ []) (quotes_doubled (spaced c.args.names.now)) (39 ∷ []) (refl, refl, refl) (rw c.bytes.ensures at c.in_ok-two_pieces.ensures.text) (rw c.as_slice.ensures at c.in_ok-spaced_names.ensures.text) c.in_ok-piece.ensures.text
