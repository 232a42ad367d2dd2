use Rattle.std.proofs.Common.{◌++◌, [], ◌∷◌, refl, sym, append_assoc}
use Rattle.std.proofs.lemmas.Result.{err_from_is_err_and}
use Rattle.sif_export.specs.Words.{Remark, gap_bytes}
use Rattle.sif_export.proofs.LaidLemmas.{word_first_fails, word_last_fails, word_written}
use Rattle.sif_export.proofs.words.remark.Goals as goal

pub returns-in_err-two_pieces-clause-text : goal.returns-in_err-two_pieces-clause-text
returns-in_err-two_pieces-clause-text g c =
    let p = err_from_is_err_and c.from_residual.result c.from_residual.ensures.1 in
    rw p.1 (word_first_fails c.args.gap _ _ (Remark c.args.text.now) (34 ∷ []) (c.args.text.now ++ 34 ∷ []) (gap_bytes c.args.gap ++ 34 ∷ []) (c.args.text.now ++ 34 ∷ []) (refl, refl, refl) (rw c.bytes.ensures at c.in_err-two_pieces.ensures.text) (sym (append_assoc (gap_bytes c.args.gap) (34 ∷ []) (c.args.text.now ++ 34 ∷ []))))

pub returns-in_err-two_pieces-2-clause-text : goal.returns-in_err-two_pieces-2-clause-text
returns-in_err-two_pieces-2-clause-text g c =
    let p = err_from_is_err_and c.from_residual-in_err-two_pieces-2.result c.from_residual-in_err-two_pieces-2.ensures.1 in
    rw p.1 (word_last_fails c.args.gap _ _ _ (Remark c.args.text.now) (34 ∷ []) (c.args.text.now ++ 34 ∷ []) (refl, refl, refl) (rw c.bytes.ensures at c.in_ok-two_pieces.ensures.text) c.in_err-two_pieces-2.ensures.text)

pub returns-clause-text : goal.returns-clause-text
returns-clause-text g c =
    word_written c.args.gap _ _ _ (Remark c.args.text.now) (34 ∷ []) (c.args.text.now ++ 34 ∷ []) (refl, refl, refl) (rw c.bytes.ensures at c.in_ok-two_pieces.ensures.text) c.in_ok-two_pieces-2.ensures.text
