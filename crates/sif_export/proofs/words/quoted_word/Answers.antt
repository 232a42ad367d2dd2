use Rattle.std.proofs.Common.{◌++◌, sym, append_assoc}
use Rattle.std.proofs.lemmas.Result.{err_from_is_err_and}
use Rattle.sif_export.specs.Words.{quoted, gap_bytes}
use Rattle.sif_export.proofs.LaidLemmas.{word_first_fails, word_last_fails, word_written}
use Rattle.sif_export.proofs.words.quoted_word.Goals as goal

pub returns-in_err-two_pieces-clause-text : goal.returns-in_err-two_pieces-clause-text
returns-in_err-two_pieces-clause-text g c w is =
    let p = err_from_is_err_and c.from_residual.result c.from_residual.ensures.1 in
    rw p.1 (word_first_fails c.args.gap _ _ w c.args.front.now (quoted c.args.text.now) (gap_bytes c.args.gap ++ c.args.front.now) (quoted c.args.text.now) is (rw c.bytes.ensures at c.in_err-two_pieces.ensures.text) (sym (append_assoc (gap_bytes c.args.gap) c.args.front.now (quoted c.args.text.now))))

pub returns-in_err-quoted_piece-clause-text : goal.returns-in_err-quoted_piece-clause-text
returns-in_err-quoted_piece-clause-text g c w is =
    let p = err_from_is_err_and c.from_residual-in_err-quoted_piece.result c.from_residual-in_err-quoted_piece.ensures.1 in
    rw p.1 (word_last_fails c.args.gap _ _ _ w c.args.front.now (quoted c.args.text.now) is (rw c.bytes.ensures at c.in_ok-two_pieces.ensures.text) c.in_err-quoted_piece.ensures.text)

pub returns-clause-text : goal.returns-clause-text
returns-clause-text g c w is = word_written c.args.gap _ _ _ w c.args.front.now (quoted c.args.text.now) is (rw c.bytes.ensures at c.in_ok-two_pieces.ensures.text) c.in_ok-quoted_piece.ensures.text
