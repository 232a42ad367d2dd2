-- The word, then the digits.
use Rattle.std.proofs.Common.{◌++◌, decimal, refl}
use Rattle.std.proofs.lemmas.Result.{err_from_is_err_and}
use Rattle.st_transcript.proofs.Gaining.{wrote_first, wrote_more, wrote_part, wrote_end}
use Rattle.st_run.proofs.report.put_number.Goals as goal

pub returns-in_err-put-clause-text : goal.returns-in_err-put-clause-text
returns-in_err-put-clause-text g c =
    let p = err_from_is_err_and c.from_residual.result c.from_residual.ensures.1 in
    rw p.1 (wrote_part (c.args.word.now ++ decimal c.args.number) c.args.word.now (decimal c.args.number) _ _ _ (wrote_first _ _ _ refl) c.in_err-put.ensures.text)

pub returns-clause-text : goal.returns-clause-text
returns-clause-text g c =
    wrote_end (c.args.word.now ++ decimal c.args.number) (decimal c.args.number) _ _ _ c.put_decimal.result (wrote_more (c.args.word.now ++ decimal c.args.number) c.args.word.now (decimal c.args.number) _ _ _ (wrote_first _ _ _ refl) c.in_ok-put.ensures.text) c.put_decimal.ensures.text
