-- The word with the number, then the end of the line.
use Rattle.std.proofs.Common.{◌++◌, codes, decimal, refl}
use Rattle.std.proofs.lemmas.Result.{err_from_is_err_and}
use Rattle.st_transcript.proofs.Gaining.{wrote_first, wrote_more, wrote_part, wrote_end}
use Rattle.st_run.specs.Reports.{limit_line}
use Rattle.st_run.proofs.report.put_limit.Goals as goal

pub returns-in_err-put_number-clause-text : goal.returns-in_err-put_number-clause-text
returns-in_err-put_number-clause-text g c =
    let p = err_from_is_err_and c.from_residual.result c.from_residual.ensures.1 in
    let first = c.args.word.now ++ decimal c.args.number in
    rw p.1 (wrote_part (limit_line c.args.word.now c.args.number) first (codes "\n") _ _ _ (wrote_first _ _ _ refl) c.in_err-put_number.ensures.text)

pub returns-clause-text : goal.returns-clause-text
returns-clause-text g c =
    let first = c.args.word.now ++ decimal c.args.number in
    wrote_end (limit_line c.args.word.now c.args.number) (codes "\n") _ _ _ c.put.result (wrote_more (limit_line c.args.word.now c.args.number) first (codes "\n") _ _ _ (wrote_first _ _ _ refl) c.in_ok-put_number.ensures.text) c.put.ensures.text
