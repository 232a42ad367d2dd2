-- The words, the class and the text, then the end of the line.
use Rattle.std.proofs.Common.{◌++◌, codes, refl}
use Rattle.std.proofs.lemmas.Result.{err_from_is_err_and}
use Rattle.st_machine.specs.Plans.{program_in}
use Rattle.st_transcript.proofs.Gaining.{wrote_first, wrote_more, wrote_part, wrote_end}
use Rattle.st_transcript.specs.Unhandled.{unhandled_text}
use Rattle.st_run.proofs.report.put_exception.Goals as goal

pub returns-in_err-put-clause-text : goal.returns-in_err-put-clause-text
returns-in_err-put-clause-text g c =
    let p = err_from_is_err_and c.from_residual.result c.from_residual.ensures.1 in
    let text = unhandled_text (program_in c.args.machine.now.plan) c.args.machine.now.memory.store c.args.exception in
    rw p.1 (wrote_part (codes "stx: unhandled " ++ text ++ codes "\n") (codes "stx: unhandled ") (text ++ codes "\n") _ _ _ (wrote_first _ _ _ refl) c.in_err-put.ensures.text)

pub returns-in_err-put_unhandled-clause-text : goal.returns-in_err-put_unhandled-clause-text
returns-in_err-put_unhandled-clause-text g c =
    let p = err_from_is_err_and c.from_residual-in_err-put_unhandled.result c.from_residual-in_err-put_unhandled.ensures.1 in
    let text = unhandled_text (program_in c.args.machine.now.plan) c.args.machine.now.memory.store c.args.exception in
    let first = wrote_more (codes "stx: unhandled " ++ text ++ codes "\n") (codes "stx: unhandled ") (text ++ codes "\n") _ _ _ (wrote_first _ _ _ refl) c.in_ok-put.ensures.text in
    rw p.1 (wrote_part (codes "stx: unhandled " ++ text ++ codes "\n") text (codes "\n") _ _ _ first c.in_err-put_unhandled.ensures.text)

pub returns-clause-text : goal.returns-clause-text
returns-clause-text g c =
    let text = unhandled_text (program_in c.args.machine.now.plan) c.args.machine.now.memory.store c.args.exception in
    let first = wrote_more (codes "stx: unhandled " ++ text ++ codes "\n") (codes "stx: unhandled ") (text ++ codes "\n") _ _ _ (wrote_first _ _ _ refl) c.in_ok-put.ensures.text in
    wrote_end (codes "stx: unhandled " ++ text ++ codes "\n") (codes "\n") _ _ _ c.put-2.result (wrote_more (codes "stx: unhandled " ++ text ++ codes "\n") text (codes "\n") _ _ _ first c.in_ok-put_unhandled.ensures.text) c.put-2.ensures.text
