-- The statistics, then the line of the ending.
use Rattle.std.proofs.lemmas.Result.{err_from_is_err_and}
use Rattle.st_machine.specs.Meaning.{ending_of}
use Rattle.st_machine.specs.Plans.{program_in}
use Rattle.st_transcript.proofs.Gaining.{wrote_first, wrote_more, wrote_part, wrote_end}
use Rattle.st_run.specs.Reports.{stats_if, ending_line}
use Rattle.st_run.specs.Told.{ending_report}
use Rattle.st_run.proofs.RunLemmas.{report_pieces}
use Rattle.st_run.proofs.running.put_report.Goals as goal

pub returns-in_err-put_stats_if-clause-text : goal.returns-in_err-put_stats_if-clause-text
returns-in_err-put_stats_if-clause-text g c =
    let p = err_from_is_err_and c.from_residual.result c.from_residual.ensures.1 in
    let s = c.args.machine.now in
    let stats = stats_if c.args.command.stats s.steps s.deepest s.memory.used s.instructions in
    let line = ending_line (program_in s.plan) c.args.command.limits s.memory.store (ending_of c.args.ending) in
    rw p.1 (wrote_part (ending_report c.args.command s c.args.ending) stats line _ _ _ (wrote_first _ _ _ (report_pieces c.args.command s c.args.ending)) c.in_err-put_stats_if.ensures.text)

pub returns-clause-text : goal.returns-clause-text
returns-clause-text g c =
    let s = c.args.machine.now in
    let stats = stats_if c.args.command.stats s.steps s.deepest s.memory.used s.instructions in
    let line = ending_line (program_in s.plan) c.args.command.limits s.memory.store (ending_of c.args.ending) in
    wrote_end (ending_report c.args.command s c.args.ending) line _ _ _ c.put_ending.result (wrote_more (ending_report c.args.command s c.args.ending) stats line _ _ _ (wrote_first _ _ _ (report_pieces c.args.command s c.args.ending)) c.in_ok-put_stats_if.ensures.text) c.put_ending.ensures.text
