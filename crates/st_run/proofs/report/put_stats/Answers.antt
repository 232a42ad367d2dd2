-- The four words with their numbers.
use Rattle.std.proofs.Common.{◌++◌, codes}
use Rattle.std.proofs.lemmas.Result.{err_from_is_err_and}
use Rattle.st_transcript.proofs.Gaining.{wrote_first, wrote_more, wrote_part, wrote_end}
use Rattle.st_run.specs.Reports.{stats_line, limit_line}
use Rattle.st_run.proofs.StatsLemmas.{steps_piece, depth_piece, cells_piece, stats_pieces}
use Rattle.st_run.proofs.report.put_stats.Goals as goal

pub returns-in_err-put_number-clause-text : goal.returns-in_err-put_number-clause-text
returns-in_err-put_number-clause-text g c =
    let p = err_from_is_err_and c.from_residual.result c.from_residual.ensures.1 in
    let s = c.args.stats in
    let last = limit_line (codes " instructions ") s.instructions in
    rw p.1 (wrote_part (stats_line s.steps s.depth s.cells s.instructions) (steps_piece s.steps) (depth_piece s.depth ++ (cells_piece s.cells ++ last)) _ _ _ (wrote_first _ _ _ (stats_pieces s.steps s.depth s.cells s.instructions)) c.in_err-put_number.ensures.text)

pub returns-in_err-put_number-2-clause-text : goal.returns-in_err-put_number-2-clause-text
returns-in_err-put_number-2-clause-text g c =
    let p = err_from_is_err_and c.from_residual-in_err-put_number-2.result c.from_residual-in_err-put_number-2.ensures.1 in
    let s = c.args.stats in
    let last = limit_line (codes " instructions ") s.instructions in
    let total = stats_line s.steps s.depth s.cells s.instructions in
    let first = wrote_more total (steps_piece s.steps) (depth_piece s.depth ++ (cells_piece s.cells ++ last)) _ _ _ (wrote_first _ _ _ (stats_pieces s.steps s.depth s.cells s.instructions)) c.in_ok-put_number.ensures.text in
    rw p.1 (wrote_part total (depth_piece s.depth) (cells_piece s.cells ++ last) _ _ _ first (rw c.from.ensures at c.in_err-put_number-2.ensures.text))

pub returns-in_err-put_number-3-clause-text : goal.returns-in_err-put_number-3-clause-text
returns-in_err-put_number-3-clause-text g c =
    let p = err_from_is_err_and c.from_residual-in_err-put_number-3.result c.from_residual-in_err-put_number-3.ensures.1 in
    let s = c.args.stats in
    let last = limit_line (codes " instructions ") s.instructions in
    let total = stats_line s.steps s.depth s.cells s.instructions in
    let first = wrote_more total (steps_piece s.steps) (depth_piece s.depth ++ (cells_piece s.cells ++ last)) _ _ _ (wrote_first _ _ _ (stats_pieces s.steps s.depth s.cells s.instructions)) c.in_ok-put_number.ensures.text in
    let second = wrote_more total (depth_piece s.depth) (cells_piece s.cells ++ last) _ _ _ first (rw c.from.ensures at c.in_ok-put_number-2.ensures.text) in
    rw p.1 (wrote_part total (cells_piece s.cells) last _ _ _ second (rw c.from-2.ensures at c.in_err-put_number-3.ensures.text))

pub returns-clause-text : goal.returns-clause-text
returns-clause-text g c =
    let s = c.args.stats in
    let last = limit_line (codes " instructions ") s.instructions in
    let total = stats_line s.steps s.depth s.cells s.instructions in
    let first = wrote_more total (steps_piece s.steps) (depth_piece s.depth ++ (cells_piece s.cells ++ last)) _ _ _ (wrote_first _ _ _ (stats_pieces s.steps s.depth s.cells s.instructions)) c.in_ok-put_number.ensures.text in
    let second = wrote_more total (depth_piece s.depth) (cells_piece s.cells ++ last) _ _ _ first (rw c.from.ensures at c.in_ok-put_number-2.ensures.text) in
    wrote_end total last _ _ _ c.put_limit.result (wrote_more total (cells_piece s.cells) last _ _ _ second (rw c.from-2.ensures at c.in_ok-put_number-3.ensures.text)) c.put_limit.ensures.text
