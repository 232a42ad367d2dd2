use Rattle.std.proofs.Common.{◌∙◌, ◌+◌, ◌<◌, length, arith}
use Rattle.std.proofs.lemmas.List.{take_rest}
use Rattle.std.proofs.lemmas.Result.{err_from_is_err_and}
use Rattle.sif_chunks.proofs.WriterLemmas.{run_within, bang_within}
use Rattle.sif_export.proofs.PieceLemmas.{part_of_run, after_run, after_quote, part_of_quote, quote_at}
use Rattle.sif_export.proofs.pieces.inner_piece.Goals as goal

pub returns-in_err-piece-clause-text : goal.returns-in_err-piece-clause-text
returns-in_err-piece-clause-text g c =
    let p = err_from_is_err_and c.from_residual.result c.from_residual.ensures.1 in
    rw p.1 (part_of_run _ _ _ c.args.bytes.now c.loop-at.at c.run_of-run.result c.loop-at.invariant.written (rw take_rest at c.run_of-run.ensures.plain) (rw take_rest at c.in_err-piece.ensures.text))

pub returns-in_err-piece-2-clause-text : goal.returns-in_err-piece-2-clause-text
returns-in_err-piece-2-clause-text g c =
    let p = err_from_is_err_and c.from_residual-in_err-piece-2.result c.from_residual-in_err-piece-2.ensures.1 in
    let low = rw take_rest at c.if-run-rest.true in
    let run = after_run _ _ _ c.args.bytes.now c.loop-at.at c.run_of-run.result c.loop-at.invariant.written (rw take_rest at c.run_of-run.ensures.plain) (rw take_rest at c.in_ok-piece.ensures.text) in
    rw p.1 (part_of_quote _ _ _ c.args.bytes.now (c.loop-at.at + c.run_of-run.result) run (bang_within c.args.bytes.now c.loop-at.at c.run_of-run.result low) (quote_at c.args.bytes.now c.loop-at.at c.run_of-run.result low (rw take_rest at c.run_of-run.ensures.found)) c.in_err-piece-2.ensures.text)

pub loop-at-preserved-then-run-rest : goal.loop-at-preserved-then-run-rest
loop-at-preserved-then-run-rest g c =
    let low = rw take_rest at c.if-run-rest.true in
    let run = after_run _ _ _ c.args.bytes.now c.loop-at.at c.run_of-run.result c.loop-at.invariant.written (rw take_rest at c.run_of-run.ensures.plain) (rw take_rest at c.in_ok-piece.ensures.text) in
    let within : c.loop-at.at + c.run_of-run.result < length c.args.bytes.now = bang_within c.args.bytes.now c.loop-at.at c.run_of-run.result low in
    record {
      within = omega arith;
      written = after_quote _ _ _ c.args.bytes.now (c.loop-at.at + c.run_of-run.result) run within (quote_at c.args.bytes.now c.loop-at.at c.run_of-run.result low (rw take_rest at c.run_of-run.ensures.found)) c.in_ok-piece-2.ensures.text;
      faults = c.in_ok-piece-2.ensures.cause.kept ∙ c.in_ok-piece.ensures.cause.kept ∙ c.loop-at.invariant.faults;
    }

pub loop-at-preserved : goal.loop-at-preserved
loop-at-preserved g c = record {
  within = run_within c.args.bytes.now c.loop-at.at c.run_of-run.result c.loop-at.invariant.within (rw take_rest at c.run_of-run.ensures.within);
  written = after_run _ _ _ c.args.bytes.now c.loop-at.at c.run_of-run.result c.loop-at.invariant.written (rw take_rest at c.run_of-run.ensures.plain) (rw take_rest at c.in_ok-piece.ensures.text);
  faults = c.in_ok-piece.ensures.cause.kept ∙ c.loop-at.invariant.faults;
}
