use Rattle.std.proofs.Common.{◌∙◌, ◌+◌, ◌<◌, length, arith}
use Rattle.std.proofs.lemmas.List.{take_rest}
use Rattle.sif_chunks.proofs.WriterLemmas.{on_err, part_of_run, after_run, after_bang, part_of_bang, bang_at, run_within, bang_within}
use Rattle.sif_chunks.proofs.writer.ChunkWriter.piece.Goals as goal

pub returns-in_err-put_all-clause-part : goal.returns-in_err-put_all-clause-part
returns-in_err-put_all-clause-part g c =
    on_err c.from_residual.result _ (part_of_run _ _ _ c.args.bytes.now c.loop-at.at c.run_of-run.result c.loop-at.invariant.written (rw take_rest at c.run_of-run.ensures.plain) (rw take_rest at c.in_err-put_all.ensures.part))

pub returns-in_err-put_all-2-clause-part : goal.returns-in_err-put_all-2-clause-part
returns-in_err-put_all-2-clause-part g c =
    let low = rw take_rest at c.if-run-rest.true in
    let run = after_run _ _ _ c.args.bytes.now c.loop-at.at c.run_of-run.result c.loop-at.invariant.written (rw take_rest at c.run_of-run.ensures.plain) (rw take_rest at c.in_ok-put_all.ensures.all) in
    on_err c.from_residual-in_err-put_all-2.result _ (part_of_bang _ _ _ c.args.bytes.now (c.loop-at.at + c.run_of-run.result) run (bang_within c.args.bytes.now c.loop-at.at c.run_of-run.result low) (bang_at c.args.bytes.now c.loop-at.at c.run_of-run.result low (rw take_rest at c.run_of-run.ensures.bang)) c.in_err-put_all-2.ensures.part)

pub loop-at-preserved-then-run-rest : goal.loop-at-preserved-then-run-rest
loop-at-preserved-then-run-rest g c =
    let low = rw take_rest at c.if-run-rest.true in
    let run = after_run _ _ _ c.args.bytes.now c.loop-at.at c.run_of-run.result c.loop-at.invariant.written (rw take_rest at c.run_of-run.ensures.plain) (rw take_rest at c.in_ok-put_all.ensures.all) in
    let within : c.loop-at.at + c.run_of-run.result < length c.args.bytes.now = bang_within c.args.bytes.now c.loop-at.at c.run_of-run.result low in
    record {
      within = omega arith;
      written = after_bang _ _ _ c.args.bytes.now (c.loop-at.at + c.run_of-run.result) run within (bang_at c.args.bytes.now c.loop-at.at c.run_of-run.result low (rw take_rest at c.run_of-run.ensures.bang)) c.in_ok-put_all-2.ensures.all;
      faults = c.in_ok-put_all-2.ensures.cause.kept ∙ c.in_ok-put_all.ensures.cause.kept ∙ c.loop-at.invariant.faults;
    }

pub loop-at-preserved : goal.loop-at-preserved
loop-at-preserved g c = record {
  within = run_within c.args.bytes.now c.loop-at.at c.run_of-run.result c.loop-at.invariant.within (rw take_rest at c.run_of-run.ensures.within);
  written = after_run _ _ _ c.args.bytes.now c.loop-at.at c.run_of-run.result c.loop-at.invariant.written (rw take_rest at c.run_of-run.ensures.plain) (rw take_rest at c.in_ok-put_all.ensures.all);
  faults = c.in_ok-put_all.ensures.cause.kept ∙ c.loop-at.invariant.faults;
}
