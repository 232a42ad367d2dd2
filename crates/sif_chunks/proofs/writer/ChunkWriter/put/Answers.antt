use Rattle.std.proofs.Common.{[]}
use Rattle.std.proofs.lemmas.Result.{on_err_weaker}
use Rattle.sif_chunks.specs.Split.{doubled}
use Rattle.sif_chunks.specs.Writing.{closing}
use Rattle.sif_chunks.proofs.WriterLemmas.{on_err, gains_front, gains_behind}
use Rattle.sif_chunks.proofs.writer.ChunkWriter.put.Goals as goal

pub returns-in_err-piece-clause-part : goal.returns-in_err-piece-clause-part
returns-in_err-piece-clause-part g c =
    on_err c.from_residual.result _ (gains_front _ _ (doubled c.args.text.now) closing c.in_err-piece.ensures.part)

pub returns-clause-part : goal.returns-clause-part
returns-clause-part g c =
    on_err_weaker c.close.result (gains_behind _ _ _ (doubled c.args.text.now) closing [] c.in_ok-piece.ensures.all) c.close.ensures.part
