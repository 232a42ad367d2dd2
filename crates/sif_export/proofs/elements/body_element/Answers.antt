use Rattle.std.proofs.Common.{ap}
use Rattle.std.proofs.lemmas.Result.{err_from_is_err_and}
use Rattle.sif_chunks.specs.Writing.{closed}
use Rattle.sif_export.specs.Words.{Joined, laid}
use Rattle.sif_export.specs.TreeWords.{top_words}
use Rattle.sif_export.proofs.LaidLemmas.{lays_closed, fails_open}
use Rattle.sif_export.proofs.PieceLemmas.{gains_of, gains_as}
use Rattle.sif_export.proofs.Steps.{body_text-empty, body_text-some}
use Rattle.sif_export.proofs.elements.body_element.Goals as goal

pub returns-then-is_empty-clause-text : goal.returns-then-is_empty-clause-text
returns-then-is_empty-clause-text g c = gains_as _ _ _ _ _ (gains_of _ _ _ _ c.put.ensures.all c.put.ensures.part) (ap closed (body_text-empty c.args.body.now c.if-is_empty.ensures))

pub returns-in_err-top-clause-text : goal.returns-in_err-top-clause-text
returns-in_err-top-clause-text g c =
    let p = err_from_is_err_and c.from_residual.result c.from_residual.ensures.1 in
    rw (p.1, body_text-some c.args.body.now c.if-is_empty.ensures) (fails_open _ _ (laid Joined (top_words c.args.body.now)) c.in_err-top.ensures.text)

pub returns-clause-text : goal.returns-clause-text
returns-clause-text g c =
    gains_as _ _ _ _ _ (lays_closed _ _ _ _ _ _ _ c.in_ok-top.ensures.text (gains_of _ _ _ _ c.close.ensures.all c.close.ensures.part)) (ap closed (body_text-some c.args.body.now c.if-is_empty.ensures))
