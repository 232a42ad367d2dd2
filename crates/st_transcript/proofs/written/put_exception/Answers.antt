use Rattle.st_transcript.proofs.Gaining.{gains_as}
use Rattle.st_transcript.proofs.written.put_exception.Goals as goal

pub returns-clause-text : goal.returns-clause-text
returns-clause-text g c = gains_as _ _ c.put_pieces.result _ _ c.exception_pieces-pieces.ensures.text c.put_pieces.ensures.text
