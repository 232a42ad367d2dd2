use Rattle.st_transcript.proofs.Gaining.{gains_of}
use Rattle.st_run.proofs.report.put.Goals as goal

pub returns-clause-text : goal.returns-clause-text
returns-clause-text g c = gains_of _ _ c.put_all.result _ c.put_all.ensures.all c.put_all.ensures.part
