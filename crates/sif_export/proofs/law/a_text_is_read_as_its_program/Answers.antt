use Rattle.sif_export.proofs.RoundTripLaw.{reads_as, outcome}
use Rattle.sif_export.proofs.law.a_text_is_read_as_its_program.Goals as goal

pub returns : goal.returns
returns c = record { reads = reads_as; outcome = outcome }
