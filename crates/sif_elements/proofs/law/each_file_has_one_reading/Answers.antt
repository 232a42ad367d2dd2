use Rattle.sif_elements.proofs.Only.{reads, refuses}
use Rattle.sif_elements.proofs.law.each_file_has_one_reading.Goals as goal

pub returns : goal.returns
returns c = record { reads = reads; refuses = refuses }
