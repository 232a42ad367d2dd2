use Rattle.sif_elements.proofs.SmallReading.{read_is_small}
use Rattle.sif_elements.proofs.law.each_file_is_small.Goals as goal

pub returns : goal.returns
returns c = read_is_small
