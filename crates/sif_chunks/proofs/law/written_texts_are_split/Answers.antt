use Rattle.sif_chunks.proofs.WrittenLaw.{written-Split}
use Rattle.sif_chunks.proofs.law.written_texts_are_split.Goals as goal

pub returns : goal.returns
returns c = written-Split
