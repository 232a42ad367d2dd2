use Rattle.sif_export.proofs.Readable.{reads_readable}
use Rattle.sif_export.proofs.law.what_is_read_is_readable.Goals as goal

pub returns : goal.returns
returns c = reads_readable
