use Rattle.std.proofs.Common.{length}
use Rattle.sif_elements.proofs.filling.+fill.Given as goal

abbrev pub decreases-fill : goal.decreases-fill
decreases-fill l = length l.tokens.now
