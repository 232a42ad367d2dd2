use Rattle.sif_export.proofs.CanonicalLaw.{canonical}
use Rattle.sif_export.proofs.law.texts_are_canonical.Goals as goal

pub returns : goal.returns
returns c = canonical
