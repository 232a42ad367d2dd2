use Rattle.sif_elements.proofs.Settling.{refusal_stays}
use Rattle.sif_elements.proofs.law.a_settled_refusal_stays.Goals as goal

pub returns : goal.returns
returns c = refusal_stays
