-- Why only needed symbols stand: RunLaws.antt.
use Rattle.law_shake.proofs.RunLaws.{only_needed}
use Rattle.law_shake.proofs.runs.only_needed_symbols_stand.Goals as goal

pub returns : goal.returns
returns c = only_needed
