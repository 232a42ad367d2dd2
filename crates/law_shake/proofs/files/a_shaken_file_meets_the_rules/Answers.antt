-- Why a shaken file meets the rules: Rules.antt.
use Rattle.law_shake.proofs.Rules.{shaken_meets}
use Rattle.law_shake.proofs.files.a_shaken_file_meets_the_rules.Goals as goal

pub returns : goal.returns
returns c = shaken_meets
