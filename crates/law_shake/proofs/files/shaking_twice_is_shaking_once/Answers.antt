-- Why shaking twice is shaking once: FileLaws.antt.
use Rattle.law_shake.proofs.FileLaws.{shaken_twice}
use Rattle.law_shake.proofs.files.shaking_twice_is_shaking_once.Goals as goal

pub returns : goal.returns
returns c = shaken_twice
