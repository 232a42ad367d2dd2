-- Why a shaken file is readable: FileLaws.antt.
use Rattle.law_shake.proofs.FileLaws.{shaken_readable}
use Rattle.law_shake.proofs.files.a_shaken_file_is_readable.Goals as goal

pub returns : goal.returns
returns c = shaken_readable
