use Rattle.st_messages.proofs.Sound.{ready_done}
use Rattle.st_messages.proofs.law.what_is_ready_is_done.Goals as goal

pub returns : goal.returns
returns c = ready_done
