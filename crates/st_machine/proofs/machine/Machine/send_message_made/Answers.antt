use Rattle.st_machine.proofs.Finding.{not_understood_is}
use Rattle.st_machine.proofs.machine.Machine.send_message_made.Goals as goal

pub selector-requires : goal.selector-requires
selector-requires g c = not_understood_is
