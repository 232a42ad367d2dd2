use Rattle.st_machine.proofs.Finding.{handles_is}
use Rattle.st_machine.proofs.machine.Machine.inquire.Goals as goal

pub selector-requires : goal.selector-requires
selector-requires g c = handles_is
