use Rattle.st_machine.proofs.Finding.{equal_is}
use Rattle.st_machine.proofs.machine.Machine.step_loop.Goals as goal

pub selector-requires : goal.selector-requires
selector-requires g c = equal_is
