use Rattle.st_machine.proofs.Finding.{is_resumable_is}
use Rattle.st_machine.proofs.machine.Machine.ask.Goals as goal

pub selector-selector-requires : goal.selector-selector-requires
selector-selector-requires g c = is_resumable_is
