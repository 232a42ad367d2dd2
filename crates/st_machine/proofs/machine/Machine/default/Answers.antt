use Rattle.st_machine.proofs.Finding.{default_action_is}
use Rattle.st_machine.proofs.machine.Machine.default.Goals as goal

pub selector-selector-requires : goal.selector-selector-requires
selector-selector-requires g c = default_action_is
