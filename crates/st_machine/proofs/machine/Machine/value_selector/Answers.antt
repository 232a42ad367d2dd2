use Rattle.st_machine.proofs.Finding.{value_is, value_of_is, value_of_two_is}
use Rattle.st_machine.proofs.machine.Machine.value_selector.Goals as goal

pub selector-requires : goal.selector-requires
selector-requires g c = value_is

pub selector-requires-in-1 : goal.selector-requires-in-1
selector-requires-in-1 g c = value_of_is

pub selector-requires-in_default : goal.selector-requires-in_default
selector-requires-in_default g c = value_of_two_is
