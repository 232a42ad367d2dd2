use Rattle.std.proofs.Common.{refl}
use Rattle.st_code.specs.Definitions.{program_of}
use Rattle.st_machine.proofs.loaded.Loaded.step_limit.Goals as goal

pub returns : goal.returns
unfolding program_of
returns c = rw (← c.self.view_is) refl
