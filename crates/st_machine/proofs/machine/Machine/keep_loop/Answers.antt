use Rattle.std.proofs.Common.{rules}
use Rattle.st_machine.proofs.LoopStates.{kept_same}
use Rattle.st_machine.proofs.machine.Machine.keep_loop.Goals as goal

pub returns : goal.returns
returns g c = rw (kept_same c.args.state) (search rules)
