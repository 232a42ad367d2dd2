use Rattle.st_machine.proofs.Follows.{follows}
use Rattle.st_machine.proofs.law.a_step_follows_the_flat_machine.Goals as goal

pub returns : goal.returns
returns c = follows
