use Rattle.st_shake.specs.Needed.{always_needed}
use Rattle.st_shake.proofs.needed.need_always.Goals as goal

pub returns : goal.returns
unfolding always_needed
returns c = c.need_each.ensures
