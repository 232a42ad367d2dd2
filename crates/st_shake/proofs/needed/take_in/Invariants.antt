use Rattle.std.proofs.Common.{◌-◌, ◌^◌}
use Rattle.st_shake.proofs.Visiting.{Visited}
use Rattle.st_shake.proofs.needed.take_in.Given as goal

abbrev pub invariant-loop-number : goal.invariant-loop-number
invariant-loop-number l = Visited l.methods l.fn.names l.names l.number

abbrev pub decreases-loop-number : goal.decreases-loop-number
decreases-loop-number l = 2 ^ 32 - l.number
