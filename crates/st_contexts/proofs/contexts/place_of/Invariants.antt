use Rattle.std.proofs.Common.{◌-◌}
use Rattle.st_contexts.proofs.Finding.{Searched}
use Rattle.st_contexts.proofs.contexts.place_of.Given as goal

abbrev pub invariant-loop-low : goal.invariant-loop-low
invariant-loop-low l = Searched l.slots l.number l.low l.high

abbrev pub decreases-loop-low : goal.decreases-loop-low
decreases-loop-low l = l.high - l.low
