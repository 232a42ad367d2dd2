use Rattle.std.proofs.Common.{◌-◌}
use Rattle.program_image.specs.Tables.{Searched}
use Rattle.program_image.proofs.table.place_of.Given as goal

abbrev pub invariant-loop-low : goal.invariant-loop-low
invariant-loop-low l = Searched l.entries l.key l.low l.high

abbrev pub decreases-loop-low : goal.decreases-loop-low
decreases-loop-low l = l.high - l.low
