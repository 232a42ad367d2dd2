-- Values that a work passes on, where there is room for them.
use Rattle.std.specs.Prelude.{List, Bool, length, nat_le, if◌then◌else◌}
use Rattle.object_heap.specs.declared.value.Value.{Value}
use Rattle.st_machine.specs.declared.work.Ending.TheVariants as ending
use Rattle.st_machine.specs.Seen.{Passed, Seen, with_passed, passing}
use Rattle.st_machine.specs.Settling.{ended}

abbrev pub fits_in : List Value → Passed → Bool
fits_in values p = nat_le (length values) p.room

abbrev pub put_on : List Value → Passed → Passed
put_on values p = if fits_in values p then passing values p else p

abbrev pub passing_on : List Value → (Seen → Seen) → Seen → Seen
passing_on values next s = if fits_in values s.passed then next (with_passed s (passing values s.passed)) else ended ending.Stranded s
