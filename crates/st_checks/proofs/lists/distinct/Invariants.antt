use Rattle.std.proofs.Common.{◌≡◌, take, false}
use Rattle.st_checks.specs.Declarations.{repeats}
use Rattle.st_checks.proofs.lists.distinct.Given as goal

abbrev pub invariant-loop-name : goal.invariant-loop-name
invariant-loop-name l = (l.set ≡ take l.name-index l.names) × (repeats (take l.name-index l.names) ≡ false)
