use Rattle.std.proofs.Common.{◌≡◌, drop}
use Rattle.st_opening.specs.Opened.{are_counted}
use Rattle.st_opening.proofs.opened.are_counted.Given as goal

abbrev pub invariant-loop-name : goal.invariant-loop-name
invariant-loop-name l = are_counted (drop l.name l.names) ≡ are_counted l.names
