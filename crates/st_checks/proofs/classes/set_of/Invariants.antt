use Rattle.std.proofs.Common.{take}
use Rattle.st_checks.specs.NameSets.{IsSetOf}
use Rattle.st_checks.proofs.classes.set_of.Given as goal

abbrev pub invariant-loop-name : goal.invariant-loop-name
invariant-loop-name l = IsSetOf (take l.name-index l.names) l.all
