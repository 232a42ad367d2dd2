use Rattle.std.proofs.Common.{take}
use Rattle.st_checks.specs.NameSets.{HasClasses}
use Rattle.st_checks.proofs.classes.Classes.new.Given as goal

abbrev pub invariant-loop-unit : goal.invariant-loop-unit
invariant-loop-unit l = HasClasses (take l.unit-index l.units) l.by_name
