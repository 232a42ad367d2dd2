use Rattle.std.proofs.Common.{take}
use Rattle.st_checks.specs.Keys.{IsTable}
use Rattle.st_checks.proofs.table.Table.new.Given as goal

abbrev pub invariant-loop-index : goal.invariant-loop-index
invariant-loop-index l = IsTable (take l.index l.units) l.first
