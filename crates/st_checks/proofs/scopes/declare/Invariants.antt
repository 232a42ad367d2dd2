use Rattle.std.proofs.Common.{take}
use Rattle.st_checks.proofs.Variables.{SoFar}
use Rattle.st_checks.proofs.scopes.declare.Given as goal

abbrev pub invariant-loop-name : goal.invariant-loop-name
invariant-loop-name l = SoFar l.initial.variables l.variables (take l.name-index l.names) l.variable l.initial.repeated l.repeated
