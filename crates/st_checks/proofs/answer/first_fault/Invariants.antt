use Rattle.std.proofs.Common.{◌≡◌, drop}
use Rattle.st_checks.specs.StaticRules.{first_break, first_break_from}
use Rattle.st_checks.proofs.answer.first_fault.Given as goal

abbrev pub invariant-loop-n : goal.invariant-loop-n
invariant-loop-n l = first_break l.definition.units ≡ first_break_from l.definition.units l.n (drop l.n l.definition.units)
