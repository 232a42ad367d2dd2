use Rattle.std.proofs.Common.{◌≡◌, drop}
use Rattle.st_machine.specs.Operands.{own_pushed}
use Rattle.st_machine.proofs.operands.push_own.Given as goal

abbrev pub invariant-loop-index : goal.invariant-loop-index
invariant-loop-index l = own_pushed (drop l.index l.captured) (drop l.index l.arguments) l.contexts ≡ own_pushed l.captured l.arguments l.fn.contexts
