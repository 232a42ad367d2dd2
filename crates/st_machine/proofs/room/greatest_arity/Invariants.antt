use Rattle.std.proofs.Common.{◌≡◌, ◌-◌, ◌^◌, drop, max, min}
use Rattle.st_machine.specs.Plans.{greatest_arity}
use Rattle.st_machine.proofs.room.greatest_arity.Given as goal

abbrev pub invariant-loop-name : goal.invariant-loop-name
invariant-loop-name l = max l.most (min (greatest_arity (drop l.name l.names)) (2 ^ 32 - 1)) ≡ min (greatest_arity l.names) (2 ^ 32 - 1)
