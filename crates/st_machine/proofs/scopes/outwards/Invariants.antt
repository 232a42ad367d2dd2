use Rattle.std.proofs.Common.{◌≡◌}
use Rattle.st_rules.specs.State.{scope_up}
use Rattle.st_machine.proofs.scopes.outwards.Given as goal

abbrev pub invariant-loop-left : goal.invariant-loop-left
invariant-loop-left g l = scope_up (g.H.Heap.meaning l.heap).store l.left l.at ≡ scope_up (g.H.Heap.meaning l.heap).store l.up l.fn.scope

abbrev pub decreases-loop-left : goal.decreases-loop-left
decreases-loop-left g l = l.left
