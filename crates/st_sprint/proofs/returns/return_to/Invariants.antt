use Rattle.std.specs.Prelude.{◌≡◌}
use Rattle.st_contexts.specs.declared.outcome.Outcome.TheVariants.{Go}
use Rattle.st_contexts.specs.declared.outcome.Target.TheVariants.{Home}
use Rattle.st_machine.specs.declared.work.Mode.TheVariants.{Run}
use Rattle.st_machine.specs.Opening.{settling}
use Rattle.st_sprint.specs.Sprinting.{SameRun}
use Rattle.st_sprint.proofs.returns.return_to.Given as goal

-- what is left leads to where all leads, and the mode stands aside
abbrev pub invariant-loop-left : goal.invariant-loop-left
invariant-loop-left g l = (l.machine.mode ≡ Run) × SameRun l.fn.budget.steps l.fn.budget.turns (settling (Go (Home l.fn.home) l.fn.value) l.fn.machine) l.left.steps l.left.turns (settling (Go (Home l.fn.home) l.fn.value) l.machine)

abbrev pub decreases-loop-left : goal.decreases-loop-left
decreases-loop-left g l = l.left.steps
