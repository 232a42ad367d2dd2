use Rattle.std.proofs.Common.{length}
use Rattle.unwind.proofs.Drops.{Drops}
use Rattle.unwind.proofs.unwound.unwind_to.Given as goal

abbrev pub invariant-loop-innermost : goal.invariant-loop-innermost
invariant-loop-innermost l = Drops l.target l.held l.initial.contexts l.contexts

abbrev pub decreases-loop-innermost : goal.decreases-loop-innermost
decreases-loop-innermost l = length l.contexts.acts
