-- Why each turn comes to its end: the laws of FallingSteps.antt and EndingTurns.antt.
use Rattle.st_rules.proofs.turns_end.each_turn_comes_to_its_end.Goals as goal
use Rattle.st_rules.specs.Flat.{flat}
use Rattle.st_rules.specs.Scoped.{scoped}
use Rattle.st_rules.proofs.EndingTurns.{falls, turn_ends}

pub returns-clause-scoped_falls : goal.returns-clause-scoped_falls
returns-clause-scoped_falls c = λ p t h. falls (scoped p) p t h

pub returns-clause-scoped_ends : goal.returns-clause-scoped_ends
returns-clause-scoped_ends c = λ p t. turn_ends (scoped p) p t

pub returns-clause-flat_falls : goal.returns-clause-flat_falls
returns-clause-flat_falls c = λ p codes room t h. falls (flat p codes room) p t h

pub returns-clause-flat_ends : goal.returns-clause-flat_ends
returns-clause-flat_ends c = λ p codes room t. turn_ends (flat p codes room) p t
