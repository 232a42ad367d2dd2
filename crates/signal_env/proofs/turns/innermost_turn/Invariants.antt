use Rattle.std.proofs.Common.{◌≡◌, drop}
use Rattle.signal_env.specs.Turns.{turn_in}
use Rattle.signal_env.proofs.turns.innermost_turn.Given as goal

abbrev pub invariant-loop-place : goal.invariant-loop-place
invariant-loop-place l = turn_in l.exception (drop l.place l.contexts.acts) ≡ turn_in l.exception l.contexts.acts
