use Rattle.std.proofs.Common.{◌≡◌, drop}
use Rattle.signal_env.specs.Turns.{live_in}
use Rattle.signal_env.proofs.turns.is_live.Given as goal

abbrev pub invariant-loop-place : goal.invariant-loop-place
invariant-loop-place l = live_in l.exception (drop l.place l.contexts.acts) ≡ live_in l.exception l.contexts.acts
