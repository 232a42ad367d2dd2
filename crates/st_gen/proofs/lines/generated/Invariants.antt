use Rattle.std.proofs.Common.{◌≡◌}
use Rattle.st_gen.specs.Generated.{generated}
use Rattle.st_gen.proofs.lines.generated.Given as goal

-- the lines so far
abbrev pub invariant-loop-before : goal.invariant-loop-before
invariant-loop-before l = l.text.items ≡ generated l.seed l.before
