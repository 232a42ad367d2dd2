use Rattle.st_compiler.proofs.Mentioned.{Gathering}
use Rattle.st_compiler.proofs.names.Mentions.set.Given as goal

abbrev pub invariant-loop-name : goal.invariant-loop-name
invariant-loop-name l = Gathering l.set l.name-items l.name-index
