use Rattle.st_compiler.proofs.placing.+scoped.Given as goal

abbrev pub decreases-scoped : goal.decreases-scoped
decreases-scoped l = l.up
