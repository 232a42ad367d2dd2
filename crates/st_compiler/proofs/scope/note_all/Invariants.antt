use Rattle.st_compiler.proofs.Scopes.{Noting}
use Rattle.st_compiler.proofs.scope.note_all.Given as goal

abbrev pub invariant-loop-name : goal.invariant-loop-name
invariant-loop-name l = Noting l.initial.places l.places l.names l.first l.place l.name-index
