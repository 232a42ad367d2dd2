use Rattle.std.proofs.Common.{◌≡◌, ◌++◌, take}
use Rattle.st_compiler.proofs.around.share_all.Given as goal

abbrev pub invariant-loop-scope : goal.invariant-loop-scope
invariant-loop-scope l = l.scopes.items ≡ l.fn.scopes.items ++ take l.scope-index l.outer
