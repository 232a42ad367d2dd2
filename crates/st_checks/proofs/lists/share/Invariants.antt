use Rattle.std.proofs.Common.{◌≡◌, take, false}
use Rattle.st_checks.specs.Declarations.{share}
use Rattle.st_checks.proofs.lists.share.Given as goal

abbrev pub invariant-loop-name : goal.invariant-loop-name
invariant-loop-name l = share (take l.name-index l.names) l.set ≡ false
