use Rattle.std.proofs.Common.{length}
use Rattle.st_checks.proofs.scopes.+innermost_meaning.Given as goal

abbrev pub decreases-innermost_meaning : goal.decreases-innermost_meaning
decreases-innermost_meaning l = length l.inward.now
