use Rattle.std.proofs.Common.{◌≡◌}
use Rattle.st_parser.proofs.Steps.{body_read}
use Rattle.st_parser.proofs.trees.body_from.Goals as goal

pub returns : goal.returns
returns c = rw c.body_of.ensures (body_read (rw c.new-names.ensures at c.in_ok-temporaries.ensures.read) (rw c.new-done.ensures at c.in_ok-statements.ensures.read))
