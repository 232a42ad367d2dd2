use Rattle.std.proofs.Common.{◌≡◌}
use Rattle.st_parser.proofs.NameSteps.{head_read}
use Rattle.st_parser.proofs.names.head.Goals as goal

pub returns-clause-read : goal.returns-clause-read
returns-clause-read c = head_read (rw c.new-names.ensures at c.in_ok-parameters.ensures.read) (c.in_ok-temporaries.ensures.read c.in_ok-parameters.ensures.stops)
