use Rattle.std.proofs.Common.{◌≡◌}
use Rattle.st_parser.proofs.NameSteps.{names_close}
use Rattle.st_parser.proofs.names.between_bars.Goals as goal

pub returns-clause-read : goal.returns-clause-read
returns-clause-read c = rw c.advance.ensures (names_close c.args.source.now c.args.tokens.now c.names.new.at c.in_ok-names.ensures.stops c.in_ok-names.ensures.read)
