use Rattle.std.proofs.Common.{◌≡◌}
use Rattle.st_parser.proofs.NameSteps.{bar_read, two_bars_read, no_bars_read}
use Rattle.st_parser.proofs.names.temporaries.Goals as goal

pub returns-in_ok-between_bars-clause-read : goal.returns-in_ok-between_bars-clause-read
returns-in_ok-between_bars-clause-read c = bar_read c.args.source.now c.args.tokens.now c.args.at.now (cc) (rw c.advance.ensures at c.in_ok-between_bars.ensures.read)

pub returns-then-is_two_bars-clause-read : goal.returns-then-is_two_bars-clause-read
returns-then-is_two_bars-clause-read c = rw c.advance-then-is_two_bars.ensures (two_bars_read c.args.source.now c.args.tokens.now c.args.at.now (cc))

pub returns-else-is_two_bars-clause-read : goal.returns-else-is_two_bars-clause-read
returns-else-is_two_bars-clause-read c = no_bars_read c.args.source.now c.args.tokens.now c.args.at.now (cc) (cc)
