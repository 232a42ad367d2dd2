use Rattle.std.proofs.Common.{◌≡◌}
use Rattle.st_parser.proofs.Steps.{array_read, single_read}
use Rattle.st_parser.proofs.read.plain.Goals as goal

pub returns-in_ok-items-clause-read : goal.returns-in_ok-items-clause-read
returns-in_ok-items-clause-read c = λ e f. array_read c.args.source.now c.args.tokens.now c.args.at.now (cc) (rw c.advance.ensures at c.in_ok-items.ensures.read)

pub returns-in_ok-single-clause-read : goal.returns-in_ok-single-clause-read
returns-in_ok-single-clause-read c = λ e f. rw (c.advance-else-is_operator.ensures, c.in_ok-single.ensures) (single_read c.args.source.now c.args.tokens.now c.args.at.now e f (cc) (cc))
