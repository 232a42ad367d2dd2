use Rattle.std.proofs.Common.{◌≡◌}
use Rattle.st_parser.proofs.NameSteps.{bar_behind_read, two_bars_behind_read, three_bars_behind_read, nothing_behind_read}
use Rattle.st_parser.proofs.names.behind_parameters.Goals as goal

pub returns-in_ok-temporaries-clause-read : goal.returns-in_ok-temporaries-clause-read
returns-in_ok-temporaries-clause-read c = λ e f n ns. bar_behind_read c.args.source.now c.args.tokens.now c.args.at.now (cc) (rw (f, c.advance.ensures) at c.in_ok-temporaries.ensures.read) n ns

pub returns-in_ok-between_bars-clause-read : goal.returns-in_ok-between_bars-clause-read
returns-in_ok-between_bars-clause-read c = λ e f n ns. two_bars_behind_read c.args.source.now c.args.tokens.now c.args.at.now (cc) (rw (f, c.advance-then-is_two_bars.ensures) at c.in_ok-between_bars.ensures.read) n ns

pub returns-then-is_three_bars-clause-read : goal.returns-then-is_three_bars-clause-read
returns-then-is_three_bars-clause-read c = λ e f n ns. rw (f, c.advance-then-is_three_bars.ensures) (three_bars_behind_read c.args.source.now c.args.tokens.now c.args.at.now (cc) n ns)

pub returns-else-is_three_bars-clause-read : goal.returns-else-is_three_bars-clause-read
returns-else-is_three_bars-clause-read c = λ e f n ns. rw f (nothing_behind_read c.args.source.now c.args.tokens.now c.args.at.now e (cc) (cc) (cc) n ns)
