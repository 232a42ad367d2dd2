use Rattle.std.proofs.Common.{◌≡◌, ◌≤◌, ◌<◌, ◌-◌, length, refl, true, false, arith}
use Rattle.st_parser.specs.Reading.{rest, kind_at, next, is_operator}
use Rattle.st_parser.proofs.Rest.{less, ahead}
use Rattle.st_parser.proofs.ArraySteps.{negative_read, symbol_read}
use Rattle.st_parser.proofs.literal_arrays.operator_item.Goals as goal

pub returns-then-is_negative-clause-read : goal.returns-then-is_negative-clause-read
returns-then-is_negative-clause-read c = λ e. rw (c.advance-then-is_negative.ensures, c.negated_at-number.ensures, c.advance.ensures) (negative_read c.args.source.now c.args.tokens.now c.args.at.now e (cc))

pub returns-in_ok-symbol-clause-less : goal.returns-in_ok-symbol-clause-less
returns-in_ok-symbol-clause-less c = λ e. rw c.advance-else-is_negative.ensures (less c.args.tokens.now c.args.at.now is_operator refl e)

pub returns-in_ok-symbol-clause-read : goal.returns-in_ok-symbol-clause-read
returns-in_ok-symbol-clause-read c = λ e. rw (c.advance-else-is_negative.ensures, c.in_ok-symbol.ensures, c.text_at.ensures) (symbol_read c.args.source.now c.args.tokens.now c.args.at.now e (cc))
