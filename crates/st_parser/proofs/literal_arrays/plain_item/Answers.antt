use Rattle.std.proofs.Common.{◌≡◌, refl, true, false}
use Rattle.st_parser.specs.Reading.{rest, kind_at, next, is_array_end, is_inner_open}
use Rattle.st_parser.proofs.Rest.{less_not}
use Rattle.st_parser.proofs.ArraySteps.{single_read}
use Rattle.st_parser.proofs.literal_arrays.plain_item.Goals as goal

pub returns-in_ok-single-clause-less : goal.returns-in_ok-single-clause-less
returns-in_ok-single-clause-less c = λ e. rw c.advance.ensures (less_not c.args.tokens.now c.args.at.now is_array_end refl e)

pub returns-in_ok-single-clause-read : goal.returns-in_ok-single-clause-read
returns-in_ok-single-clause-read c = λ e f. rw (c.advance.ensures, c.in_ok-single.ensures) (single_read c.args.source.now c.args.tokens.now c.args.at.now (cc) (cc) e f)
