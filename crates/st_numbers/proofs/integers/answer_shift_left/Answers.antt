use Rattle.std.proofs.Common.{arith}
use Rattle.st_numbers.proofs.Ranges.{shift-limit}
use Rattle.st_numbers.proofs.integers.answer_shift_left.Goals as goal

pub returns-then-places-ge128 : goal.returns-then-places-ge128
returns-then-places-ge128 c = shift-limit c.args.negative c.args.size c.args.places (omega arith) (omega arith)
