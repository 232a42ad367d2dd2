use Rattle.std.proofs.Common.{false, arith}
use Rattle.st_numbers.proofs.Ranges.{multiple-is, integer-limit}
use Rattle.st_numbers.proofs.integers.answer_multiple.Goals as goal

pub returns-in-Some : goal.returns-in-Some
returns-in-Some c = rw (multiple-is c.args.size c.args.other, ← c.greatest_divisor.ensures.divisor, ← c.in-Some.ensures.1) c.answer_integer-in-Some.ensures

pub returns-in-None : goal.returns-in-None
returns-in-None c = rw (multiple-is c.args.size c.args.other, ← c.greatest_divisor.ensures.divisor) (integer-limit false _ (omega (arith, c.in-None.ensures)))
