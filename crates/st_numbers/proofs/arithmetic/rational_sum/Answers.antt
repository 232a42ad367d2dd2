use Rattle.std.proofs.Common.{◌∙◌, ◌+ℤ◌}
use Rattle.st_numbers.proofs.Ranges.{sum-of-terms}
use Rattle.st_numbers.proofs.arithmetic.rational_sum.Goals as goal

pub returns-in-Some : goal.returns-in-Some
returns-in-Some c =
    let e = rw (c.ratio_of.ensures.numerator, c.ratio_of.ensures.denominator, c.ratio_of-2.ensures.numerator, c.ratio_of-2.ensures.denominator) at c.in-Some.ensures.terms in
    c.answer_sum.ensures ∙ sum-of-terms ◌+ℤ◌ c.args.x c.args.y c.in-Some.terms e
