use Rattle.st_numbers.proofs.GcdLaws.{gcd-one_right}
use Rattle.st_numbers.proofs.answer.ratio_of.Goals as goal

pub returns-in-Integer-clause-reduced : goal.returns-in-Integer-clause-reduced
returns-in-Integer-clause-reduced c = gcd-one_right _
