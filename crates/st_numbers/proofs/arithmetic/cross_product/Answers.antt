use Rattle.std.proofs.Common.{◌*◌, ◌/◌, arith}
use Rattle.st_numbers.specs.Numbers.{signed}
use Rattle.st_numbers.proofs.Ranges.{top-limit, bottom-limit, product-crosswise}
use Rattle.st_numbers.proofs.arithmetic.cross_product.Goals as goal

pub returns-in_default : goal.returns-in_default
returns-in_default c = rw (product-crosswise c.args.negative c.args.a c.args.b c.args.c c.args.d c.requires.first c.requires.second c.requires.below c.requires.below_too, ← c.greatest_divisor-outer.ensures.divisor, ← c.greatest_divisor-inner.ensures.divisor) (top-limit c.args.negative (c.args.a / c.greatest_divisor-outer.result * (c.args.c / c.greatest_divisor-inner.result)) _ (omega (arith, c.in_default.ensures)))

pub returns-in_default-checked_mul : goal.returns-in_default-checked_mul
returns-in_default-checked_mul c = rw (product-crosswise c.args.negative c.args.a c.args.b c.args.c c.args.d c.requires.first c.requires.second c.requires.below c.requires.below_too, ← c.greatest_divisor-outer.ensures.divisor, ← c.greatest_divisor-inner.ensures.divisor) (bottom-limit (signed c.args.negative (c.args.a / c.greatest_divisor-outer.result * (c.args.c / c.greatest_divisor-inner.result))) (c.args.b / c.greatest_divisor-inner.result * (c.args.d / c.greatest_divisor-outer.result)) (omega (arith, c.in_default-checked_mul.ensures)))

pub returns : goal.returns
returns c = rw (product-crosswise c.args.negative c.args.a c.args.b c.args.c c.args.d c.requires.first c.requires.second c.requires.below c.requires.below_too, ← c.greatest_divisor-outer.ensures.divisor, ← c.greatest_divisor-inner.ensures.divisor, ← c.in-Some.ensures.1, ← c.in-Some-checked_mul.ensures.1) c.answer_ratio.ensures
