use Rattle.std.proofs.Common.{sym, ◌∙◌, ◌-ℤ◌, rules}
use Rattle.std.specs.Prelude.{FitsSigned}
use Rattle.std.specs.Int.{w128}
use Rattle.std.proofs.lemmas.Int.{to_z-of_z}
use Rattle.st_numbers.proofs.WholeNumbers.{integer_sum}
use Rattle.st_numbers.proofs.arithmetic.subtract.Goals as goal

pub returns-in-Integer-Integer : goal.returns-in-Integer-Integer
returns-in-Integer-Integer c =
    let fa : FitsSigned w128 c.in-Integer-Integer.a = search rules in
    let fb : FitsSigned w128 c.in-Integer-Integer.b = search rules in
    let e = simp (to_z-of_z w128 c.in-Integer-Integer.a fa, to_z-of_z w128 c.in-Integer-Integer.b fb) at c.integer_difference.ensures in
    rw (c.in-Integer-Integer.is-0, c.in-Integer-Integer.is-1) (e ∙ sym (integer_sum ◌-ℤ◌ c.in-Integer-Integer.a c.in-Integer-Integer.b fa fb))
