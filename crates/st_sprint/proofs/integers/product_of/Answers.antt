use Rattle.std.proofs.Common.{◌≡◌, sym}
use Rattle.std.specs.Prelude.{FitsSigned, ◌*ℤ◌}
use Rattle.std.specs.Int.{w128}
use Rattle.std.proofs.lemmas.Int.{to_z-of_z}
use mir.Val.{to_z, of_z}
use Rattle.st_sprint.proofs.Totals.{product}
use Rattle.st_sprint.proofs.integers.product_of.Goals as goal

pub returns-in-Some : goal.returns-in-Some
returns-in-Some c =
    let fl : to_z w128 (of_z w128 c.args.left) ≡ c.args.left = to_z-of_z w128 c.args.left c.ranges.left in
    let fr : to_z w128 (of_z w128 c.args.right) ≡ c.args.right = to_z-of_z w128 c.args.right c.ranges.right in
    let same : c.in-Some.product ≡ c.args.left *ℤ c.args.right = rw (fl, fr) at c.in-Some.ensures.1 in
    let fits : FitsSigned w128 c.in-Some.product = rw (fl, fr, ← same) at c.in-Some.ensures.0 in
    rw (to_z-of_z w128 c.in-Some.product fits) (product c.args.left c.args.right c.in-Some.product fits (sym same))
