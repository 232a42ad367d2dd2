use Rattle.std.proofs.Common.{◌≡◌, min}
use mir.Val.{to_z, of_z}
use mir.Syntax.{w128}
use Rattle.std.proofs.lemmas.Int.{to_z-of_z}
use Rattle.std.specs.Int.{int_shr}
use Rattle.st_numbers.proofs.Ranges.{shift-min, shr-fits}
use Rattle.st_numbers.proofs.integers.shift_right.Goals as goal

pub returns : goal.returns
returns c =
    let fx : to_z w128 (of_z w128 c.args.x) ≡ c.args.x = to_z-of_z w128 c.args.x c.ranges.x in
    let fits : to_z w128 (of_z w128 (int_shr c.args.x (min c.args.places 127))) ≡ int_shr c.args.x (min c.args.places 127) = to_z-of_z w128 (int_shr c.args.x (min c.args.places 127)) (shr-fits c.args.x (min c.args.places 127) c.ranges.x) in
    rw (fx, c.min.ensures, fits) (shift-min c.args.x c.args.places c.ranges.x)
