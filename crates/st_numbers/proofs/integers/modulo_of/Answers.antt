use Rattle.std.proofs.Common.{◌≡◌, ◌∙◌}
use mir.Val.{to_z, of_z}
use mir.Syntax.{w128}
use Rattle.std.proofs.lemmas.Int.{to_z-of_z}
use Rattle.st_numbers.proofs.Ranges.{modulo-found, abs-not-zero}
use Rattle.st_numbers.proofs.integers.modulo_of.Goals as goal

pub returns : goal.returns
returns c =
    let fx : to_z w128 (of_z w128 c.args.x) ≡ c.args.x = to_z-of_z w128 c.args.x c.ranges.x in
    let fy : to_z w128 (of_z w128 c.args.y) ≡ c.args.y = to_z-of_z w128 c.args.y c.ranges.y in
    c.answer_rest.ensures ∙ rw (c.unsigned_abs.ensures.value, c.unsigned_abs-2.ensures.value, fx, fy) (modulo-found c.args.x c.args.y (abs-not-zero c.args.y c.if-y-eq0.false))
