use Rattle.std.proofs.Common.{◌≡◌, ◌∙◌, ap}
use mir.Val.{to_z, of_z}
use mir.Syntax.{w128}
use Rattle.std.proofs.lemmas.Int.{to_z-of_z}
use Rattle.st_numbers.specs.Answers.{integer_answer}
use Rattle.st_numbers.proofs.Ranges.{shift-right-answer, shift-left}
use Rattle.st_numbers.proofs.integers.shift_of.Goals as goal

pub returns-then-by-lt0 : goal.returns-then-by-lt0
returns-then-by-lt0 c =
    let fx : to_z w128 (of_z w128 c.args.x) ≡ c.args.x = to_z-of_z w128 c.args.x c.ranges.x in
    let fy : to_z w128 (of_z w128 c.args.by) ≡ c.args.by = to_z-of_z w128 c.args.by c.ranges.by in
    let fr : to_z w128 (of_z w128 c.shift_right.result) ≡ c.shift_right.result = to_z-of_z w128 c.shift_right.result (record { sfits = c.shift_right.type_inv }) in
    let e = rw (c.unsigned_abs.ensures.value, fx, fy) at c.shift_right.ensures in
    let h = rw fy at c.if-by-lt0.true in
    rw fr (shift-right-answer c.args.x c.args.by c.shift_right.result c.ranges.x h e)

pub returns : goal.returns
returns c =
    let fx : to_z w128 (of_z w128 c.args.x) ≡ c.args.x = to_z-of_z w128 c.args.x c.ranges.x in
    let fy : to_z w128 (of_z w128 c.args.by) ≡ c.args.by = to_z-of_z w128 c.args.by c.ranges.by in
    let h = rw fy at c.if-by-lt0.false in
    c.answer_shift_left.ensures ∙ rw (c.unsigned_abs-2.ensures.value, c.unsigned_abs-3.ensures.value, fx, fy) (ap integer_answer (shift-left c.args.x c.args.by h))
