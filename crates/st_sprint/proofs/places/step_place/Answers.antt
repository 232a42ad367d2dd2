use Rattle.std.proofs.Common.{◌≡◌, true, false, pos, ◌+ℤ◌, ◌-ℤ◌, ◌*ℤ◌, FitsSigned, rules, sym, ◌∙◌, arith}
use Rattle.std.specs.Prelude.{int_lt}
use Rattle.std.specs.Int.{w128}
use Rattle.std.proofs.lemmas.Int.{ints}
use Rattle.std.proofs.Math.Facts.{to_z-of_z}
use Rattle.st_loops.specs.Counts.{is_past}
use Rattle.st_sprint.proofs.StepAt.{step_stands, step_past}
use Rattle.st_sprint.proofs.places.step_place.Goals as goal

pub returns-then-is_past : goal.returns-then-is_past
returns-then-is_past c =
    let low : int_lt c.args.index (pos 1) ≡ false = rw (to_z-of_z c.ranges.index) at c.if-index-lt1.false in
    let step : c.args.by ≡ pos 0 → ⊥ = λ e. (let none : ⊥ = grind (arith, ints) in none) in
    let f : FitsSigned w128 c.in-Some.number = search rules in
    let number : c.in-Some.number ≡ c.args.start +ℤ (c.args.index -ℤ pos 1) *ℤ c.args.by = rw (to_z-of_z c.ranges.index, to_z-of_z c.ranges.start, to_z-of_z c.ranges.by) at c.in-Some.ensures in
    let past : is_past c.args.by c.in-Some.number c.args.stop ≡ true = sym (rw (to_z-of_z c.ranges.by, to_z-of_z f, to_z-of_z c.ranges.stop) at c.is_past.ensures) ∙ c.if-is_past.true in
    step_past c.args.start c.args.stop c.args.by c.args.index c.in-Some.number low step number past

pub returns-else-is_past : goal.returns-else-is_past
returns-else-is_past c =
    let low : int_lt c.args.index (pos 1) ≡ false = rw (to_z-of_z c.ranges.index) at c.if-index-lt1.false in
    let step : c.args.by ≡ pos 0 → ⊥ = λ e. (let none : ⊥ = grind (arith, ints) in none) in
    let f : FitsSigned w128 c.in-Some.number = search rules in
    let number : c.in-Some.number ≡ c.args.start +ℤ (c.args.index -ℤ pos 1) *ℤ c.args.by = rw (to_z-of_z c.ranges.index, to_z-of_z c.ranges.start, to_z-of_z c.ranges.by) at c.in-Some.ensures in
    let past : is_past c.args.by c.in-Some.number c.args.stop ≡ false = sym (rw (to_z-of_z c.ranges.by, to_z-of_z f, to_z-of_z c.ranges.stop) at c.is_past.ensures) ∙ c.if-is_past.false in
    rw (to_z-of_z f) (step_stands c.args.start c.args.stop c.args.by c.args.index c.in-Some.number low step number past)
