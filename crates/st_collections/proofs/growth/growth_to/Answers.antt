use Rattle.std.proofs.Common.{◌≡◌, ◌∙◌, inl, inr, ◌-◌, ◌*◌, ◌+◌, ◌^◌, ◌≤◌, min, max, ap, arith, refl, rules}
use Rattle.st_collections.specs.Answers.{told}
use Rattle.st_collections.specs.SequenceRows.{Room}
use Rattle.st_collections.proofs.Rooms.{grown_enough, grown_step, room_counted, cells_counted}
use Rattle.st_collections.proofs.growth.growth_to.Goals as goal

pub loop-growth-init : goal.loop-growth-init
loop-growth-init c =
    let e = grown_enough (c.args.size - c.args.room) c.args.size c.args.size c.args.room 0 (omega arith) (omega arith) in
    record {
      elements = ap (λ (r : Room). told r.elements) e;
      cells = ap (λ (r : Room). told r.cells) e;
      paid = inl refl;
    }

pub loop-growth-preserved : goal.loop-growth-preserved
loop-growth-preserved c =
    let room : c.max.result ≡ min (max 4 (2 * c.loop-growth.growth.elements)) (2 ^ 128 - 1) = room_counted (2 ^ 128 - 1) c.loop-growth.growth.elements c.saturating_mul.result c.max.result (search rules) c.saturating_mul.ensures c.max.ensures in
    let cells : c.saturating_add.result ≡ min (c.loop-growth.growth.cells + c.max.result) (2 ^ 128 - 1) = c.saturating_add.ensures in
    let paid : c.max.result ≤ c.saturating_add.result = cells_counted (2 ^ 128 - 1) c.max.result c.loop-growth.growth.cells c.saturating_add.result (omega arith) cells in
    let step = grown_step (2 ^ 128 - 1) c.args.size c.loop-growth.growth.elements c.loop-growth.growth.cells c.max.result c.saturating_add.result c.loop-growth-test.true (omega (arith, c.ranges.size.fits)) room cells in
    record {
      elements = step.0 ∙ c.loop-growth.invariant.elements;
      cells = step.1 ∙ c.loop-growth.invariant.cells;
      paid = inr paid;
    }
