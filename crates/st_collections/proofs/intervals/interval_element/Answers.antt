use Rattle.std.proofs.Common.{◌≡◌, ◌*◌, ◌<◌, ◌^◌, ap, ◌∙◌, arith}
use Rattle.std.specs.Prelude.{unsigned_abs}
use Rattle.std.proofs.Math.Facts.{to_z-of_z}
use Rattle.st_collections.proofs.Reaches.{reach, reach_above, reach_below}
use Rattle.st_collections.proofs.intervals.interval_element.Goals as goal

pub overflow_mul-distance : goal.overflow_mul-distance
overflow_mul-distance c =
    let size : c.unsigned_abs.result ≡ unsigned_abs c.args.by = c.unsigned_abs.ensures.value ∙ ap unsigned_abs (to_z-of_z c.ranges.by) in
    let h : c.args.place * c.unsigned_abs.result < 2 ^ 128 = rw size (reach c.args.start c.args.stop c.args.by c.args.place c.ranges.start c.ranges.stop c.requires) in
    omega arith

pub number_below-requires : goal.number_below-requires
number_below-requires c =
    let size : c.unsigned_abs.result ≡ unsigned_abs c.args.by = c.unsigned_abs.ensures.value ∙ ap unsigned_abs (to_z-of_z c.ranges.by) in
    rw (to_z-of_z c.ranges.start, size) (reach_below c.args.start c.args.stop c.args.by c.args.place c.ranges.start c.ranges.stop (rw (to_z-of_z c.ranges.by) at c.if-by-lt0.true) c.requires)

pub number_above-requires : goal.number_above-requires
number_above-requires c =
    let size : c.unsigned_abs.result ≡ unsigned_abs c.args.by = c.unsigned_abs.ensures.value ∙ ap unsigned_abs (to_z-of_z c.ranges.by) in
    rw (to_z-of_z c.ranges.start, size) (reach_above c.args.start c.args.stop c.args.by c.args.place c.ranges.start c.ranges.stop (rw (to_z-of_z c.ranges.by) at c.if-by-lt0.false) c.requires)
