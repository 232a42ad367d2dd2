use Rattle.std.proofs.Common.{sym, ◌∙◌, ap}
use Rattle.std.proofs.Math.Facts.{to_z-of_z}
use Rattle.st_sprint.specs.Places.{has_slots}
use Rattle.st_sprint.proofs.ElementAt.{slots_stand, bytes_stand, steps_stand}
use Rattle.st_sprint.proofs.places.object_place.Goals as goal

pub returns-then-has_slots : goal.returns-then-has_slots
returns-then-has_slots g c p = slots_stand p (g.H.Heap.meaning c.args.heap.now).store c.args.object c.args.index c.slot_place.result (sym (ap has_slots c.class_of-class.ensures) ∙ sym c.has_slots.ensures ∙ c.if-has_slots.true) (rw (to_z-of_z c.ranges.index) at c.slot_place.ensures)

pub returns-then-class-eq-STRING : goal.returns-then-class-eq-STRING
returns-then-class-eq-STRING g c p = bytes_stand p (g.H.Heap.meaning c.args.heap.now).store c.args.object c.args.index c.byte_place.result (sym c.class_of-class.ensures ∙ c.if-class-eq-STRING.true) (rw (to_z-of_z c.ranges.index) at c.byte_place.ensures)

pub returns-then-class-eq-INTERVAL : goal.returns-then-class-eq-INTERVAL
returns-then-class-eq-INTERVAL g c p = steps_stand p (g.H.Heap.meaning c.args.heap.now).store c.args.object c.args.index c.interval_place.result (sym c.class_of-class.ensures ∙ c.if-class-eq-INTERVAL.true) (rw (to_z-of_z c.ranges.index) at c.interval_place.ensures)
