use Rattle.std.proofs.Common.{◌<◌, ◌+◌, length, arith, rules}
use Rattle.std.proofs.lemmas.List.{length-set}
use Rattle.cell_heap.proofs.Lengths.{Cleared}
use Rattle.cell_heap.proofs.Places.{laid_resized, has_room_same}
use Rattle.cell_heap.proofs.Views.{view_resized, place_inside}
use Rattle.cell_heap.proofs.cell_heap.CellHeapHeap.set_length.Goals as goal

pub overflow_add-place : goal.overflow_add-place
overflow_add-place c =
    let there : c.args.object < length c.self.inside.places.items = omega (arith, c.len.ensures, c.self.inside.places.ok.0, c.if-object-len.true) in
    let inside = place_inside c.self.inside.values.items c.self.inside.bytes.items c.self.inside.places.items c.self.inside.closures.items c.self.inside.scopes.items c.self.inside.used c.self.inside.limit c.self.invariant.0 c.args.object c.index-place.result.now there c.index-place.ensures in
    omega (arith, c.self.inside.values.ok, c.if-length-place.true)

pub invariant_of-self : goal.invariant_of-self
invariant_of-self c =
    let there : c.args.object < length c.self.inside.places.items = omega (arith, c.len.ensures, c.self.inside.places.ok.0, c.if-object-len.true) in (
      laid_resized (length c.self.inside.values.items) (length c.clear_run.new.values.items) (length c.self.inside.bytes.items) c.self.inside.places.items c.self.inside.scopes.items c.args.object c.args.length c.index-place.result.now c.self.invariant.0 there c.index-place.ensures c.if-length-place.true c.clear_run.ensures.length,
      has_room_same (length c.self.inside.values.items) (length c.clear_run.new.values.items) (length c.self.inside.bytes.items) (length c.self.inside.places.items) _ (length c.self.inside.closures.items) (length c.self.inside.scopes.items) c.self.inside.values.cap _ _ _ _ _ c.self.inside.used _ _ c.self.invariant.1 c.clear_run.ensures.length (length-set c.self.inside.places.items c.args.object _) (search rules),
    )

pub returns-then-length-place-clause-resized : goal.returns-then-length-place-clause-resized
returns-then-length-place-clause-resized c =
    let there : c.args.object < length c.self.inside.places.items = omega (arith, c.len.ensures, c.self.inside.places.ok.0, c.if-object-len.true) in
    let cleared : Cleared c.self.inside.values.items c.clear_run.new.values.items (c.index-place.result.now.first_slot + c.index-place.result.now.slots) c.saturating_sub.result =
    record { size = c.clear_run.ensures.length; within = c.clear_run.ensures.inside; below = c.clear_run.ensures.below; above = c.clear_run.ensures.above } in
    rw (← c.self.view_is) (view_resized c.self.inside.values.items c.self.inside.bytes.items c.self.inside.places.items c.self.inside.closures.items c.self.inside.scopes.items c.self.inside.used c.self.inside.limit c.self.invariant.0
    c.clear_run.new.values.items c.args.object c.args.length c.index-place.result.now there c.index-place.ensures c.if-length-place.true (rw c.saturating_sub.ensures at cleared))
