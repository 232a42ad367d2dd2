use Rattle.std.proofs.Common.{◌≡◌, ◌<◌, ◌≤◌, ◌+◌, length, arith, rules}
use Rattle.std.proofs.lemmas.Bool.{leb-true}
use Rattle.std.proofs.lemmas.List.{length-set}
use Rattle.cell_heap.proofs.Grows.{length_grown}
use Rattle.cell_heap.proofs.Places.{laid_grown, has_room_grown}
use Rattle.cell_heap.proofs.Views.{view_grown, view_not_grown, place_inside, charged_is}
use Rattle.cell_heap.proofs.cell_heap.CellHeapHeap.grow_through.Goals as goal

pub invariant_of-self : goal.invariant_of-self
invariant_of-self c =
    let there : c.args.object < length c.self.inside.places.items = omega (arith, c.len.ensures, c.self.inside.places.ok.0, c.if-object-len.true) in
    let inside = place_inside c.self.inside.values.items c.self.inside.bytes.items c.self.inside.places.items c.self.inside.closures.items c.self.inside.scopes.items c.self.inside.used c.self.inside.limit c.self.invariant.0 c.args.object c.index-place.result.now there c.index-place.ensures in
    let charged = charged_is c.used_after.result c.self.inside.used c.self.inside.limit c.args.charge c.in_ok-self-inside.field-0 c.used_after.ensures c.in_ok-self-inside.was in
    let within : c.self.inside.used + c.args.charge ≤ c.self.inside.limit = leb-true (c.self.inside.used + c.args.charge) c.self.inside.limit charged.0 in
    let first : c.len-first_slot.result ≡ length c.self.inside.values.items = omega (arith, c.len-first_slot.ensures, c.self.inside.values.ok.0) in
    let size : length c.add_nils.new.values.items ≡ length c.self.inside.values.items + c.args.capacity =
    length_grown c.self.inside.values.items c.copy_run.new.values.items c.add_nils.new.values.items c.index-place.result.now.first_slot c.index-place.result.now.slots c.args.capacity (omega (arith, inside.0, inside.1)) c.if-place-capacity.true c.copy_run.ensures.items c.add_nils.ensures.items in (
      laid_grown (length c.self.inside.values.items) (length c.add_nils.new.values.items) (length c.self.inside.bytes.items) c.self.inside.places.items c.self.inside.scopes.items c.args.object c.args.capacity c.len-first_slot.result c.index-place.result.now c.self.invariant.0 there c.index-place.ensures c.if-place-capacity.true first size,
      has_room_grown (length c.self.inside.values.items) (length c.add_nils.new.values.items) (length c.self.inside.bytes.items) (length c.self.inside.places.items) _ (length c.self.inside.closures.items) (length c.self.inside.scopes.items) c.self.inside.values.cap _ _ _ _ _ c.self.inside.used _ _ _ c.args.capacity c.args.charge c.self.invariant.1 c.requires size (length-set c.self.inside.places.items c.args.object _) (search rules) charged.1 within,
    )

pub returns-then-place-capacity-clause-grown : goal.returns-then-place-capacity-clause-grown
returns-then-place-capacity-clause-grown c =
    let there : c.args.object < length c.self.inside.places.items = omega (arith, c.len.ensures, c.self.inside.places.ok.0, c.if-object-len.true) in
    rw (← c.self.view_is) (view_grown c.self.inside.values.items c.self.inside.bytes.items c.self.inside.places.items c.self.inside.closures.items c.self.inside.scopes.items c.self.inside.used c.self.inside.limit c.self.invariant.0
    c.copy_run.new.values.items c.add_nils.new.values.items c.args.object c.args.capacity c.len-first_slot.result c.args.charge c.in_ok-self-inside.field-0 c.index-place.result.now c.used_after.result
    c.used_after.ensures c.in_ok-self-inside.was there c.index-place.ensures c.if-place-capacity.true (omega (arith, c.len-first_slot.ensures, c.self.inside.values.ok.0)) c.copy_run.ensures.items c.add_nils.ensures.items)

pub returns-else-place-capacity-clause-grown : goal.returns-else-place-capacity-clause-grown
returns-else-place-capacity-clause-grown c =
    let there : c.args.object < length c.self.inside.places.items = omega (arith, c.len.ensures, c.self.inside.places.ok.0, c.if-object-len.true) in
    rw (← c.self.view_is) (view_not_grown c.self.inside.values.items c.self.inside.bytes.items c.self.inside.places.items c.self.inside.closures.items c.self.inside.scopes.items c.self.inside.used c.self.inside.limit c.self.invariant.0
    c.args.object c.args.capacity c.args.charge c.in_ok-self-inside.field-0 c.index-place.result.now c.used_after.result
    c.used_after.ensures c.in_ok-self-inside.was there c.index-place.ensures c.if-place-capacity.false)
