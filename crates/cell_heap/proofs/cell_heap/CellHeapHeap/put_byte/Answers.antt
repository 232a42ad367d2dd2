use Rattle.std.proofs.Common.{◌<◌, length, arith}
use Rattle.cell_heap.proofs.Views.{view_put_byte, place_inside}
use Rattle.cell_heap.proofs.cell_heap.CellHeapHeap.put_byte.Goals as goal

pub overflow_add-place : goal.overflow_add-place
overflow_add-place c =
    let there : c.args.object < length c.self.inside.places.items = omega (arith, c.len.ensures, c.self.inside.places.ok.0, c.if-object-len.true) in
    let inside = place_inside c.self.inside.values.items c.self.inside.bytes.items c.self.inside.places.items c.self.inside.closures.items c.self.inside.scopes.items c.self.inside.used c.self.inside.limit c.self.invariant.0 c.args.object c.index-place.result.now there c.index-place.ensures in
    omega (arith, c.self.inside.bytes.ok, c.if-index-place.true)

pub returns-then-index-place-clause-written : goal.returns-then-index-place-clause-written
returns-then-index-place-clause-written c =
    let there : c.args.object < length c.self.inside.places.items = omega (arith, c.len.ensures, c.self.inside.places.ok.0, c.if-object-len.true) in
    rw (← c.self.view_is) (view_put_byte c.self.inside.values.items c.self.inside.bytes.items c.self.inside.places.items c.self.inside.closures.items c.self.inside.scopes.items c.self.inside.used c.self.inside.limit c.self.invariant.0
    c.args.object c.args.index c.args.byte c.index-place.result.now there c.index-place.ensures c.if-index-place.true)
