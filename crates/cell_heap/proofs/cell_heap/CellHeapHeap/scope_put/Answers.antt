use Rattle.std.proofs.Common.{◌<◌, length, arith}
use Rattle.cell_heap.proofs.Views.{view_scope_put, scope_inside}
use Rattle.cell_heap.proofs.cell_heap.CellHeapHeap.scope_put.Goals as goal

pub overflow_add-place : goal.overflow_add-place
overflow_add-place c =
    let there : c.args.scope < length c.self.inside.scopes.items = omega (arith, c.len.ensures, c.self.inside.scopes.ok.0, c.if-scope-len.true) in
    let inside = scope_inside c.self.inside.values.items c.self.inside.bytes.items c.self.inside.places.items c.self.inside.closures.items c.self.inside.scopes.items c.self.inside.used c.self.inside.limit c.self.invariant.0 c.args.scope c.index-place.result.now there c.index-place.ensures in
    omega (arith, c.self.inside.values.ok, c.if-index-place.true)

pub returns-then-index-place-clause-written : goal.returns-then-index-place-clause-written
returns-then-index-place-clause-written c =
    let there : c.args.scope < length c.self.inside.scopes.items = omega (arith, c.len.ensures, c.self.inside.scopes.ok.0, c.if-scope-len.true) in
    rw (← c.self.view_is) (view_scope_put c.self.inside.values.items c.self.inside.bytes.items c.self.inside.places.items c.self.inside.closures.items c.self.inside.scopes.items c.self.inside.used c.self.inside.limit c.self.invariant.0
    c.args.scope c.args.index c.args.value c.index-place.result.now there c.index-place.ensures c.if-index-place.true)
