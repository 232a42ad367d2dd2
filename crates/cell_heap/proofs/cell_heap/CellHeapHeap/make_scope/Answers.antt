use Rattle.std.proofs.Common.{arith}
use Rattle.cell_heap.proofs.Views.{view_scope}
use Rattle.cell_heap.proofs.cell_heap.CellHeapHeap.make_scope.Goals as goal

pub returns-clause-made : goal.returns-clause-made
returns-clause-made c =
    rw (← c.self.view_is) (view_scope c.self.inside.values.items c.self.inside.bytes.items c.self.inside.places.items c.self.inside.closures.items c.self.inside.scopes.items c.self.inside.used c.self.inside.limit c.self.invariant.0
    c.add_nils.new.values.items c.push_reserved.new.self.items c.args.code c.args.variables c.len.result c.in_ok-used.used c.args.outer c.used_after.result
    c.used_after.ensures c.in_ok-used.was c.add_nils.ensures.items (omega (arith, c.len.ensures, c.self.inside.values.ok.0)) c.push_reserved.ensures.items)
