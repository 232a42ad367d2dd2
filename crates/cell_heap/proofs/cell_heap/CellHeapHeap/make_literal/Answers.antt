use Rattle.std.proofs.Common.{arith}
use Rattle.cell_heap.proofs.Views.{view_literal}
use Rattle.cell_heap.proofs.cell_heap.CellHeapHeap.make_literal.Goals as goal

pub returns-clause-made : goal.returns-clause-made
returns-clause-made c =
    rw (← c.self.view_is) (view_literal c.self.inside.values.items c.self.inside.bytes.items c.self.inside.places.items c.self.inside.closures.items c.self.inside.scopes.items c.self.inside.used c.self.inside.limit c.self.invariant.0
    c.add_nils.new.values.items c.add_zeros.new.bytes.items c.push_reserved.new.self.items c.args.class c.args.slots c.args.bytes c.len.result c.len-2.result
    c.add_nils.ensures.items c.add_zeros.ensures.items (omega (arith, c.len.ensures, c.self.inside.values.ok.0)) (omega (arith, c.len-2.ensures, c.self.inside.bytes.ok.0)) c.push_reserved.ensures.items)
