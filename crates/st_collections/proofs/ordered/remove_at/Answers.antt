use Rattle.object_heap.specs.Store.{object_at}
use Rattle.st_collections.proofs.Gaps.{without_is}
use Rattle.st_collections.proofs.ordered.remove_at.Goals as goal

pub returns-clause-memory : goal.returns-clause-memory
returns-clause-memory g c =
    let m = g.H.Heap.meaning c.args.heap.now in
    let o = object_at c.args.object m.store in
    rw (without_is m.store c.args.object c.args.place c.requires.open) c.close_slot.ensures.closed
