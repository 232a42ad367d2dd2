use Rattle.st_loops.proofs.Taken.{room_without}
use Rattle.st_loops.proofs.searches.remove_pair.Goals as goal

pub take_out_at-requires-2 : goal.take_out_at-requires-2
take_out_at-requires-2 g c =
    let m = g.H.Heap.meaning c.args.heap.now in
    rw c.take_out_at.ensures.taken (room_without m.store c.args.state.receiver c.saturating_sub.result c.requires)
