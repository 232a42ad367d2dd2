use Rattle.std.proofs.Common.{◌≡◌, ◌+◌, [], true, nat_le, ap, length}
use Rattle.st_code.specs.BuiltIns.{ordered_collection_class}
use Rattle.st_collections.specs.Actions.{LoopState as State, with_new}
use Rattle.st_loops.specs.Steps.{paid}
use Rattle.st_loops.proofs.Charged.{paid-is, within_limit}
use Rattle.st_loops.proofs.Gathered.{measured-added}
use Rattle.st_loops.proofs.beginning.visit_with_made.Goals as goal

pub visit_place-requires-clause-measured : goal.visit_place-requires-clause-measured
visit_place-requires-clause-measured g c =
    let m = g.H.Heap.meaning c.args.heap.now in
    let m1 = g.H.Heap.meaning c.new_collection.new.heap in
    let s = with_new ordered_collection_class [] [] m.store in
    let within : nat_le (m.used + 1) m.limit ≡ true = within_limit c.in-Ok.object (length m.store.objects) 1 m c.in-Ok.ensures.answer in
    let is : m1 ≡ paid 1 s m = paid-is 1 s m m1 c.in-Ok.ensures.made within in
    let same : c.made_to.result.receiver ≡ c.args.state.receiver = ap (λ (l : State). l.receiver) c.made_to.ensures in
    rw (is, same) (measured-added m.store c.args.state.receiver c.requires.measured)
