use Rattle.std.proofs.Common.{ap, sym, ◌≤◌, arith, length}
use Rattle.object_heap.specs.Charges.{with_store}
use Rattle.object_heap.specs.Store.{Store, object_at}
use Rattle.st_loops.proofs.Taken.{without_past}
use Rattle.st_loops.proofs.searches.take_out_at.Goals as goal

pub returns-else-place-length-clause-taken : goal.returns-else-place-length-clause-taken
returns-else-place-length-clause-taken g c =
    let m = g.H.Heap.meaning c.args.heap.now in
    let n = c.in-Object.object in
    let high : length (object_at n m.store).slots ≤ c.args.place = omega (arith, c.if-place-length.false, c.length.ensures) in
    rw c.in-Object.is (ap (λ (s : Store). with_store s m) (sym (without_past m.store n c.args.place high)))
