use Rattle.std.proofs.Common.{◌≤◌, ◌+◌, refl, arith}
use Rattle.std.proofs.lemmas.Bool.{le-leb}
use Rattle.object_heap.specs.Store.{object_at}
use Rattle.st_collections.proofs.Gaps.{no_growth}
use Rattle.st_collections.proofs.Rooms.{grown_none}
use Rattle.st_collections.proofs.growth.reserve_slots.Goals as goal

pub returns-then-size-capacity-clause-made : goal.returns-then-size-capacity-clause-made
returns-then-size-capacity-clause-made g c =
    let m = g.H.Heap.meaning c.args.heap.now in
    let o = object_at c.args.object m.store in
    let fits : c.args.size ≤ o.capacity = omega arith in
    let within : m.used ≤ m.limit = omega (arith, c.used-used.ensures.used, c.used-used.ensures.within) in
    rw (grown_none c.args.size o.capacity fits) (no_growth c.args.object m c.requires.room within)

pub returns-then-size-capacity-clause-answer : goal.returns-then-size-capacity-clause-answer
returns-then-size-capacity-clause-answer g c =
    let m = g.H.Heap.meaning c.args.heap.now in
    let o = object_at c.args.object m.store in
    let fits : c.args.size ≤ o.capacity = omega arith in
    let within : m.used + 0 ≤ m.limit = omega (arith, c.used-used.ensures.used, c.used-used.ensures.within) in
    rw (grown_none c.args.size o.capacity fits, le-leb (m.used + 0) m.limit within) refl
