use Rattle.std.proofs.Common.{◌∙◌, arith, ◌-◌, ◌<◌, ap, length}
use Rattle.object_heap.specs.Store.{Store, object_at}
use Rattle.object_heap.specs.Charges.{with_store}
use Rattle.st_collections.proofs.Gaps.{opened_more, stands_of_room}
use Rattle.st_collections.proofs.growth.open_slot.Goals as goal

pub loop-gap-preserved : goal.loop-gap-preserved
loop-gap-preserved g c =
    let m = g.H.Heap.meaning c.args.heap.now in
    let o = object_at c.args.object m.store in
    let stands : c.args.object < length m.store.objects = stands_of_room c.args.object m.store (omega arith) in
    record {
      low = omega arith;
      high = omega arith;
      memory = (rw (c.get-value.ensures, c.loop-gap.invariant.memory) at c.put.ensures.written) ∙ ap (λ (s : Store). with_store s m) (opened_more c.args.object (c.loop-gap.gap - 1) c.loop-gap.gap m.store stands (omega arith) c.loop-gap.invariant.high);
      literals = c.put.ensures.literals ∙ c.loop-gap.invariant.literals;
    }
