use Rattle.std.proofs.Common.{◌≡◌, ◌∙◌, refl, arith, ◌-◌, ap, get_or}
use Rattle.object_heap.specs.declared.value.Value.TheVariants.{Nil}
use Rattle.object_heap.specs.Store.{Store, object_at}
use Rattle.object_heap.specs.Charges.{with_store}
use Rattle.st_collections.specs.SequenceRows.{without_element}
use Rattle.st_collections.proofs.Gaps.{closed_first, closed_more, closed_all}
use Rattle.st_loops.proofs.growth.take_out.Goals as goal

pub loop-gap-init : goal.loop-gap-init
loop-gap-init g c =
    let m = g.H.Heap.meaning c.args.heap.now in
    record { low = omega arith; high = omega arith; memory = ap (λ (s : Store). with_store s m) (closed_first c.args.object c.args.place m.store c.requires.within); literals = refl }

pub loop-gap-preserved : goal.loop-gap-preserved
loop-gap-preserved g c =
    let m = g.H.Heap.meaning c.args.heap.now in
    record {
      low = omega arith;
      high = omega arith;
      memory = (rw (c.get-value.ensures, c.loop-gap.invariant.memory) at c.put.ensures.written) ∙ ap (λ (s : Store). with_store s m) (closed_more c.args.object c.args.place c.loop-gap.gap m.store c.requires.roomy.stands c.loop-gap.invariant.low (omega arith));
      literals = c.put.ensures.literals ∙ c.loop-gap.invariant.literals;
    }

pub returns-clause-closed : goal.returns-clause-closed
unfolding without_element
returns-clause-closed g c =
    let m = g.H.Heap.meaning c.args.heap.now in
    let o = object_at c.args.object m.store in
    let last : c.loop-gap.gap ≡ c.length-last.result - 1 = omega arith in
    (rw (rw last at c.loop-gap.invariant.memory) at c.set_length.ensures.resized)
    ∙ ap (λ (s : Store). with_store s m) (closed_all c.args.object c.args.place (c.length-last.result - 1) (get_or o.slots (c.length-last.result - 1) Nil) m.store c.requires.roomy.stands c.requires.within (omega arith) c.requires.roomy.room)
