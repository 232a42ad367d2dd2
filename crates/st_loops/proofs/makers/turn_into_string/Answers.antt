use Rattle.std.proofs.Common.{◌≡◌, ◌+◌, ◌<◌, ◌∙◌, true, nat_le, map, replicate, [], refl, arith, get_or, length}
use Rattle.std.proofs.lemmas.Bool.{le-leb}
use Rattle.object_heap.specs.declared.value.Value.TheVariants.{Nil}
use Rattle.object_heap.specs.Charges.{object_charge}
use Rattle.object_heap.specs.Store.{object_added}
use Rattle.st_code.specs.BuiltIns.{string_class}
use Rattle.st_collections.specs.Actions.{Finishes, new_object, next_object, with_new}
use Rattle.st_collections.specs.Kinds.{slots_of}
use Rattle.st_collections.specs.TextRows.{byte_of}
use Rattle.st_collections.proofs.Objects.{so_far}
use Rattle.st_loops.proofs.Charged.{full_memory, full_step}
use Rattle.st_loops.proofs.Made.{bytes_more, bytes_paid, slots_kept}
use Rattle.st_loops.proofs.makers.turn_into_string.Goals as goal

pub returns-in-Err-clause-memory : goal.returns-in-Err-clause-memory
returns-in-Err-clause-memory g c =
    let m = g.H.Heap.meaning c.args.heap.now in
    let items = slots_of m.store c.args.made in
    rw (c.step_stop.ensures)
    (full_memory (length m.store.objects) c.in-Err.stop m (g.H.Heap.meaning c.blank_string.new.heap) ((object_charge 0 (length items))) (object_added (new_object string_class [] (map byte_of (replicate (length items) Nil))) m.store) (with_new string_class [] (map byte_of items) m.store) (Finishes (next_object m.store)) (rw c.slots_now-count.ensures at c.in-Err.ensures.made) (rw c.slots_now-count.ensures at c.in-Err.ensures.answer))

pub returns-in-Err-clause-step : goal.returns-in-Err-clause-step
returns-in-Err-clause-step g c =
    let m = g.H.Heap.meaning c.args.heap.now in
    let items = slots_of m.store c.args.made in
    rw (c.step_stop.ensures)
    (full_step (length m.store.objects) c.in-Err.stop m ((object_charge 0 (length items))) (with_new string_class [] (map byte_of items) m.store) (Finishes (next_object m.store)) (rw c.slots_now-count.ensures at c.in-Err.ensures.answer))

pub loop-place-preserved : goal.loop-place-preserved
loop-place-preserved g c =
    let m = g.H.Heap.meaning c.args.heap.now in
    let items = slots_of m.store c.args.made in
    let n = length items in
    let here : c.loop-place.place < n = omega (arith, c.loop-place-test.true, c.slots_now-count.ensures) in
    let value : c.slot_now-value.result ≡ get_or items c.loop-place.place Nil =
    (rw (c.loop-place.invariant.memory, slots_kept (new_object string_class [] (map byte_of (so_far (λ i. get_or items i Nil) n c.loop-place.place))) m.store c.args.made c.loop-place.place here) at c.slot_now-value.ensures) in
    record {
      object = c.loop-place.invariant.object;
      memory = (rw (c.loop-place.invariant.memory, c.loop-place.invariant.object, c.byte_of.ensures) at c.put_byte.ensures.written) ∙ (bytes_more m items n c.loop-place.place c.slot_now-value.result here value);
      paid = c.loop-place.invariant.paid;
      literals = c.put_byte.ensures.literals ∙ c.loop-place.invariant.literals;
    }

pub returns-clause-memory : goal.returns-clause-memory
returns-clause-memory g c =
    let m = g.H.Heap.meaning c.args.heap.now in
    let items = slots_of m.store c.args.made in
    let n = length items in
    let e : c.loop-place.place ≡ n = omega arith in
    let b : nat_le (m.used + ((object_charge 0 n))) m.limit ≡ true = le-leb (m.used + ((object_charge 0 n))) m.limit c.loop-place.invariant.paid in
    rw b ((rw e at c.loop-place.invariant.memory) ∙ bytes_paid m items n refl)

pub returns-clause-step : goal.returns-clause-step
returns-clause-step g c =
    let m = g.H.Heap.meaning c.args.heap.now in
    let items = slots_of m.store c.args.made in
    let n = length items in
    let b : nat_le (m.used + ((object_charge 0 n))) m.limit ≡ true = le-leb (m.used + ((object_charge 0 n))) m.limit c.loop-place.invariant.paid in
    rw (b, c.loop-place.invariant.object) refl
