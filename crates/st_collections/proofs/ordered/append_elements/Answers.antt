use Rattle.std.proofs.Common.{◌≡◌, ◌∙◌, ◌+◌, ◌<◌, ap, arith}
use Rattle.object_heap.specs.Charges.{with_store}
use Rattle.object_heap.specs.Store.{Store}
use Rattle.st_collections.specs.Answers.{program_of}
use Rattle.st_collections.specs.Ordered.{slots_set}
use Rattle.st_collections.proofs.Gaps.{stands_open}
use Rattle.st_collections.proofs.Objects.{so_far}
use Rattle.st_collections.proofs.Appends.{added_at, appended_more, appended_all, index_beside, read_beside}
use Rattle.st_collections.proofs.ordered.append_elements.Goals as goal

pub element_now-value-requires-clause-bound : goal.element_now-value-requires-clause-bound
element_now-value-requires-clause-bound g c =
    let m = g.H.Heap.meaning c.args.heap.now in
    let p = program_of c.args.names.now in
    rw c.loop-place.invariant.memory (index_beside p m.store c.args.object c.args.collection c.args.count c.loop-place.place c.requires.open (stands_open m.store c.args.object c.requires.open) c.requires.within c.requires.measured c.requires.fits (omega arith)).1

pub element_now-value-requires-clause-within : goal.element_now-value-requires-clause-within
element_now-value-requires-clause-within g c =
    let m = g.H.Heap.meaning c.args.heap.now in
    let p = program_of c.args.names.now in
    rw c.loop-place.invariant.memory (index_beside p m.store c.args.object c.args.collection c.args.count c.loop-place.place c.requires.open (stands_open m.store c.args.object c.requires.open) c.requires.within c.requires.measured c.requires.fits (omega arith)).0

pub loop-place-preserved : goal.loop-place-preserved
loop-place-preserved g c =
    let m = g.H.Heap.meaning c.args.heap.now in
    let p = program_of c.args.names.now in
    let stands = stands_open m.store c.args.object c.requires.open in
    let low : c.loop-place.place < c.args.count = omega arith in
    let at : c.loop-place.place + 1 ≡ 1 + c.loop-place.place = omega arith in
    let read : c.element_now-value.result ≡ added_at p m.store c.args.collection c.loop-place.place =
    (rw (c.loop-place.invariant.memory, at) at c.element_now-value.ensures.element)
    ∙ read_beside p m.store c.args.object c.args.collection (so_far (added_at p m.store c.args.collection) c.args.count c.loop-place.place) c.loop-place.place c.requires.open stands (omega (arith, c.requires.within)) in
    record {
      memory = (rw c.loop-place.invariant.memory at c.put.ensures.written)
          ∙ ap (λ (s : Store). with_store s m) (appended_more p m.store c.args.object c.args.collection c.element_now-value.result c.args.count c.loop-place.place c.length-length.result stands low c.length-length.ensures read);
      literals = c.put.ensures.literals ∙ c.loop-place.invariant.literals;
    }

pub returns-clause-appended : goal.returns-clause-appended
returns-clause-appended g c =
    let m = g.H.Heap.meaning c.args.heap.now in
    let p = program_of c.args.names.now in
    let e : c.loop-place.place ≡ c.args.count = omega arith in
    (rw e at c.loop-place.invariant.memory)
    ∙ ap (λ xs. with_store (slots_set c.args.object xs m.store) m) (appended_all p m.store c.args.object c.args.collection c.args.count)
