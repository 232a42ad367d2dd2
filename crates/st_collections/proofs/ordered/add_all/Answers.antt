use Rattle.std.proofs.Common.{◌≡◌, ◌∙◌, ℕ, ◌+◌, ◌≤◌, true, length, ap, sym, arith}
use Rattle.object_heap.specs.Store.{object_at}
use Rattle.st_collections.specs.Answers.{program_of}
use Rattle.st_collections.specs.Kinds.{is_collection}
use Rattle.st_collections.specs.SequenceRows.{grown_to}
use Rattle.st_collections.proofs.Gaps.{paid_room}
use Rattle.st_collections.proofs.Appends.{all_answer, all_full_answer, all_full_memory, all_memory, ready_all}
use Rattle.st_collections.proofs.ordered.add_all.Goals as goal

pub returns-in-Err-clause-memory : goal.returns-in-Err-clause-memory
returns-in-Err-clause-memory g c =
    let m = g.H.Heap.meaning c.args.heap.now in
    let p = program_of c.args.names.now in
    let size = c.length.result + c.size_now-count.result in
    let is : is_collection m.store c.args.collection ≡ true = sym c.is_collection_now.ensures ∙ c.if-not-is_collection_now.false in
    let long : size ≡ length (object_at c.args.object m.store).slots + c.size_now-count.result = ap (λ (k : ℕ). k + c.size_now-count.result) c.length.ensures in
    rw c.answer_stop.ensures (all_full_memory p c.in-Err.stop m (g.H.Heap.meaning c.reserve_slots.new.heap) c.args.object c.size_now-count.result size c.args.collection c.requires.open is c.size_now-count.ensures.size long c.in-Err.ensures.made c.in-Err.ensures.answer)

pub returns-in-Err-clause-answer : goal.returns-in-Err-clause-answer
returns-in-Err-clause-answer g c =
    let m = g.H.Heap.meaning c.args.heap.now in
    let p = program_of c.args.names.now in
    let size = c.length.result + c.size_now-count.result in
    let is : is_collection m.store c.args.collection ≡ true = sym c.is_collection_now.ensures ∙ c.if-not-is_collection_now.false in
    let long : size ≡ length (object_at c.args.object m.store).slots + c.size_now-count.result = ap (λ (k : ℕ). k + c.size_now-count.result) c.length.ensures in
    rw c.answer_stop.ensures (all_full_answer p c.in-Err.stop m c.args.object c.size_now-count.result size c.args.collection c.requires.open is c.size_now-count.ensures.size long c.in-Err.ensures.answer)

pub append_elements-requires-clause-room : goal.append_elements-requires-clause-room
append_elements-requires-clause-room g c =
    let m = g.H.Heap.meaning c.args.heap.now in
    let p = program_of c.args.names.now in
    let size = c.length.result + c.size_now-count.result in
    let long : size ≡ length (object_at c.args.object m.store).slots + c.size_now-count.result = ap (λ (k : ℕ). k + c.size_now-count.result) c.length.ensures in
    let paid : m.used + (grown_to size (object_at c.args.object m.store).capacity).cells ≤ m.limit = paid_room (grown_to size (object_at c.args.object m.store).capacity).cells m c.in-Ok.ensures.answer in
    let ready = ready_all p m (g.H.Heap.meaning c.reserve_slots.new.heap) c.args.object c.size_now-count.result size c.args.collection c.requires.open long c.in-Ok.ensures.made paid in
    ready.0

pub append_elements-requires-clause-measured : goal.append_elements-requires-clause-measured
append_elements-requires-clause-measured g c =
    let m = g.H.Heap.meaning c.args.heap.now in
    let p = program_of c.args.names.now in
    let size = c.length.result + c.size_now-count.result in
    let long : size ≡ length (object_at c.args.object m.store).slots + c.size_now-count.result = ap (λ (k : ℕ). k + c.size_now-count.result) c.length.ensures in
    let paid : m.used + (grown_to size (object_at c.args.object m.store).capacity).cells ≤ m.limit = paid_room (grown_to size (object_at c.args.object m.store).capacity).cells m c.in-Ok.ensures.answer in
    let ready = ready_all p m (g.H.Heap.meaning c.reserve_slots.new.heap) c.args.object c.size_now-count.result size c.args.collection c.requires.open long c.in-Ok.ensures.made paid in
    rw (ready.1, ← c.size_now-count.ensures.size) c.size_now-count.ensures.bound

pub append_elements-requires-clause-within : goal.append_elements-requires-clause-within
append_elements-requires-clause-within g c =
    let m = g.H.Heap.meaning c.args.heap.now in
    let p = program_of c.args.names.now in
    let size = c.length.result + c.size_now-count.result in
    let long : size ≡ length (object_at c.args.object m.store).slots + c.size_now-count.result = ap (λ (k : ℕ). k + c.size_now-count.result) c.length.ensures in
    let paid : m.used + (grown_to size (object_at c.args.object m.store).capacity).cells ≤ m.limit = paid_room (grown_to size (object_at c.args.object m.store).capacity).cells m c.in-Ok.ensures.answer in
    let ready = ready_all p m (g.H.Heap.meaning c.reserve_slots.new.heap) c.args.object c.size_now-count.result size c.args.collection c.requires.open long c.in-Ok.ensures.made paid in
    rw ready.1 (omega (arith, c.size_now-count.ensures.size))

pub returns-clause-memory : goal.returns-clause-memory
returns-clause-memory g c =
    let m = g.H.Heap.meaning c.args.heap.now in
    let p = program_of c.args.names.now in
    let size = c.length.result + c.size_now-count.result in
    let is : is_collection m.store c.args.collection ≡ true = sym c.is_collection_now.ensures ∙ c.if-not-is_collection_now.false in
    let long : size ≡ length (object_at c.args.object m.store).slots + c.size_now-count.result = ap (λ (k : ℕ). k + c.size_now-count.result) c.length.ensures in
    let paid : m.used + (grown_to size (object_at c.args.object m.store).capacity).cells ≤ m.limit = paid_room (grown_to size (object_at c.args.object m.store).capacity).cells m c.in-Ok.ensures.answer in
    all_memory p m (g.H.Heap.meaning c.reserve_slots.new.heap) (g.H.Heap.meaning c.append_elements.new.heap) c.args.object c.size_now-count.result size c.args.collection c.requires.open is c.size_now-count.ensures.size long c.in-Ok.ensures.made paid c.append_elements.ensures.appended

pub returns-clause-answer : goal.returns-clause-answer
returns-clause-answer g c =
    let m = g.H.Heap.meaning c.args.heap.now in
    let p = program_of c.args.names.now in
    let size = c.length.result + c.size_now-count.result in
    let is : is_collection m.store c.args.collection ≡ true = sym c.is_collection_now.ensures ∙ c.if-not-is_collection_now.false in
    let long : size ≡ length (object_at c.args.object m.store).slots + c.size_now-count.result = ap (λ (k : ℕ). k + c.size_now-count.result) c.length.ensures in
    let paid : m.used + (grown_to size (object_at c.args.object m.store).capacity).cells ≤ m.limit = paid_room (grown_to size (object_at c.args.object m.store).capacity).cells m c.in-Ok.ensures.answer in
    all_answer p m c.args.object c.size_now-count.result size c.args.collection c.requires.open is c.size_now-count.ensures.size long paid
