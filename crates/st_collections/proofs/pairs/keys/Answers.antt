use Rattle.std.proofs.Common.{ℕ, arith, ◌+◌, ◌/◌, ap}
use Rattle.st_collections.specs.Answers.{program_of}
use Rattle.st_collections.proofs.Makings.{known_of_slots, keys_is}
use Rattle.st_collections.proofs.pairs.keys.Goals as goal

pub new_items-requires-clause-reads : goal.new_items-requires-clause-reads
new_items-requires-clause-reads g c =
    let p = program_of c.args.names.now in
    let s = (g.H.Heap.meaning c.args.heap.now).store in
    λ k h. known_of_slots s c.args.dictionary (rw (← c.slots_now-slots.ensures) (omega arith))

pub returns-clause-memory : goal.returns-clause-memory
returns-clause-memory g c =
    let p = program_of c.args.names.now in
    let s = (g.H.Heap.meaning c.args.heap.now).store in
    rw (keys_is p s c.args.dictionary ((c.slots_now-slots.result + 1) / 2) (ap (λ (x : ℕ). (x + 1) / 2) c.slots_now-slots.ensures)) c.new_items.ensures.memory

pub returns-clause-answer : goal.returns-clause-answer
returns-clause-answer g c =
    let p = program_of c.args.names.now in
    let s = (g.H.Heap.meaning c.args.heap.now).store in
    rw (keys_is p s c.args.dictionary ((c.slots_now-slots.result + 1) / 2) (ap (λ (x : ℕ). (x + 1) / 2) c.slots_now-slots.ensures)) c.new_items.ensures.answer
