use Rattle.std.proofs.Common.{arith, ◌+◌}
use Rattle.st_collections.specs.Answers.{program_of}
use Rattle.st_collections.proofs.ElementLists.{index_of, array_is}
use Rattle.st_collections.proofs.sequences.as_array.Goals as goal

pub new_items-requires-clause-reads : goal.new_items-requires-clause-reads
new_items-requires-clause-reads g c =
    let p = program_of c.args.names.now in
    let s = (g.H.Heap.meaning c.args.heap.now).store in
    λ k h. index_of p s c.args.receiver (1 + k) c.size_now-size.result c.size_now-size.ensures.size c.size_now-size.ensures.bound (omega arith) (omega arith)

pub returns-clause-memory : goal.returns-clause-memory
returns-clause-memory g c =
    let p = program_of c.args.names.now in
    let s = (g.H.Heap.meaning c.args.heap.now).store in
    rw (array_is p s c.args.receiver c.size_now-size.result c.size_now-size.ensures.size) c.new_items.ensures.memory

pub returns-clause-answer : goal.returns-clause-answer
returns-clause-answer g c =
    let p = program_of c.args.names.now in
    let s = (g.H.Heap.meaning c.args.heap.now).store in
    rw (array_is p s c.args.receiver c.size_now-size.result c.size_now-size.ensures.size) c.new_items.ensures.answer
