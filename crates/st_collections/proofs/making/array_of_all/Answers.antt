use Rattle.std.proofs.Common.{◌∙◌, sym, arith, ◌+◌}
use Rattle.st_collections.specs.Answers.{program_of}
use Rattle.st_collections.proofs.ElementLists.{index_of}
use Rattle.st_collections.proofs.Makings.{all_is}
use Rattle.st_collections.proofs.making.array_of_all.Goals as goal

pub new_items-requires-clause-reads : goal.new_items-requires-clause-reads
new_items-requires-clause-reads g c =
    let p = program_of c.args.names.now in
    let s = (g.H.Heap.meaning c.args.heap.now).store in
    λ k h. index_of p s c.args.collection (1 + k) c.size_now-size.result c.size_now-size.ensures.size c.size_now-size.ensures.bound (omega arith) (omega arith)

pub returns-clause-memory : goal.returns-clause-memory
returns-clause-memory g c =
    let p = program_of c.args.names.now in
    let s = (g.H.Heap.meaning c.args.heap.now).store in
    rw (all_is p s c.args.collection c.size_now-size.result (sym c.is_collection_now.ensures ∙ c.if-not-is_collection_now.false) c.size_now-size.ensures.size) c.new_items.ensures.memory

pub returns-clause-answer : goal.returns-clause-answer
returns-clause-answer g c =
    let p = program_of c.args.names.now in
    let s = (g.H.Heap.meaning c.args.heap.now).store in
    rw (all_is p s c.args.collection c.size_now-size.result (sym c.is_collection_now.ensures ∙ c.if-not-is_collection_now.false) c.size_now-size.ensures.size) c.new_items.ensures.answer
