use Rattle.st_collections.specs.Answers.{program_of}
use Rattle.st_collections.proofs.Makings.{zeros_is}
use Rattle.st_collections.proofs.making.zeros.Goals as goal

pub returns-clause-memory : goal.returns-clause-memory
returns-clause-memory g c =
    let p = program_of c.args.names.now in
    let s = (g.H.Heap.meaning c.args.heap.now).store in
    rw (zeros_is p s c.args.count) c.new_items.ensures.memory

pub returns-clause-answer : goal.returns-clause-answer
returns-clause-answer g c =
    let p = program_of c.args.names.now in
    let s = (g.H.Heap.meaning c.args.heap.now).store in
    rw (zeros_is p s c.args.count) c.new_items.ensures.answer
