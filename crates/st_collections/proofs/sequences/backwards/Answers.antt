use Rattle.std.proofs.Common.{◌∙◌, sym, arith, ◌-◌}
use Rattle.st_collections.specs.Answers.{program_of}
use Rattle.std.proofs.lemmas.Bool.{or_left}
use Rattle.st_collections.specs.Kinds.{is_a, element}
use Rattle.st_collections.specs.SequenceRows.{is_byte}
use Rattle.st_code.specs.BuiltIns.{byte_array_class}
use Rattle.st_collections.proofs.ElementLists.{index_of, bytes_of_species, backward_is}
use Rattle.st_collections.proofs.sequences.backwards.Goals as goal

pub new_items-requires-clause-reads : goal.new_items-requires-clause-reads
new_items-requires-clause-reads g c =
    let p = program_of c.args.names.now in
    let s = (g.H.Heap.meaning c.args.heap.now).store in
    λ k h. index_of p s c.args.receiver (c.size_now-size.result - k) c.size_now-size.result c.size_now-size.ensures.size c.size_now-size.ensures.bound (omega arith) (omega arith)

pub new_items-requires-clause-bytes : goal.new_items-requires-clause-bytes
new_items-requires-clause-bytes g c =
    let p = program_of c.args.names.now in
    let s = (g.H.Heap.meaning c.args.heap.now).store in
    λ is k h. or_left (is_a s byte_array_class c.args.receiver) (is_byte (element p s c.args.receiver (c.size_now-size.result - k))) (bytes_of_species s c.args.receiver (sym c.species_now-class.ensures ∙ is))

pub returns-clause-memory : goal.returns-clause-memory
returns-clause-memory g c =
    let p = program_of c.args.names.now in
    let s = (g.H.Heap.meaning c.args.heap.now).store in
    rw (backward_is p s c.args.receiver c.size_now-size.result c.size_now-size.ensures.size, ← c.species_now-class.ensures) c.new_items.ensures.memory

pub returns-clause-answer : goal.returns-clause-answer
returns-clause-answer g c =
    let p = program_of c.args.names.now in
    let s = (g.H.Heap.meaning c.args.heap.now).store in
    rw (backward_is p s c.args.receiver c.size_now-size.result c.size_now-size.ensures.size, ← c.species_now-class.ensures) c.new_items.ensures.answer
