use Rattle.std.proofs.Common.{◌∙◌, sym}
use Rattle.st_collections.specs.Answers.{program_of}
use Rattle.st_collections.proofs.ElementLists.{reads_joined, bytes_joined, bytes_of_species, no_trouble, join_is}
use Rattle.st_collections.specs.Kinds.{elements}
use Rattle.st_collections.proofs.sequences.joined.Goals as goal

pub new_items-requires-clause-reads : goal.new_items-requires-clause-reads
new_items-requires-clause-reads g c =
    let p = program_of c.args.names.now in
    let s = (g.H.Heap.meaning c.args.heap.now).store in
    λ k h. reads_joined p s c.args.receiver c.args.argument c.size_now-size.result c.size_now-added.result k c.size_now-size.ensures.size c.size_now-added.ensures.size c.size_now-size.ensures.bound c.size_now-added.ensures.bound h

pub new_items-requires-clause-bytes : goal.new_items-requires-clause-bytes
new_items-requires-clause-bytes g c =
    let p = program_of c.args.names.now in
    let s = (g.H.Heap.meaning c.args.heap.now).store in
    λ is k h. bytes_joined p s c.args.receiver c.args.argument c.size_now-size.result c.size_now-added.result k c.size_now-added.ensures.size h (bytes_of_species s c.args.receiver (sym c.species_now-class.ensures ∙ is)) (no_trouble c.species_now-class.result (elements p s c.args.argument) is c.in-None.ensures)

pub returns-in-None-clause-memory : goal.returns-in-None-clause-memory
returns-in-None-clause-memory g c =
    let p = program_of c.args.names.now in
    let s = (g.H.Heap.meaning c.args.heap.now).store in
    rw (join_is p s c.args.receiver c.args.argument c.size_now-size.result c.size_now-added.result (sym c.is_sequence_now.ensures ∙ c.if-not-is_sequence_now.false) (rw c.species_now-class.ensures at c.in-None.ensures) c.size_now-size.ensures.size c.size_now-added.ensures.size, ← c.species_now-class.ensures) c.new_items.ensures.memory

pub returns-in-None-clause-answer : goal.returns-in-None-clause-answer
returns-in-None-clause-answer g c =
    let p = program_of c.args.names.now in
    let s = (g.H.Heap.meaning c.args.heap.now).store in
    rw (join_is p s c.args.receiver c.args.argument c.size_now-size.result c.size_now-added.result (sym c.is_sequence_now.ensures ∙ c.if-not-is_sequence_now.false) (rw c.species_now-class.ensures at c.in-None.ensures) c.size_now-size.ensures.size c.size_now-added.ensures.size, ← c.species_now-class.ensures) c.new_items.ensures.answer
