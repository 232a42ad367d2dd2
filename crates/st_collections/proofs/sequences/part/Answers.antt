use Rattle.std.proofs.Common.{◌≡◌, ◌∙◌, sym, arith, ◌+◌, ◌≤◌}
use Rattle.st_collections.specs.Answers.{program_of}
use Rattle.std.proofs.Common.{◌<◌}
use Rattle.std.specs.Prelude.{pos}
use Rattle.std.proofs.Math.Facts.{to_z-of_z}
use Rattle.std.proofs.lemmas.Bool.{or_left}
use Rattle.st_collections.specs.Kinds.{is_a, element}
use Rattle.st_collections.specs.SequenceRows.{is_byte}
use Rattle.st_code.specs.BuiltIns.{byte_array_class}
use Rattle.st_collections.proofs.ElementLists.{copy_is, index_found, index_of, part_order, bytes_of_species}
use Rattle.st_collections.proofs.sequences.part.Goals as goal

pub new_items-requires-2-clause-reads : goal.new_items-requires-2-clause-reads
new_items-requires-2-clause-reads g c =
    let p = program_of c.args.names.now in
    let s = (g.H.Heap.meaning c.args.heap.now).store in
    let from : c.args.from ≡ pos (c.in-Ok.place + 1) = index_found c.size_now-size.result c.args.from c.in-Ok.place (rw (to_z-of_z c.ranges.from) at c.in-Ok.ensures.place) in
    let to : c.args.to ≡ pos (c.in-Ok-place_of.place + 1) = index_found c.size_now-size.result c.args.to c.in-Ok-place_of.place (rw (to_z-of_z c.ranges.to) at c.in-Ok-place_of.ensures.place) in
    let order : c.in-Ok.place ≤ c.in-Ok-place_of.place = part_order c.args.from c.args.to c.in-Ok.place c.in-Ok-place_of.place from to (rw (to_z-of_z c.ranges.from, to_z-of_z c.ranges.to) at c.if-to-from.false) in
    let within : c.in-Ok-place_of.place < c.size_now-size.result = c.in-Ok-place_of.ensures.within in
    λ k h. index_of p s c.args.receiver (c.in-Ok.place + 1 + k) c.size_now-size.result c.size_now-size.ensures.size c.size_now-size.ensures.bound (omega arith) (omega arith)

pub new_items-requires-2-clause-bytes : goal.new_items-requires-2-clause-bytes
new_items-requires-2-clause-bytes g c =
    let p = program_of c.args.names.now in
    let s = (g.H.Heap.meaning c.args.heap.now).store in
    λ is k h. or_left (is_a s byte_array_class c.args.receiver) (is_byte (element p s c.args.receiver (c.in-Ok.place + 1 + k))) (bytes_of_species s c.args.receiver (sym c.species_now-class.ensures ∙ is))

pub returns-clause-memory : goal.returns-clause-memory
returns-clause-memory g c =
    let p = program_of c.args.names.now in
    let s = (g.H.Heap.meaning c.args.heap.now).store in
    let from : c.args.from ≡ pos (c.in-Ok.place + 1) = index_found c.size_now-size.result c.args.from c.in-Ok.place (rw (to_z-of_z c.ranges.from) at c.in-Ok.ensures.place) in
    let to : c.args.to ≡ pos (c.in-Ok-place_of.place + 1) = index_found c.size_now-size.result c.args.to c.in-Ok-place_of.place (rw (to_z-of_z c.ranges.to) at c.in-Ok-place_of.ensures.place) in
    let order : c.in-Ok.place ≤ c.in-Ok-place_of.place = part_order c.args.from c.args.to c.in-Ok.place c.in-Ok-place_of.place from to (rw (to_z-of_z c.ranges.from, to_z-of_z c.ranges.to) at c.if-to-from.false) in
    let within : c.in-Ok-place_of.place < c.size_now-size.result = c.in-Ok-place_of.ensures.within in
    rw (copy_is p s c.args.receiver c.args.from c.args.to c.in-Ok.place c.in-Ok-place_of.place c.size_now-size.result c.size_now-size.ensures.size from to order within, ← c.species_now-class.ensures) c.new_items-2.ensures.memory

pub returns-clause-answer : goal.returns-clause-answer
returns-clause-answer g c =
    let p = program_of c.args.names.now in
    let s = (g.H.Heap.meaning c.args.heap.now).store in
    let from : c.args.from ≡ pos (c.in-Ok.place + 1) = index_found c.size_now-size.result c.args.from c.in-Ok.place (rw (to_z-of_z c.ranges.from) at c.in-Ok.ensures.place) in
    let to : c.args.to ≡ pos (c.in-Ok-place_of.place + 1) = index_found c.size_now-size.result c.args.to c.in-Ok-place_of.place (rw (to_z-of_z c.ranges.to) at c.in-Ok-place_of.ensures.place) in
    let order : c.in-Ok.place ≤ c.in-Ok-place_of.place = part_order c.args.from c.args.to c.in-Ok.place c.in-Ok-place_of.place from to (rw (to_z-of_z c.ranges.from, to_z-of_z c.ranges.to) at c.if-to-from.false) in
    let within : c.in-Ok-place_of.place < c.size_now-size.result = c.in-Ok-place_of.ensures.within in
    rw (copy_is p s c.args.receiver c.args.from c.args.to c.in-Ok.place c.in-Ok-place_of.place c.size_now-size.result c.size_now-size.ensures.size from to order within, ← c.species_now-class.ensures) c.new_items-2.ensures.answer
