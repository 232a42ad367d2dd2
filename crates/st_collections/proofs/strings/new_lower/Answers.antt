use Rattle.std.proofs.Common.{arith}
use Rattle.st_collections.specs.Answers.{program_of}
use Rattle.st_collections.proofs.TextItems.{index-text, lower_is}
use Rattle.st_collections.proofs.strings.new_lower.Goals as goal

pub new_items-requires-clause-reads : goal.new_items-requires-clause-reads
new_items-requires-clause-reads g c = λ k h. index-text (program_of c.args.names.now) (g.H.Heap.meaning c.args.heap.now).store c.args.text k c.text_length-count.result c.text_length-count.ensures (omega arith) h

pub returns-clause-memory : goal.returns-clause-memory
returns-clause-memory g c =
    rw (lower_is (program_of c.args.names.now) (g.H.Heap.meaning c.args.heap.now).store c.args.text c.text_length-count.result c.text_length-count.ensures) c.new_items.ensures.memory

pub returns-clause-answer : goal.returns-clause-answer
returns-clause-answer g c =
    rw (lower_is (program_of c.args.names.now) (g.H.Heap.meaning c.args.heap.now).store c.args.text c.text_length-count.result c.text_length-count.ensures) c.new_items.ensures.answer
