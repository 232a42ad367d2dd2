use Rattle.object_heap.specs.declared.value.Value.{Value}
use Rattle.st_collections.specs.Answers.{program_of}
use Rattle.st_collections.proofs.TextItems.{spaces_is}
use Rattle.st_collections.proofs.strings.new_spaces.Goals as goal

pub returns-clause-memory : goal.returns-clause-memory
returns-clause-memory g c =
    rw (spaces_is (program_of c.args.names.now) (g.H.Heap.meaning c.args.heap.now).store (Value.Character 32) c.args.count) c.new_items.ensures.memory

pub returns-clause-answer : goal.returns-clause-answer
returns-clause-answer g c =
    rw (spaces_is (program_of c.args.names.now) (g.H.Heap.meaning c.args.heap.now).store (Value.Character 32) c.args.count) c.new_items.ensures.answer
