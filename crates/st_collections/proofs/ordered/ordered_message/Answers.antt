use Rattle.st_collections.specs.Answers.{program_of}
use Rattle.st_collections.specs.SequenceRows.{collection_action}
use Rattle.st_collections.specs.Ordered.{IsOpen}
use Rattle.st_collections.proofs.Gaps.{size_open}
use Rattle.st_collections.proofs.ordered.ordered_message.Goals as goal

pub returns-in-RemoveFirst-clause-memory : goal.returns-in-RemoveFirst-clause-memory
unfolding collection_action
returns-in-RemoveFirst-clause-memory g c =
    let p = program_of c.args.names.now in
    let s = (g.H.Heap.meaning c.args.heap.now).store in
    let ready : IsOpen s c.in-Object.object = rw c.in-Object.is at c.requires.receiver in
    rw (c.in-Object.is, c.in-RemoveFirst.is, size_open p s c.in-Object.object ready) c.remove_first.ensures.memory

pub returns-in-RemoveFirst-clause-answer : goal.returns-in-RemoveFirst-clause-answer
unfolding collection_action
returns-in-RemoveFirst-clause-answer g c =
    let p = program_of c.args.names.now in
    let s = (g.H.Heap.meaning c.args.heap.now).store in
    let ready : IsOpen s c.in-Object.object = rw c.in-Object.is at c.requires.receiver in
    rw (c.in-Object.is, c.in-RemoveFirst.is, size_open p s c.in-Object.object ready) c.remove_first.ensures.answer

pub returns-in-RemoveLast-clause-memory : goal.returns-in-RemoveLast-clause-memory
unfolding collection_action
returns-in-RemoveLast-clause-memory g c =
    let p = program_of c.args.names.now in
    let s = (g.H.Heap.meaning c.args.heap.now).store in
    let ready : IsOpen s c.in-Object.object = rw c.in-Object.is at c.requires.receiver in
    rw (c.in-Object.is, c.in-RemoveLast.is, size_open p s c.in-Object.object ready) c.remove_last.ensures.memory

pub returns-in-RemoveLast-clause-answer : goal.returns-in-RemoveLast-clause-answer
unfolding collection_action
returns-in-RemoveLast-clause-answer g c =
    let p = program_of c.args.names.now in
    let s = (g.H.Heap.meaning c.args.heap.now).store in
    let ready : IsOpen s c.in-Object.object = rw c.in-Object.is at c.requires.receiver in
    rw (c.in-Object.is, c.in-RemoveLast.is, size_open p s c.in-Object.object ready) c.remove_last.ensures.answer
