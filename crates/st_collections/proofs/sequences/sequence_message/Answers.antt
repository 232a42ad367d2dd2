use Rattle.st_collections.specs.SequenceRows.{sequence_action}
use Rattle.st_collections.proofs.sequences.sequence_message.Goals as goal

pub returns-in-At-clause-answer : goal.returns-in-At-clause-answer
unfolding sequence_action
returns-in-At-clause-answer g c = rw (c.at.ensures.settled, c.in-At.is, ← c.first_of-argument.ensures) (c.at.ensures.answer (g.H.Heap.meaning c.args.heap.now))
