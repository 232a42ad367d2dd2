use Rattle.st_messages.proofs.Blanks.{makes_blank-is, no_blank, no_blank-told, blank_told}
use Rattle.st_messages.proofs.makers.new_blank.Goals as goal

pub returns-in-Ok-clause-memory : goal.returns-in-Ok-clause-memory
returns-in-Ok-clause-memory g c =
    rw (makes_blank-is c.args.class c.args.slots c.args.bytes (g.H.Heap.meaning c.args.heap.now).store) c.in-Ok.ensures.made

pub returns-in-Ok-clause-answer : goal.returns-in-Ok-clause-answer
returns-in-Ok-clause-answer g c =
    blank_told c.in-Ok.object (g.H.Heap.meaning c.args.heap.now) c.args.class c.args.slots c.args.bytes c.in-Ok.ensures.answer

pub returns-in-Err-clause-memory : goal.returns-in-Err-clause-memory
returns-in-Err-clause-memory g c =
    rw c.answer_stop.ensures (no_blank c.in-Err.stop (g.H.Heap.meaning c.args.heap.now) (g.H.Heap.meaning c.blank.new.heap) c.args.class c.args.slots c.args.bytes c.in-Err.ensures.made c.in-Err.ensures.answer)

pub returns-in-Err-clause-answer : goal.returns-in-Err-clause-answer
returns-in-Err-clause-answer g c =
    rw c.answer_stop.ensures (no_blank-told c.in-Err.stop (g.H.Heap.meaning c.args.heap.now) c.args.class c.args.slots c.args.bytes c.in-Err.ensures.answer)
