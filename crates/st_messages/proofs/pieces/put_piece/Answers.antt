use Rattle.std.proofs.Common.{sym}
use Rattle.st_messages.proofs.Puts.{put_none}
use Rattle.st_messages.proofs.pieces.put_piece.Goals as goal

pub returns-in-Nothing-clause-written : goal.returns-in-Nothing-clause-written
returns-in-Nothing-clause-written g c = rw c.in-Nothing.is (sym (put_none c.args.object c.args.at (g.H.Heap.meaning c.args.heap.now)))
