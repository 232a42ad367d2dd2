use Rattle.std.proofs.Math.Facts.{to_z-of_z}
use Rattle.st_loops.specs.States.{state_of}
use Rattle.st_sprint.proofs.VisitsAt.{visits_element, visits_no_more}
use Rattle.st_sprint.proofs.moves.element_move.Goals as goal

pub returns-in-Element : goal.returns-in-Element
returns-in-Element g c p v = rw (to_z-of_z c.ranges.index) (visits_element p (g.H.Heap.meaning c.args.heap.now).store c.args.index (state_of c.args.state.now) c.place_in.result (rw (to_z-of_z c.ranges.index) at (c.place_in.ensures p)) c.first_of.result c.in-Element.element v c.in-Element.is c.first_of.ensures)

pub returns-in-Past : goal.returns-in-Past
returns-in-Past g c p v = visits_no_more p (g.H.Heap.meaning c.args.heap.now).store c.args.index (state_of c.args.state.now) c.place_in.result (rw (to_z-of_z c.ranges.index) at (c.place_in.ensures p)) v c.in-Past.is
