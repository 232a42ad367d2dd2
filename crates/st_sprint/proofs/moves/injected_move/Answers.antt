use Rattle.std.proofs.Math.Facts.{to_z-of_z}
use Rattle.st_loops.specs.States.{state_of}
use Rattle.st_sprint.proofs.VisitsAt.{injects_element, injects_no_more}
use Rattle.st_sprint.proofs.moves.injected_move.Goals as goal

pub returns-in-Element : goal.returns-in-Element
returns-in-Element g c p = rw (to_z-of_z c.ranges.index) (injects_element p (g.H.Heap.meaning c.args.heap.now).store c.args.index (state_of c.args.state.now) c.place_in.result (rw (to_z-of_z c.ranges.index) at (c.place_in.ensures p)) c.second_of.result c.in-Element.element c.args.given c.in-Element.is c.second_of.ensures)

pub returns-in-Past : goal.returns-in-Past
returns-in-Past g c p = injects_no_more p (g.H.Heap.meaning c.args.heap.now).store c.args.index (state_of c.args.state.now) c.place_in.result (rw (to_z-of_z c.ranges.index) at (c.place_in.ensures p)) c.args.given c.in-Past.is
