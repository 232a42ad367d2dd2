use Rattle.std.proofs.Common.{FitsSigned, rules}
use Rattle.std.specs.Int.{w128}
use Rattle.std.proofs.lemmas.Int.{to_z-of_z}
use Rattle.st_collections.specs.Answers.{program_of}
use Rattle.st_loops.specs.Kinds.{message_of}
use Rattle.st_loops.specs.States.{state_of}
use Rattle.st_loops.specs.Visits.{visited_at}
use Rattle.st_loops.proofs.ByPlace.{memory-free, told-free, visit-found, visit-past}
use Rattle.st_loops.proofs.visits.visit_place.Goals as goal

pub returns-in-Element-clause-memory : goal.returns-in-Element-clause-memory
returns-in-Element-clause-memory g c =
    let m = g.H.Heap.meaning c.args.heap.now in
    let fits : FitsSigned w128 c.args.state.index = search rules in
    let k = message_of c.args.state.kind in
    let l = state_of c.args.state in
    rw (visit-found (program_of c.args.names.now) m.store k l c.in-Element.element c.requires.elements (rw (to_z-of_z w128 c.args.state.index fits) at c.in-Element.ensures.place))
    (memory-free c.visit_element.result (visited_at m.store k l c.in-Element.element) m (g.H.Heap.meaning c.place_at.new.heap) (rw c.place_at.ensures.memory at c.visit_element.ensures) c.place_at.ensures.memory)

pub returns-in-Element-clause-step : goal.returns-in-Element-clause-step
returns-in-Element-clause-step g c =
    let m = g.H.Heap.meaning c.args.heap.now in
    let fits : FitsSigned w128 c.args.state.index = search rules in
    let k = message_of c.args.state.kind in
    let l = state_of c.args.state in
    rw (visit-found (program_of c.args.names.now) m.store k l c.in-Element.element c.requires.elements (rw (to_z-of_z w128 c.args.state.index fits) at c.in-Element.ensures.place))
    (told-free c.visit_element.result (visited_at m.store k l c.in-Element.element) m (rw c.place_at.ensures.memory at c.visit_element.ensures))

pub returns-in-Past-clause-memory : goal.returns-in-Past-clause-memory
returns-in-Past-clause-memory g c =
    let m = g.H.Heap.meaning c.args.heap.now in
    let fits : FitsSigned w128 c.args.state.index = search rules in
    rw (visit-past (program_of c.args.names.now) m.store (message_of c.args.state.kind) (state_of c.args.state) c.requires.elements (rw (to_z-of_z w128 c.args.state.index fits) at c.in-Past.ensures.place))
    (rw c.place_at.ensures.memory at c.visit_end.ensures.memory)

pub returns-in-Past-clause-step : goal.returns-in-Past-clause-step
returns-in-Past-clause-step g c =
    let m = g.H.Heap.meaning c.args.heap.now in
    let fits : FitsSigned w128 c.args.state.index = search rules in
    rw (visit-past (program_of c.args.names.now) m.store (message_of c.args.state.kind) (state_of c.args.state) c.requires.elements (rw (to_z-of_z w128 c.args.state.index fits) at c.in-Past.ensures.place))
    (rw c.place_at.ensures.memory at c.visit_end.ensures.step)
