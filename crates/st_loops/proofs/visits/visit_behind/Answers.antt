use Rattle.std.proofs.Common.{◌^◌, pos, FitsSigned, rules}
use Rattle.std.specs.Int.{w128}
use Rattle.st_collections.specs.Answers.{program_of}
use Rattle.st_collections.specs.Kinds.{size_of}
use Rattle.st_loops.specs.Kinds.{message_of}
use Rattle.st_loops.specs.States.{state_of}
use Rattle.st_loops.proofs.ByPlace.{visit-behind}
use Rattle.st_loops.proofs.visits.visit_behind.Goals as goal

pub returns-in-Some-clause-memory : goal.returns-in-Some-clause-memory
returns-in-Some-clause-memory g c =
    let m = g.H.Heap.meaning c.args.heap.now in
    let p = program_of c.args.names.now in
    let fits : FitsSigned w128 c.in-Some.field-0 = search rules in
    let few : FitsSigned w128 (pos (size_of p m.store c.args.state.receiver)) = rw c.in-Some.ensures.size at fits in
    rw (visit-behind p m.store (message_of c.args.state.kind) (state_of c.args.state) (2 ^ 127) c.requires.elements few.sfits)
    (rw c.size_now.ensures.memory at c.visit_end.ensures.memory)

pub returns-in-Some-clause-step : goal.returns-in-Some-clause-step
returns-in-Some-clause-step g c =
    let m = g.H.Heap.meaning c.args.heap.now in
    let p = program_of c.args.names.now in
    let fits : FitsSigned w128 c.in-Some.field-0 = search rules in
    let few : FitsSigned w128 (pos (size_of p m.store c.args.state.receiver)) = rw c.in-Some.ensures.size at fits in
    rw (visit-behind p m.store (message_of c.args.state.kind) (state_of c.args.state) (2 ^ 127) c.requires.elements few.sfits)
    (rw c.size_now.ensures.memory at c.visit_end.ensures.step)
