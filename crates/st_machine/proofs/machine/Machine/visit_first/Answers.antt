use Rattle.std.proofs.Common.{sym, ◌∙◌, if◌then◌else◌}
use Rattle.st_collections.specs.Loops.{first_visit}
use Rattle.st_loops.specs.Gathering.{gathers}
use Rattle.st_loops.specs.Kinds.{message_of}
use Rattle.st_loops.specs.Starts.{started}
use Rattle.st_loops.specs.Steps.{seen}
use Rattle.st_machine.specs.Plans.{program_in}
use Rattle.st_machine.specs.Seen.{Seen}
use Rattle.st_machine.proofs.Replied.{visited_so}
use Rattle.st_machine.proofs.machine.Machine.visit_first.Goals as goal

pub returns : goal.returns
returns g c =
    let s : Seen = record { plan = c.self.inside.loaded; stack = c.self.inside.contexts; memory = g.H.Heap.meaning c.self.inside.heap; variables = c.self.inside.variables.items; passed = c.self.inside.passed; mode = c.self.inside.mode; steps = c.self.inside.steps; deepest = c.self.inside.deepest; initializers = c.self.inside.initializers; instructions = c.self.inside.instructions } in
    let p = program_in c.self.inside.loaded in
    let e = sym c.names-names.ensures in
    let memory = rw c.values.ensures at (c.begin-step.ensures.memory p e) in
    let step = rw c.values.ensures at (c.begin-step.ensures.step p e) in
    let other = (if gathers (message_of c.args.kind) then g.H.Heap.meaning c.begin-step.new.heap else g.H.Heap.meaning c.self.inside.heap) in
    rw (← c.self.view_is) (c.step_loop.ensures ∙ visited_so s (first_visit p s.memory.store (started p s.memory.store (message_of c.args.kind) c.args.receiver s.passed.values)) c.args.env (g.H.Heap.meaning c.begin-step.new.heap) other (seen c.begin-step.result) (c.begin-step.ensures.reserved c.self.invariant) memory step)
