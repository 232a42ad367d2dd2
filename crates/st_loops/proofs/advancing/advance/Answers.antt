use Rattle.st_loops.specs.States.{state_of}
use Rattle.st_loops.proofs.ByNames.{next_visit-names}
use Rattle.st_loops.proofs.advancing.advance.Goals as goal

pub returns-clause-memory : goal.returns-clause-memory
returns-clause-memory g c = λ p e. rw (next_visit-names p c.args.names.now (g.H.Heap.meaning c.args.heap.now).store (state_of c.args.state) c.args.given e) c.step_by_names.ensures.memory

pub returns-clause-step : goal.returns-clause-step
returns-clause-step g c = λ p e. rw (next_visit-names p c.args.names.now (g.H.Heap.meaning c.args.heap.now).store (state_of c.args.state) c.args.given e) c.step_by_names.ensures.step

pub returns-clause-partway : goal.returns-clause-partway
returns-clause-partway g c = λ p e. rw (next_visit-names p c.args.names.now (g.H.Heap.meaning c.args.heap.now).store (state_of c.args.state) c.args.given e) c.step_by_names.ensures.partway
