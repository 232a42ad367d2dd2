use Rattle.std.proofs.Common.{ap, ◌∙◌}
use Rattle.object_heap.specs.Charges.{Memory, if_out}
use Rattle.st_loops.proofs.Made.{made_string}
use Rattle.st_loops.proofs.makers.blank_string.Goals as goal

pub returns-clause-made : goal.returns-clause-made
returns-clause-made g c =
    c.make.ensures.made ∙ ap (λ (m : Memory). if_out c.make.result (g.H.Heap.meaning c.args.heap.now) m) (made_string c.args.count (g.H.Heap.meaning c.args.heap.now))
