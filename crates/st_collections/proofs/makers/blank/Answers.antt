use Rattle.std.proofs.Common.{ap, sym, ◌∙◌}
use Rattle.object_heap.specs.Charges.{Memory, if_out}
use Rattle.st_collections.proofs.Objects.{made_bytes}
use Rattle.st_collections.proofs.makers.blank.Goals as goal

pub returns-then-holds_bytes-clause-made : goal.returns-then-holds_bytes-clause-made
returns-then-holds_bytes-clause-made g c =
    c.make.ensures.made ∙ ap (λ (m : Memory). if_out c.make.result (g.H.Heap.meaning c.args.heap.now) m) (made_bytes c.args.class c.args.count (g.H.Heap.meaning c.args.heap.now) (sym c.holds_bytes.ensures ∙ c.if-holds_bytes.true))
