use Rattle.std.proofs.Common.{ap, ℕ, List}
use Rattle.sif_chunks.specs.Window.{Held}
use Rattle.sif_chunks.proofs.WindowLemmas.{slice_passed}
use Rattle.sif_chunks.proofs.window.Window.pass.Goals as goal

pub returns : goal.returns
returns c =
    rw (← c.self.view_is) (ap (λ (xs : List ℕ). let held : Held = record { pending = xs; taken = c.self.inside.taken } in held)
    (slice_passed c.self.inside.bytes.items c.self.inside.start c.self.inside.end c.args.count c.self.invariant.order c.self.invariant.within (rw (← c.self.view_is) at c.requires)))
