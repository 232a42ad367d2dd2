use Rattle.std.proofs.Common.{◌≡◌, drop}
use Rattle.object_heap.specs.Store.{object_at}
use Rattle.st_messages.specs.Selectors.{fits_any}
use Rattle.st_messages.proofs.selectors.fits_some.Given as goal

-- what is behind decides
abbrev pub invariant-loop-place : goal.invariant-loop-place
invariant-loop-place g l =
    let slots = (object_at l.set (g.H.Heap.meaning l.heap).store).slots in
    fits_any (g.P.ProgramFacts.meaning l.program) l.class (drop l.place slots) ≡ fits_any (g.P.ProgramFacts.meaning l.program) l.class slots
