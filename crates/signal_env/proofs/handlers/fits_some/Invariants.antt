use Rattle.std.proofs.Common.{◌≡◌, drop}
use Rattle.object_heap.specs.Store.{object_at}
use Rattle.program_image.specs.Images.{image_program}
use Rattle.signal_env.specs.Searches.{some_fits}
use Rattle.signal_env.proofs.handlers.fits_some.Given as goal

abbrev pub invariant-loop-slot : goal.invariant-loop-slot
invariant-loop-slot g l = some_fits (image_program l.image) l.class (drop l.slot (object_at l.set (g.H.Heap.meaning l.heap).store).slots) ≡ some_fits (image_program l.image) l.class (object_at l.set (g.H.Heap.meaning l.heap).store).slots
