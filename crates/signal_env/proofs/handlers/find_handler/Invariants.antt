use Rattle.std.proofs.Common.{◌≡◌}
use Rattle.program_image.specs.Images.{image_program}
use Rattle.st_contexts.specs.Stack.{env_in}
use Rattle.signal_env.specs.Searches.{search_in}
use Rattle.signal_env.proofs.handlers.find_handler.Given as goal

abbrev pub invariant-loop-entry : goal.invariant-loop-entry
invariant-loop-entry g l = search_in (image_program l.image) (g.H.Heap.meaning l.heap).store l.class (env_in l.contexts.acts l.link.0) ≡ search_in (image_program l.image) (g.H.Heap.meaning l.heap).store l.class (env_in l.contexts.acts l.fn.env.0)

abbrev pub decreases-loop-entry : goal.decreases-loop-entry
decreases-loop-entry g l = l.link.0
