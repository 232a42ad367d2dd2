use Rattle.std.proofs.Common.{◌≡◌}
use Rattle.st_code.specs.Lookup.{inherits}
use Rattle.program_image.specs.Images.{image_program}
use Rattle.program_image.proofs.image.Image.inherits.Given as goal

abbrev pub invariant-loop-at : goal.invariant-loop-at
invariant-loop-at l = inherits (image_program l.self) l.class l.ancestor ≡ inherits (image_program l.self) l.at l.ancestor

abbrev pub decreases-loop-at : goal.decreases-loop-at
decreases-loop-at l = l.at
