use Rattle.std.proofs.Common.{◌≡◌, map}
use Rattle.st_code.specs.Lookup.{level, superclasses}
use Rattle.program_image.specs.Images.{image_program, image_found_in, on_side}
use Rattle.program_image.proofs.image.Image.found_up.Given as goal

abbrev pub invariant-loop-found : goal.invariant-loop-found
invariant-loop-found l = image_found_in l.self (map (level (on_side l.side)) (superclasses (image_program l.self) l.class)) l.selector ≡ image_found_in l.self (map (level (on_side l.side)) (superclasses (image_program l.self) l.at)) l.selector

abbrev pub decreases-loop-found : goal.decreases-loop-found
decreases-loop-found l = l.at
