use Rattle.std.proofs.Common.{◌≡◌, suc}
use Rattle.st_code.specs.Resolved.{in_classes}
use Rattle.program_image.specs.Images.{image_names}
use Rattle.st_compiler.proofs.around.in_classes.Given as goal

abbrev pub invariant-loop-left : goal.invariant-loop-left
invariant-loop-left l = in_classes (image_names l.lookups) (suc l.class) l.class l.text ≡ in_classes (image_names l.lookups) l.left l.at l.text

abbrev pub decreases-loop-left : goal.decreases-loop-left
decreases-loop-left l = l.left
