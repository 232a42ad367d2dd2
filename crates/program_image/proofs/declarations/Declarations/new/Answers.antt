use Rattle.std.proofs.Common.{map}
use Rattle.program_image.specs.Classes.{seen_class}
use Rattle.program_image.proofs.Classes.{first-numbered}
use Rattle.program_image.proofs.declarations.Declarations.new.Goals as goal

pub invariant_of-result : goal.invariant_of-result
invariant_of-result c = rw c.new.ensures (first-numbered c.args.names (map seen_class c.in_ok-first_classes.field-0) c.in_ok-first_classes.ensures)
