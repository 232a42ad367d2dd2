use Rattle.std.proofs.Common.{List}
use Rattle.program_image.specs.Finding.{program_of_image}
use Rattle.st_machine.specs.Plans.{limits_of, program_from}
use Rattle.st_machine.proofs.Codes.{initializers-are}
use Rattle.st_machine.proofs.loaded.Loaded.initializers.Goals as goal

pub returns : goal.returns
unfolding program_of_image
returns c = rw (← c.self.view_is) (initializers-are c.initializers.result.now (program_from c.self.inside.program c.self.inside.limits).initializers (c.initializers.ensures (limits_of c.self.inside.limits)))
