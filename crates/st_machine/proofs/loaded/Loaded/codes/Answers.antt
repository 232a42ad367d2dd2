use Rattle.program_image.specs.Finding.{program_of_image}
use Rattle.st_machine.specs.Plans.{limits_of}
use Rattle.st_machine.proofs.loaded.Loaded.codes.Goals as goal

pub returns : goal.returns
unfolding program_of_image
returns c = rw (← c.self.view_is) (c.codes.ensures (limits_of c.self.inside.limits))
