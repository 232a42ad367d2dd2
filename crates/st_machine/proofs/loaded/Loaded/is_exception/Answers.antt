use Rattle.std.proofs.Common.{◌∙◌, ap}
use Rattle.st_code.specs.Lookup as code
use Rattle.st_code.specs.BuiltIns.{exception_class}
use Rattle.program_image.specs.Images.{image_program}
use Rattle.st_machine.proofs.Finding.{exception_same}
use Rattle.st_machine.proofs.loaded.Loaded.is_exception.Goals as goal

pub returns-in-Object : goal.returns-in-Object
returns-in-Object g c =
    rw c.in-Object.is
    (c.inherits.ensures
    ∙ ap (λ u. code.inherits (image_program u) c.class_of.result exception_class) c.image.ensures
    ∙ ap (λ k. code.inherits (image_program c.args.self.now.units) k exception_class) c.class_of.ensures
    ∙ exception_same c.args.self.now (g.H.Heap.meaning c.args.heap.now).store c.in-Object.number)
