use Rattle.std.proofs.Common.{sym, ◌∙◌, ap}
use Rattle.st_code.specs.Program.{number_of}
use Rattle.program_image.specs.Images.{image_program}
use Rattle.st_machine.proofs.Finding.{number_same}
use Rattle.st_machine.proofs.loaded.Loaded.selector.Goals as goal

pub returns : goal.returns
returns c = c.selector_number.ensures.number ∙ ap (λ u. number_of (image_program u) c.args.text.now) c.image.ensures ∙ sym (number_same c.args.self.now c.args.text.now)
