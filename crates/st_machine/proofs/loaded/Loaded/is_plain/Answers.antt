use Rattle.std.proofs.Common.{sym, ◌∙◌, ap}
use Rattle.st_code.specs.Lookup as code
use Rattle.program_image.specs.Images.{image_program}
use Rattle.st_machine.proofs.Finding.{plain_same, handles_is}
use Rattle.st_machine.proofs.loaded.Loaded.is_plain.Goals as goal

pub selector_number-handles-requires : goal.selector_number-handles-requires
selector_number-handles-requires g c = handles_is

pub returns : goal.returns
returns g c = c.is_plain.ensures ∙ ap (λ u. code.is_plain (image_program u) (g.H.Heap.meaning c.args.heap.now).store c.args.selector) c.image-image.ensures ∙ sym (plain_same c.args.self.now (g.H.Heap.meaning c.args.heap.now).store c.args.selector)
