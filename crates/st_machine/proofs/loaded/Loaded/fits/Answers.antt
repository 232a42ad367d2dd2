use Rattle.std.proofs.Common.{sym, ◌∙◌, ap}
use Rattle.st_code.specs.Lookup as code
use Rattle.program_image.specs.Images.{image_program}
use Rattle.st_machine.proofs.Finding.{fits_same}
use Rattle.st_machine.proofs.loaded.Loaded.fits.Goals as goal

pub returns : goal.returns
returns g c = c.fits.ensures ∙ ap (λ u. code.fits (image_program u) (g.H.Heap.meaning c.args.heap.now).store c.args.selector c.args.class) c.image.ensures ∙ sym (fits_same c.args.self.now (g.H.Heap.meaning c.args.heap.now).store c.args.selector c.args.class)
