use Rattle.std.proofs.Common.{◌∙◌}
use Rattle.program_image.specs.Images.{image_program}
use Rattle.signal_env.proofs.Plain.{set-fits}
use Rattle.signal_env.proofs.handlers.fits.Goals as goal

pub returns-in-Object : goal.returns-in-Object
returns-in-Object g c = rw c.in-Object.is (c.fits_some.ensures ∙ set-fits (image_program c.args.image.now) (g.H.Heap.meaning c.args.heap.now).store c.in-Object.set c.args.class)
