use Rattle.std.proofs.Common.{List, ap, ◌∙◌}
use Rattle.st_tree.specs.declared.units.Unit.{Unit}
use Rattle.program_image.specs.Images.{image_names}
use Rattle.st_machine.proofs.Known.{names-are}
use Rattle.st_machine.proofs.loaded.Loaded.names.Goals as goal

pub returns : goal.returns
returns c = c.names.ensures ∙ ap (λ (us : List Unit). (image_names us).names) c.image.ensures ∙ names-are c.args.self.now
