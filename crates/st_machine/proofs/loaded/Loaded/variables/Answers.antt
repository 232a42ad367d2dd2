use Rattle.std.proofs.Common.{List, ap, ◌∙◌}
use Rattle.st_tree.specs.declared.units.Unit.{Unit}
use Rattle.program_image.specs.Images.{image_names}
use Rattle.st_machine.specs.Plans.{limits_of}
use Rattle.st_machine.proofs.Codes.{variables_of}
use Rattle.st_machine.proofs.loaded.Loaded.variables.Goals as goal

pub returns : goal.returns
returns c = variables_of c.args.self.now.units (limits_of c.args.self.now.limits) c.shared.result.now (c.shared.ensures ∙ ap (λ (us : List Unit). (image_names us).shared) c.image.ensures)
