use Rattle.std.proofs.Common.{List, ap, sym, ◌∙◌}
use Rattle.st_tree.specs.declared.units.Unit.{Unit}
use Rattle.st_code.specs.Program.{class_at}
use Rattle.program_image.specs.Images.{image_program}
use Rattle.st_machine.specs.Plans.{limits_of}
use Rattle.st_machine.proofs.Finding.{size_same}
use Rattle.st_machine.proofs.loaded.Loaded.slots.Goals as goal

pub returns : goal.returns
returns c = c.slots.ensures ∙ ap (λ (us : List Unit). (class_at (image_program us) c.args.class).slots) c.image.ensures ∙ sym (size_same c.args.self.now.units (limits_of c.args.self.now.limits) c.args.class)
