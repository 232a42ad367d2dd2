use Rattle.std.proofs.Common.{List, ap, sym, ◌∙◌}
use Rattle.st_tree.specs.declared.units.Unit.{Unit}
use Rattle.st_code.specs.Program.{class_at}
use Rattle.program_image.specs.Images.{image_program}
use Rattle.st_machine.specs.Plans.{limits_of}
use Rattle.st_machine.proofs.Codes.{class_of_plan}
use Rattle.st_machine.proofs.loaded.Loaded.first_class_slot.Goals as goal

pub returns-in-Class : goal.returns-in-Class
returns-in-Class c = rw c.in-Class.is (c.class_slots.ensures ∙ ap (λ (us : List Unit). (class_at (image_program us) c.in-Class.class).class_slots) c.image.ensures ∙ sym (class_of_plan c.args.self.now.units (limits_of c.args.self.now.limits) c.in-Class.class))
