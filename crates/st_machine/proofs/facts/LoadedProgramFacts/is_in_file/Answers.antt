use Rattle.std.proofs.Common.{List, ap, ◌∙◌}
use Rattle.st_tree.specs.declared.units.Unit.{Unit}
use Rattle.st_code.specs.Program.{ClassRow, class_at}
use Rattle.program_image.specs.Images.{image_program}
use Rattle.st_machine.proofs.Known.{classes-are}
use Rattle.st_machine.proofs.facts.LoadedProgramFacts.is_in_file.Goals as goal

pub returns : goal.returns
returns c = c.is_in_file.ensures ∙ ap (λ (us : List Unit). (class_at (image_program us) c.args.class).in_file) c.image.ensures ∙ ap (λ (r : ClassRow). r.in_file) (classes-are c.args.self.now c.args.class)
