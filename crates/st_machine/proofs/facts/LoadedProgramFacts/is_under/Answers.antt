use Rattle.std.proofs.Common.{List, ap, sym, ◌∙◌}
use Rattle.st_tree.specs.declared.units.Unit.{Unit}
use Rattle.st_code.specs.Lookup.{inherits}
use Rattle.program_image.specs.Images.{image_program}
use Rattle.st_machine.proofs.Finding.{inherits_same}
use Rattle.st_machine.proofs.facts.LoadedProgramFacts.is_under.Goals as goal

pub returns : goal.returns
returns c = c.inherits.ensures ∙ ap (λ (us : List Unit). inherits (image_program us) c.args.class c.args.ancestor) c.image.ensures ∙ sym (inherits_same c.args.self.now c.args.class c.args.ancestor)
