use Rattle.std.proofs.Common.{◌<◌, ap, sym, ◌∙◌}
use Rattle.st_code.specs.Program.{ClassRow}
use Rattle.program_image.specs.Classes.{seen_class}
use Rattle.program_image.proofs.Walks.{row-some, row-none, image-lower, if-some}
use Rattle.program_image.proofs.image.Image.superclass.Goals as goal

pub returns-in-Some-clause-value : goal.returns-in-Some-clause-value
returns-in-Some-clause-value c = sym (ap (λ (r : ClassRow). r.superclass) (row-some c.args.self.now c.args.class (seen_class c.in-Some.class.now) c.in-Some.ensures))

pub returns-in-None-clause-value : goal.returns-in-None-clause-value
returns-in-None-clause-value c = sym (ap (λ (r : ClassRow). r.superclass) (row-none c.args.self.now c.args.class c.in-None.ensures))

pub returns-in-Some-clause-there : goal.returns-in-Some-clause-there
returns-in-Some-clause-there c =
    if-some c.in-Some.class.now.superclass (λ above. above < c.args.class)
    (λ s is. image-lower c.args.self.now c.args.class s (ap (λ (r : ClassRow). r.superclass) (row-some c.args.self.now c.args.class (seen_class c.in-Some.class.now) c.in-Some.ensures) ∙ is))
