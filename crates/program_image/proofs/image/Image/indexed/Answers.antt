use Rattle.std.proofs.Common.{ap, sym}
use Rattle.st_code.specs.Program.{ClassRow}
use Rattle.program_image.specs.Classes.{seen_class}
use Rattle.program_image.proofs.Walks.{row-some, row-none}
use Rattle.program_image.proofs.image.Image.indexed.Goals as goal

pub returns-in-Some : goal.returns-in-Some
returns-in-Some c = sym (ap (λ (r : ClassRow). r.indexed) (row-some c.args.self.now c.args.class (seen_class c.in-Some.class.now) c.in-Some.ensures))

pub returns-in-None : goal.returns-in-None
returns-in-None c = sym (ap (λ (r : ClassRow). r.indexed) (row-none c.args.self.now c.args.class c.in-None.ensures))
