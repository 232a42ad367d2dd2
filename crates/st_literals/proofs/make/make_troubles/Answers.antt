use Rattle.st_code.specs.Literals.{trouble_literals}
use Rattle.st_literals.proofs.make.make_troubles.Goals as goal

pub returns : goal.returns
unfolding trouble_literals
returns g c = c.make_texts.ensures
