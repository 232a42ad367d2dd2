use Rattle.st_compiler.specs.Around.{variables_of}
use Rattle.st_compiler.proofs.Mentioned.{marked-alike}
use Rattle.st_compiler.proofs.names.Mentions.marks.Goals as goal

pub returns : goal.returns
returns c = marked-alike c.marks.result c.in_ok-set.set c.args.self.now (variables_of c.args.parameters.now c.args.temporaries.now) c.in_ok-set.ensures c.marks.ensures
