use Rattle.std.proofs.Common.{ap, sym}
use Rattle.st_code.specs.Compiled.{Compiled, seen_code}
use Rattle.st_machine.proofs.Codes.{code-some, code-none}
use Rattle.st_machine.proofs.loaded.Loaded.parameters.Goals as goal

pub returns-in-Some : goal.returns-in-Some
returns-in-Some c = sym (ap (λ (x : Compiled). x.parameters) (code-some c.args.self.now.codes c.args.code (seen_code c.in-Some.code.now) c.in-Some.ensures.code))

pub returns-in-None : goal.returns-in-None
returns-in-None c = sym (ap (λ (x : Compiled). x.parameters) (code-none c.args.self.now.codes c.args.code c.in-None.ensures.code))
