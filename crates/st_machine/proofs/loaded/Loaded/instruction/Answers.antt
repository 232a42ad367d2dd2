use Rattle.std.proofs.Common.{slice_get, ap, sym, ◌∙◌}
use Rattle.st_code.specs.Compiled.{Compiled, seen_code}
use Rattle.st_machine.proofs.Codes.{code-some, code-none, nothing-at}
use Rattle.st_machine.proofs.loaded.Loaded.instruction.Goals as goal

pub returns-in-Some : goal.returns-in-Some
returns-in-Some c = c.instruction_in.ensures ∙ sym (ap (λ (x : Compiled). slice_get x.instructions c.args.position) (code-some c.args.self.now.codes c.args.code (seen_code c.in-Some.code.now) c.in-Some.ensures.code))

pub returns-in-None : goal.returns-in-None
returns-in-None c = sym (ap (λ (x : Compiled). slice_get x.instructions c.args.position) (code-none c.args.self.now.codes c.args.code c.in-None.ensures.code) ∙ nothing-at c.args.position)
