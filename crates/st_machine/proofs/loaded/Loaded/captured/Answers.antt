use Rattle.std.proofs.Common.{ap, sym, ◌∙◌}
use Rattle.st_code.specs.Compiled.{Compiled, seen_code}
use Rattle.st_machine.proofs.Codes.{code-some, code-none}
use Rattle.st_machine.proofs.loaded.Loaded.captured.Goals as goal

pub returns-in-Some-clause-captured : goal.returns-in-Some-clause-captured
returns-in-Some-clause-captured c = c.deref.ensures.value ∙ sym (ap (λ (x : Compiled). x.captured) (code-some c.args.self.now.codes c.args.code (seen_code c.in-Some.code.now) c.in-Some.ensures.code))

pub returns-in-Some-clause-short : goal.returns-in-Some-clause-short
returns-in-Some-clause-short c = rw c.deref.ensures.value c.in-Some.ensures.short

pub returns-in-None-clause-captured : goal.returns-in-None-clause-captured
returns-in-None-clause-captured c = sym (ap (λ (x : Compiled). x.captured) (code-none c.args.self.now.codes c.args.code c.in-None.ensures.code))
