use Rattle.std.proofs.Common.{sym, ◌∙◌}
use Rattle.st_compiler.proofs.Mentioned.{has-any}
use Rattle.st_compiler.proofs.names.NameSet.has.Goals as goal

pub returns : goal.returns
returns c = c.contains.ensures ∙ sym (has-any c.args.self.now c.args.name.now)
