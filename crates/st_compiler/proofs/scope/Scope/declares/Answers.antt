use Rattle.std.proofs.Common.{Option, ℕ, ap, ◌∙◌}
use Rattle.std.specs.Option.{is_some}
use Rattle.st_compiler.proofs.Mentioned.{placed-has}
use Rattle.st_compiler.proofs.scope.Scope.declares.Goals as goal

pub returns : goal.returns
returns c = c.is_some.ensures ∙ ap (λ (o : Option ℕ). is_some o) c.place.ensures ∙ placed-has c.args.self.now c.args.text.now 0
