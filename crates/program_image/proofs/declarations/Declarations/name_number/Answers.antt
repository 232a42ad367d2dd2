use Rattle.std.proofs.Common.{ap, sym, ◌∙◌}
use Rattle.st_code.specs.Resolved.{Names, number_or_last}
use Rattle.program_image.proofs.Numbers.{named-there, named-not}
use Rattle.program_image.proofs.declarations.Declarations.name_number.Goals as goal

pub returns-in-Some : goal.returns-in-Some
returns-in-Some c = named-there c.self.inside.names c.args.text.now c.in-Some.number (sym c.in-Some.is ∙ c.find.ensures) ∙ ap (λ (x : Names). number_or_last x.names c.args.text.now) c.self.view_is

pub returns-in-None : goal.returns-in-None
returns-in-None c = c.len.ensures ∙ named-not c.self.inside.names c.args.text.now (sym c.in-None.is ∙ c.find.ensures) ∙ ap (λ (x : Names). number_or_last x.names c.args.text.now) c.self.view_is
