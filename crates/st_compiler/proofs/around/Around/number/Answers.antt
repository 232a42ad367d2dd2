use Rattle.std.proofs.Common.{List, ap, sym, ◌∙◌}
use Rattle.st_tree.specs.declared.units.Unit.{Unit}
use Rattle.st_code.specs.Texts.{Text}
use Rattle.st_code.specs.Resolved.{Context, number_or_last}
use Rattle.program_image.specs.Images.{image_names}
use Rattle.program_image.proofs.Numbers.{named-there, named-not}
use Rattle.st_compiler.proofs.around.Around.number.Goals as goal

pub returns-in-Some : goal.returns-in-Some
returns-in-Some c = named-there c.names-names.result.now c.args.text.now c.in-Some.number (sym c.in-Some.is ∙ c.find.ensures) ∙ ap (λ (names : List Text). number_or_last names c.args.text.now) c.names-names.ensures ∙ ap (λ (units : List Unit). number_or_last (image_names units).names c.args.text.now) c.image.ensures ∙ ap (λ (x : Context). number_or_last x.names.names c.args.text.now) c.self.view_is

pub returns-in-None : goal.returns-in-None
returns-in-None c = c.len.ensures ∙ named-not c.names-names.result.now c.args.text.now (sym c.in-None.is ∙ c.find.ensures) ∙ ap (λ (names : List Text). number_or_last names c.args.text.now) c.names-names.ensures ∙ ap (λ (units : List Unit). number_or_last (image_names units).names c.args.text.now) c.image.ensures ∙ ap (λ (x : Context). number_or_last x.names.names c.args.text.now) c.self.view_is
