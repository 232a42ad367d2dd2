use Rattle.std.proofs.Common.{List, ap, sym, ◌∙◌}
use Rattle.st_tree.specs.declared.units.Unit.{Unit}
use Rattle.st_code.specs.Texts.{Text}
use Rattle.st_code.specs.Resolved.{number_or_last}
use Rattle.program_image.specs.Images.{image_names}
use Rattle.program_image.proofs.Numbers.{named-there, named-not}
use Rattle.st_machine.proofs.Known.{number-is}
use Rattle.st_machine.proofs.facts.LoadedProgramFacts.name_number.Goals as goal

pub returns-in-Some : goal.returns-in-Some
returns-in-Some c =
    named-there c.names-names.result.now c.args.text.now c.in-Some.number (sym c.in-Some.is ∙ c.find.ensures)
    ∙ ap (λ (names : List Text). number_or_last names c.args.text.now) (c.names-names.ensures ∙ ap (λ (us : List Unit). (image_names us).names) c.image.ensures) ∙ number-is c.args.self.now c.args.text.now

pub returns-in-None : goal.returns-in-None
returns-in-None c =
    c.len.ensures ∙ named-not c.names-names.result.now c.args.text.now (sym c.in-None.is ∙ c.find.ensures)
    ∙ ap (λ (names : List Text). number_or_last names c.args.text.now) (c.names-names.ensures ∙ ap (λ (us : List Unit). (image_names us).names) c.image.ensures) ∙ number-is c.args.self.now c.args.text.now
