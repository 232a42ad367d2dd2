use Rattle.std.proofs.Common.{sym, ◌∙◌}
use Rattle.program_image.proofs.Numbers.{named-there, named-not}
use Rattle.st_literals.proofs.make.symbol_number.Goals as goal

pub returns-in-Some : goal.returns-in-Some
returns-in-Some c = named-there c.args.names.now c.args.text.now c.in-Some.number (sym c.in-Some.is ∙ c.find.ensures)

pub returns-in-None : goal.returns-in-None
returns-in-None c = c.len.ensures ∙ named-not c.args.names.now c.args.text.now (sym c.in-None.is ∙ c.find.ensures)
