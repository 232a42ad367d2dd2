use Rattle.std.proofs.Common.{◌≡◌}
use Rattle.st_parser.proofs.NameSteps.{named_opening, unnamed_opening, unnamed_read}
use Rattle.st_parser.proofs.names.opening.Goals as goal

pub returns-in_ok-behind_parameters-clause-read : goal.returns-in_ok-behind_parameters-clause-read
returns-in_ok-behind_parameters-clause-read c = λ e. named_opening c.args.parameters.now (cc) (c.in_ok-behind_parameters.ensures.read e c.new-all.ensures)

pub returns-in_ok-temporaries-clause-read : goal.returns-in_ok-temporaries-clause-read
returns-in_ok-temporaries-clause-read c = λ e. unnamed_opening c.args.parameters.now (cc) (unnamed_read c.args.source.now c.args.tokens.now c.args.at.now e (rw c.new-all.ensures at c.in_ok-temporaries.ensures.read))
