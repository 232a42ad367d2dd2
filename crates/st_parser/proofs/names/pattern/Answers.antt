use Rattle.std.proofs.Common.{◌≡◌}
use Rattle.st_parser.proofs.NameSteps.{unary_pattern}
use Rattle.st_parser.proofs.names.pattern.Goals as goal

pub returns-in_ok-selector-clause-read : goal.returns-in_ok-selector-clause-read
returns-in_ok-selector-clause-read c = rw (c.advance.ensures, c.in_ok-selector.ensures, c.text_at.ensures, c.new.ensures) (unary_pattern c.args.source.now c.args.tokens.now c.args.at.now (cc) (cc))
