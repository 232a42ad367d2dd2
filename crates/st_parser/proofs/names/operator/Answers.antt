use Rattle.std.proofs.Common.{◌≡◌}
use Rattle.st_parser.proofs.NameSteps.{binary_pattern}
use Rattle.st_parser.proofs.names.operator.Goals as goal

pub returns-clause-read : goal.returns-clause-read
returns-clause-read c = λ e. rw (c.advance-2.ensures, c.in_ok-push.ensures.ok, c.new-parameters.ensures, c.in_ok-name_at.ensures, c.advance.ensures, c.in_ok-selector.ensures, c.text_at.ensures) (binary_pattern c.args.source.now c.args.tokens.now c.args.at.now e)
