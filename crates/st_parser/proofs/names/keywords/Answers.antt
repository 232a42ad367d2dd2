use Rattle.std.proofs.Common.{◌≡◌}
use Rattle.st_parser.proofs.NameSteps.{keywords_pattern}
use Rattle.st_parser.proofs.names.keywords.Goals as goal

pub returns-clause-read : goal.returns-clause-read
returns-clause-read c = λ e. rw (c.in_ok-selector.ensures, c.deref.ensures.value) (keywords_pattern c.args.source.now c.args.tokens.now c.parts.at (cc) (c.parts.invariant.read e))
