use Rattle.std.proofs.Common.{◌≡◌, ◌≤◌, arith}
use Rattle.st_parser.specs.Reading.{next}
use Rattle.st_parser.proofs.Rest.{ahead}
use Rattle.st_parser.proofs.Steps.{negative_primary}
use Rattle.st_parser.proofs.read.negative.Goals as goal

pub returns-clause-ahead : goal.returns-clause-ahead
returns-clause-ahead c =
    let a = ahead c.args.tokens.now c.args.at.now in
    let b = ahead c.args.tokens.now (next c.args.tokens.now c.args.at.now) in
    rw (c.advance-2.ensures, c.advance.ensures) (omega (arith, a, b))

pub returns-clause-read : goal.returns-clause-read
returns-clause-read c = λ source e. rw (c.advance-2.ensures, c.negated_at-number.ensures, c.advance.ensures) (negative_primary source c.args.tokens.now c.args.at.now e)
