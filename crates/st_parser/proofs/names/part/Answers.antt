use Rattle.std.proofs.Common.{◌≡◌, ◌≤◌, ◌<◌, ◌-◌, length, refl, arith}
use Rattle.st_parser.specs.Reading.{next, is_keyword}
use Rattle.st_parser.proofs.Rest.{less, ahead}
use Rattle.st_parser.proofs.NameSteps.{part_read}
use Rattle.st_parser.proofs.names.part.Goals as goal

pub returns-clause-less : goal.returns-clause-less
returns-clause-less c = λ e.
    let b : length c.args.tokens.now - next c.args.tokens.now c.args.at.now < length c.args.tokens.now - c.args.at.now = less c.args.tokens.now c.args.at.now is_keyword refl e in
    let a = ahead c.args.tokens.now (next c.args.tokens.now c.args.at.now) in
    rw (c.advance-2.ensures, c.advance.ensures) (omega (arith, a, b))

pub returns-clause-read : goal.returns-clause-read
returns-clause-read c = λ e. rw (c.advance-2.ensures, c.in_ok-push.ensures.ok, c.in_ok-name_at.ensures, c.advance.ensures, c.in_ok-extend_from_slice.ensures.items, c.text_at.ensures) (part_read c.args.source.now c.args.tokens.now c.args.at.now e)
