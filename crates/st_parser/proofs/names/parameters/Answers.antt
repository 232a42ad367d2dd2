use Rattle.std.proofs.Common.{◌≡◌, ◌≤◌, ◌<◌, ◌-◌, refl, true, false, arith, length}
use Rattle.st_parser.specs.Reading.{rest, is_colon, kind_at, next}
use Rattle.st_parser.proofs.Rest.{less, ahead}
use Rattle.st_parser.proofs.NameSteps.{parameters_more}
use Rattle.st_parser.proofs.names.parameters.Goals as goal

pub names-smaller : goal.names-smaller
names-smaller c =
    let a = ahead c.args.tokens.now (next c.args.tokens.now c.names.at) in
    let b : length c.args.tokens.now - next c.args.tokens.now c.names.at < length c.args.tokens.now - c.names.at = less c.args.tokens.now c.names.at is_colon refl (cc) in
    rw (c.advance-in-names.ensures, c.advance.ensures) (omega (arith, a))

pub names-preserved : goal.names-preserved
names-preserved c = record {
  ahead = let a = ahead c.args.tokens.now c.names.at in let b = ahead c.args.tokens.now (next c.args.tokens.now c.names.at) in rw (c.advance-in-names.ensures, c.advance.ensures) (omega (arith, a, b));
  read = rw (c.advance-in-names.ensures, c.in_ok-push.ensures.ok, c.in_ok-name_at.ensures, c.advance.ensures) (parameters_more c.args.source.now c.args.tokens.now c.names.at (cc) c.names.invariant.read);
}
