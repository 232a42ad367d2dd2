use Rattle.std.proofs.Common.{◌≡◌, ◌≤◌, ◌<◌, ◌-◌, refl, true, false, arith, length}
use Rattle.st_parser.specs.Reading.{rest, is_identifier, kind_at, next}
use Rattle.st_parser.proofs.Rest.{less, ahead}
use Rattle.st_parser.proofs.NameSteps.{names_more}
use Rattle.st_parser.proofs.names.names.Goals as goal

pub names-smaller : goal.names-smaller
names-smaller c = rw c.advance.ensures (less c.args.tokens.now c.names.at is_identifier refl (cc))

pub names-preserved : goal.names-preserved
names-preserved c = record {
  ahead = let a = ahead c.args.tokens.now c.names.at in rw c.advance.ensures (omega (arith, a));
  read = rw (c.advance.ensures, c.in_ok-push.ensures.ok, c.in_ok-name_at.ensures) (names_more c.args.source.now c.args.tokens.now c.names.at (cc) c.names.invariant.read);
}
