use Rattle.std.proofs.Common.{◌≡◌, ◌≤◌, ◌++◌, ◌∷◌, [], refl, true, false, sym, subst, arith, ap, ◌∙◌}
use Rattle.st_parser.specs.Reading.{rest, is_identifier, kind_at, next, text_at, start_at}
use Rattle.st_tree.specs.Trees.{message}
use Rattle.st_parser.proofs.Rest.{less, ahead}
use Rattle.st_parser.proofs.Steps.{unaries_more, id_ends}
use Rattle.st_parser.proofs.read.unaries.Goals as goal

pub chain-smaller : goal.chain-smaller
chain-smaller c = rw c.advance.ensures (less c.args.tokens.now c.chain.at is_identifier refl (cc))

pub chain-preserved : goal.chain-preserved
chain-preserved c = record {
  ahead = omega (arith, ahead c.args.tokens.now c.chain.at);
  read = rw (c.advance.ensures, c.in_ok-push.ensures.ok, c.in_ok-unary_at.ensures) (unaries_more c.args.source.now c.args.tokens.now c.chain.at (cc) c.chain.invariant.read);
}

pub returns-clause-stops : goal.returns-clause-stops
returns-clause-stops c = id_ends c.args.source.now c.args.tokens.now c.chain.at (cc)
