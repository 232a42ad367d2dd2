use Rattle.std.proofs.Common.{arith}
use Rattle.st_compiler.proofs.Shared.{places-more}
use Rattle.st_compiler.proofs.lookup.places_of.Goals as goal

pub loop-index-preserved : goal.loop-index-preserved
loop-index-preserved c = places-more c.loop-index.places c.note.new.places c.args.variables.now c.loop-index.index c.index-variables-index.result c.index-variables-index.is (omega arith) c.loop-index.invariant c.in_ok-note.ensures
