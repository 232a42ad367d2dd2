use Rattle.std.proofs.Common.{arith, refl}
use Rattle.st_compiler.proofs.Scopes.{names-more}
use Rattle.st_compiler.proofs.class_names.places_of.Goals as goal

pub loop-index-preserved : goal.loop-index-preserved
loop-index-preserved c =
    names-more c.loop-index.places c.note_at.new.places c.args.texts.now c.loop-index.index c.loop-index.index c.index-texts-index.result c.as_bytes.result.now c.index-texts-index.is (omega arith) c.as_bytes.ensures refl c.loop-index.invariant c.in_ok-note_at.ensures
