use Rattle.sif_chunks.proofs.Leaving.{leaves_behind}
use Rattle.sif_chunks.proofs.appendix.take_with.Goals as goal

pub returns-in_default-2-clause-leaves : goal.returns-in_default-2-clause-leaves
returns-in_default-2-clause-leaves g c =
    leaves_behind (g.S.Source.left c.args.source.now) (g.S.Source.left c.take.new.self) c.args.appendix.now c.take.new.into c.take.result c.take.ensures.bytes
