use Rattle.std.proofs.Common.{[]}
use Rattle.std.specs.Io.KnownBytes.{append_known}
use Rattle.sif_chunks.proofs.Outlooks.{repeated, repeated_settled, outlook-given, outlook-begun, over-given, over-begun, answered, settled_by}
use Rattle.sif_chunks.proofs.Leaving.{leaves_all}
use Rattle.sif_chunks.proofs.reader.ChunkReader.next_with.Goals as goal
use Rattle.sif_chunks.proofs.reader.ChunkReader.next_with.Goals.{then-self, else-self}

pub returns-in-Some-clause-answer : goal.returns-in-Some-clause-answer
returns-in-Some-clause-answer g c =
    repeated c.args.self.now c.in-Some.stop c.next.result (append_known (g.S.Source.left c.args.source.now) c.args.appendix.now) (rw (← c.self.view_is) c.in-Some.is) c.next.ensures

pub returns-in-Some-clause-settled : goal.returns-in-Some-clause-settled
returns-in-Some-clause-settled g c =
    repeated_settled c.args.self.now c.in-Some.stop c.next.result (append_known (g.S.Source.left c.args.source.now) c.args.appendix.now) c.next.ensures

pub returns-clause-answer : goal.returns-clause-answer
returns-clause-answer g c =
    elim c.if-self.branch [
      | then-self w ↦
          let gives = rw (w.self-inside-is, w.clear.ensures) at c.advance-answer.ensures.gives in
          rw (← c.self.view_is, w.self-inside-is) (answered c.advance-answer.result [] _ _ (append_known (g.S.Source.left c.args.source.now) c.args.appendix.now) (append_known (g.S.Source.left c.advance-answer.new.source) c.advance-answer.new.appendix) (outlook-given _ c.in_default.is w.if-self.true) gives)
      | else-self w ↦
          let gives = rw w.self-inside-is at c.advance-answer.ensures.gives in
          rw (← c.self.view_is, w.self-inside-is) (answered c.advance-answer.result c.self.inside.text _ _ (append_known (g.S.Source.left c.args.source.now) c.args.appendix.now) (append_known (g.S.Source.left c.advance-answer.new.source) c.advance-answer.new.appendix) (outlook-begun _ c.in_default.is w.if-self.false) gives)
    ]

pub returns-clause-settled : goal.returns-clause-settled
returns-clause-settled g c =
    elim c.if-self.branch [
      | then-self w ↦
          let gives = rw (w.self-inside-is, w.clear.ensures) at c.advance-answer.ensures.gives in
          rw (← c.self.view_is, w.self-inside-is) (settled_by c.advance-answer.result [] _ _ (append_known (g.S.Source.left c.args.source.now) c.args.appendix.now) (append_known (g.S.Source.left c.advance-answer.new.source) c.advance-answer.new.appendix) (over-given _ c.in_default.is w.if-self.true) gives)
      | else-self w ↦
          let gives = rw w.self-inside-is at c.advance-answer.ensures.gives in
          rw (← c.self.view_is, w.self-inside-is) (settled_by c.advance-answer.result c.self.inside.text _ _ (append_known (g.S.Source.left c.args.source.now) c.args.appendix.now) (append_known (g.S.Source.left c.advance-answer.new.source) c.advance-answer.new.appendix) (over-begun _ c.in_default.is w.if-self.false) gives)
    ]

pub returns-in-Some-clause-leaves : goal.returns-in-Some-clause-leaves
returns-in-Some-clause-leaves g c = leaves_all (g.S.Source.left c.args.source.now) c.args.appendix.now
