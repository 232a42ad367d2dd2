use Rattle.std.proofs.Common.{◌≡◌, take, map}
use Rattle.sif_export.specs.Words.{Done, Joined, Remark}
use Rattle.sif_export.proofs.elements.remarks.Given as goal

-- the comments so far are written, and no call failed
abbrev pub invariant-loop-comment : goal.invariant-loop-comment
invariant-loop-comment g l = record {
  text : Done Joined (g.K.Sink.written l.fn.sink) l.gap (g.K.Sink.written l.sink) (map Remark (take l.comment-index l.comment-items));
  faults : g.K.Sink.faults l.sink ≡ g.K.Sink.faults l.fn.sink;
}
