use Rattle.std.proofs.Common.{◌≡◌, take}
use Rattle.sif_export.specs.Words.{Done}
use Rattle.sif_export.specs.TreeWords.{colon_words}
use Rattle.sif_export.proofs.trees.coloned.Given as goal

abbrev pub invariant-loop-name : goal.invariant-loop-name
invariant-loop-name g l = record {
  text : Done l.fn.gap (g.K.Sink.written l.fn.sink) l.gap (g.K.Sink.written l.sink) (colon_words (take l.name-index l.name-items));
  faults : g.K.Sink.faults l.sink ≡ g.K.Sink.faults l.fn.sink;
}
