use Rattle.std.proofs.Common.{◌≡◌, take, map, ◌∷◌}
use Rattle.sif_export.specs.Words.{Done, Mark}
use Rattle.sif_export.specs.declared.sign.Sign.TheVariants as sign
use Rattle.sif_export.specs.TreeWords.{joined, literal_words}
use Rattle.sif_export.proofs.trees.+literal.Given as goal

abbrev pub invariant-loop-item : goal.invariant-loop-item
invariant-loop-item g l = record {
  text : Done l.fn.gap (g.K.Sink.written l.fn.sink) l.gap (g.K.Sink.written l.sink) (Mark sign.ArrayOpen ∷ joined (map literal_words (take l.item-index l.item-items)));
  faults : g.K.Sink.faults l.sink ≡ g.K.Sink.faults l.fn.sink;
}
