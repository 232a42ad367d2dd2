use Rattle.std.proofs.Common.{◌≡◌, take, map}
use Rattle.std.specs.Io.KnownBytes.{append_known}
use Rattle.sif_chunks.specs.Writing.{all_closed}
use Rattle.sif_export.specs.ExportText.{annotation_text}
use Rattle.sif_export.proofs.units.annotations.Given as goal

-- those so far are written, and no call failed
abbrev pub invariant-loop-annotation : goal.invariant-loop-annotation
invariant-loop-annotation g l = record {
  written : g.K.Sink.written l.sink ≡ append_known (g.K.Sink.written l.fn.sink) (all_closed (map annotation_text (take l.annotation-index l.annotation-items)));
  faults : g.K.Sink.faults l.sink ≡ g.K.Sink.faults l.fn.sink;
}
