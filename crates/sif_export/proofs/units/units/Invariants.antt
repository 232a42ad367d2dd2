use Rattle.std.proofs.Common.{◌≡◌, take}
use Rattle.std.specs.Io.KnownBytes.{append_known}
use Rattle.sif_chunks.specs.Writing.{all_closed}
use Rattle.sif_export.specs.ExportText.{element_texts}
use Rattle.sif_export.proofs.units.units.Given as goal

-- those so far are written, and no call failed
abbrev pub invariant-loop-item : goal.invariant-loop-item
invariant-loop-item g l = record {
  written : g.K.Sink.written l.sink ≡ append_known (g.K.Sink.written l.fn.sink) (all_closed (element_texts (take l.item-index l.units)));
  faults : g.K.Sink.faults l.sink ≡ g.K.Sink.faults l.fn.sink;
}
