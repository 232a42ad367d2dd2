use Rattle.std.proofs.Common.{◌≡◌, take}
use Rattle.std.specs.Io.KnownBytes.{append_known}
use Rattle.sif_chunks.specs.Split.{doubled}
use Rattle.sif_export.specs.Words.{quotes_doubled}
use Rattle.sif_export.specs.ExportText.{spaced_behind}
use Rattle.sif_export.proofs.elements.names_behind.Given as goal

-- the names so far are written, and no call failed
abbrev pub invariant-loop-name : goal.invariant-loop-name
invariant-loop-name g l = record {
  written : g.K.Sink.written l.sink ≡ append_known (g.K.Sink.written l.fn.sink) (doubled (quotes_doubled (spaced_behind (take l.name-index l.names))));
  faults : g.K.Sink.faults l.sink ≡ g.K.Sink.faults l.fn.sink;
}
