use Rattle.std.proofs.Common.{◌≡◌, ◌-◌, ◌≤◌, length, take}
use Rattle.std.specs.Io.KnownBytes.{append_known}
use Rattle.sif_chunks.specs.Split.{doubled}
use Rattle.sif_export.specs.Words.{quotes_doubled}
use Rattle.sif_export.proofs.pieces.inner_piece.Given as goal

-- the bytes so far are written, each quote twice, and no call failed
abbrev pub invariant-loop-at : goal.invariant-loop-at
invariant-loop-at g l = record {
  within : l.at ≤ length l.bytes;
  written : g.K.Sink.written l.sink ≡ append_known (g.K.Sink.written l.fn.sink) (doubled (quotes_doubled (take l.at l.bytes)));
  faults : g.K.Sink.faults l.sink ≡ g.K.Sink.faults l.fn.sink;
}

abbrev pub decreases-loop-at : goal.decreases-loop-at
decreases-loop-at g l = length l.bytes - l.at
