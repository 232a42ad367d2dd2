use Rattle.std.proofs.Common.{◌≡◌, drop}
use Rattle.st_messages.specs.Pieces.{pieces_text}
use Rattle.st_transcript.proofs.Gaining.{Wrote}
use Rattle.st_transcript.proofs.pieces.put_pieces.Given as goal

-- what stands before is written, and no call failed
abbrev pub invariant-loop-piece : goal.invariant-loop-piece
invariant-loop-piece g l = record {
  wrote : Wrote (pieces_text (g.P.ProgramFacts.meaning l.program) (g.H.Heap.meaning l.heap).store l.pieces) (pieces_text (g.P.ProgramFacts.meaning l.program) (g.H.Heap.meaning l.heap).store (drop l.piece-index l.pieces)) (g.K.Sink.written l.fn.out) (g.K.Sink.written l.out);
  faults : g.K.Sink.faults l.out ≡ g.K.Sink.faults l.fn.out;
}
