use Rattle.std.proofs.Common.{◌≡◌, drop}
use Rattle.st_code.specs.Texts.{quotes_doubled}
use Rattle.st_transcript.proofs.Gaining.{Wrote}
use Rattle.st_transcript.proofs.bytes.put_doubled.Given as goal

-- what stands before is written, and no call failed
abbrev pub invariant-loop-byte : goal.invariant-loop-byte
invariant-loop-byte g l = record {
  wrote : Wrote (quotes_doubled l.bytes) (quotes_doubled (drop l.byte-index l.bytes)) (g.K.Sink.written l.fn.out) (g.K.Sink.written l.out);
  faults : g.K.Sink.faults l.out ≡ g.K.Sink.faults l.fn.out;
}
