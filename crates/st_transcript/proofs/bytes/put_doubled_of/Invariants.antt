use Rattle.std.proofs.Common.{◌≡◌, drop}
use Rattle.object_heap.specs.Store.{object_at}
use Rattle.st_code.specs.Texts.{quotes_doubled}
use Rattle.st_transcript.proofs.Gaining.{Wrote}
use Rattle.st_transcript.proofs.bytes.put_doubled_of.Given as goal

-- what stands before is written, and no call failed
abbrev pub invariant-loop-place : goal.invariant-loop-place
invariant-loop-place g l = record {
  wrote : Wrote (quotes_doubled (object_at l.object (g.H.Heap.meaning l.heap).store).bytes) (quotes_doubled (drop l.place (object_at l.object (g.H.Heap.meaning l.heap).store).bytes)) (g.K.Sink.written l.fn.out) (g.K.Sink.written l.out);
  faults : g.K.Sink.faults l.out ≡ g.K.Sink.faults l.fn.out;
}
