use Rattle.std.proofs.Common.{◌≡◌, length}
use Rattle.st_trace.specs.Opened.{Moves}
use Rattle.st_trace.proofs.auditing.run.Given as goal

-- what was taken leads here, and the source has not failed
abbrev pub invariant-loop-answer : goal.invariant-loop-answer
invariant-loop-answer g l = record {
  leads : Moves l.fn.audit (g.S.Source.left l.fn.source) l.audit (g.S.Source.left l.source);
  sound : g.S.Source.faults l.source ≡ g.S.Source.faults l.fn.source;
  buffer : length l.buffer ≡ 65536;
}

abbrev pub decreases-loop-answer : goal.decreases-loop-answer
decreases-loop-answer g l = l.audit.room
