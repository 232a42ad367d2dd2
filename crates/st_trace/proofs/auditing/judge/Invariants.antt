use Rattle.std.proofs.Common.{◌≡◌, ◌≤◌, ◌+◌, ◌-◌, None, length, take}
use Rattle.st_trace.specs.Opened.{Judges}
use Rattle.st_trace.proofs.auditing.judge.Given as goal

-- what stands before leads here
abbrev pub invariant-loop-at : goal.invariant-loop-at
invariant-loop-at l = record {
  within : l.at ≤ length l.bytes;
  leads : Judges l.fn.audit (take l.at l.bytes) None l.audit;
  room : l.audit.room + l.at ≡ l.fn.audit.room;
}

abbrev pub decreases-loop-at : goal.decreases-loop-at
decreases-loop-at l = length l.bytes - l.at
