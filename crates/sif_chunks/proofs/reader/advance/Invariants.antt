use Rattle.std.proofs.Common.{◌≡◌, ◌+◌, ◌-◌, ◌*◌, ◌≤◌, ℕ, List}
use Rattle.std.specs.Io.KnownBytes.{append_known}
use Rattle.sif_chunks.specs.Reading.{max_input}
use Rattle.sif_chunks.specs.Leaving.{Leaves}
use Rattle.sif_chunks.specs.Turn.{Moves, judged_of, progress}
use Rattle.sif_chunks.proofs.reader.advance.Given as goal

-- the answer is still to come, and is what it was
abbrev pub invariant-loop-answer : goal.invariant-loop-answer
invariant-loop-answer g l = record {
  moves : (got : List ℕ) × Moves l.fn.text l.fn.window (append_known (g.S.Source.left l.fn.source) l.fn.appendix) l.text l.window (append_known (g.S.Source.left l.source) l.appendix) got;
  moved : judged_of l.fn.window ≤ judged_of l.window;
  leaves : Leaves (g.S.Source.left l.fn.source) (g.S.Source.left l.source) l.fn.appendix l.appendix;
  faults : g.S.Source.faults l.source ≡ g.S.Source.faults l.fn.source;
}

abbrev pub decreases-loop-answer : goal.decreases-loop-answer
decreases-loop-answer g l = 2 * max_input + 1 - progress l.window
