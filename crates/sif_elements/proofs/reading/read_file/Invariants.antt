use Rattle.std.proofs.Common.{◌≡◌, ◌-◌, ◌*◌, ◌≤◌, ℕ, IfSome}
use Rattle.std.specs.Io.KnownBytes.{append_known}
use Rattle.sif_chunks.specs.Leaving.{Leaves}
use Rattle.sif_chunks.specs.Reading.{judged, max_input}
use Rattle.st_tree.specs.Numbers.{elements_in}
use Rattle.sif_elements.proofs.Ahead.{IsBefore, Follows, answer_ahead}
use Rattle.sif_elements.proofs.TakenLemmas.{TakenSoFar, Counted}
use Rattle.sif_elements.proofs.TextBytes.{HoldsTaken}
use Rattle.sif_elements.proofs.Sized.{IsSized}
use Rattle.sif_elements.proofs.Counts.{units_of}
use Rattle.sif_elements.proofs.reading.read_file.Given as goal

-- what is to be answered, what was taken, and how much was read of it
abbrev pub invariant-loop-after : goal.invariant-loop-after
invariant-loop-after g l = record {
  ahead : (n : ℕ) × IsBefore n l.reader × Follows (append_known (g.S.Source.left l.fn.source) l.fn.appendix) (answer_ahead l.progress n l.reader) (append_known (g.S.Source.left l.source) l.appendix) × IfSome (append_known (g.S.Source.left l.fn.source) l.fn.appendix) (λ file. TakenSoFar file (append_known (g.S.Source.left l.source) l.appendix) l.progress n l.reader);
  counted : Counted (append_known (g.S.Source.left l.fn.source) l.fn.appendix) (append_known (g.S.Source.left l.source) l.appendix) l.reader;
  leaves : Leaves (g.S.Source.left l.fn.source) (g.S.Source.left l.source) l.fn.appendix l.appendix;
  faults : g.S.Source.faults l.source ≡ g.S.Source.faults l.fn.source;
  bound : judged l.reader ≤ max_input;
  held : HoldsTaken l.reader;
  sized : IsSized l.progress (judged l.reader);
  few : elements_in (units_of l.progress) ≤ 2 * judged l.reader;
}

abbrev pub decreases-loop-after : goal.decreases-loop-after
decreases-loop-after g l = max_input - judged l.reader
