use Rattle.std.proofs.Common.{◌≡◌, ◌≤◌, ◌-◌, ◌⊎◌}
use Rattle.st_collections.specs.Answers.{told}
use Rattle.st_collections.specs.SequenceRows.{grown_in}
use Rattle.st_collections.proofs.growth.growth_to.Given as goal

-- the growths that are left lead to the same
abbrev pub invariant-loop-growth : goal.invariant-loop-growth
invariant-loop-growth l = record {
  elements : told (grown_in (l.size - l.growth.elements) l.size l.growth.elements l.growth.cells).elements ≡ told (grown_in l.size l.size l.room 0).elements;
  cells : told (grown_in (l.size - l.growth.elements) l.size l.growth.elements l.growth.cells).cells ≡ told (grown_in l.size l.size l.room 0).cells;
  paid : (l.growth.elements ≡ l.room) ⊎ (l.growth.elements ≤ l.growth.cells);
}

abbrev pub decreases-loop-growth : goal.decreases-loop-growth
decreases-loop-growth l = l.size - l.growth.elements
