use Rattle.std.proofs.Common.{◌≡◌, ◌++◌, drop, take}
use Rattle.st_answers.specs.Listing.{listing}
use Rattle.st_answers.proofs.lines.listing.Given as goal

-- what was listed so far, and what is left
abbrev pub invariant-loop-unit : goal.invariant-loop-unit
invariant-loop-unit l = listing l.units ≡ l.lines.items ++ listing (drop l.unit-index l.units)
