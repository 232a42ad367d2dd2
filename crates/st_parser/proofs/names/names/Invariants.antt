use Rattle.std.proofs.Common.{◌≤◌, ◌-◌, length}
use Rattle.st_parser.specs.Reading.{rest, ReadsNames}
use Rattle.st_parser.proofs.names.names.Given as goal

abbrev pub invariant-names : goal.invariant-names
invariant-names l = record { ahead : l.fn.at ≤ l.at; read : ReadsNames (rest l.source l.tokens l.fn.at) l.fn.names l.names (rest l.source l.tokens l.at) }

abbrev pub decreases-names : goal.decreases-names
decreases-names l = length l.tokens - l.at
