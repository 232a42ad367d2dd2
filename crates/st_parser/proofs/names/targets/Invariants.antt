use Rattle.std.proofs.Common.{◌≤◌, ◌-◌, length}
use Rattle.st_parser.specs.Reading.{rest, ReadsTargets}
use Rattle.st_parser.proofs.names.targets.Given as goal

abbrev pub invariant-targets : goal.invariant-targets
invariant-targets l = record { ahead : l.fn.at ≤ l.at; read : ReadsTargets (rest l.source l.tokens l.fn.at) l.fn.names l.names (rest l.source l.tokens l.at) }

abbrev pub decreases-targets : goal.decreases-targets
decreases-targets l = length l.tokens - l.at
