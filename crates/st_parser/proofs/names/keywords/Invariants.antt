use Rattle.std.proofs.Common.{◌≡◌, ◌≤◌, ◌-◌, length, true}
use Rattle.st_parser.specs.Reading as r
use Rattle.st_parser.specs.Reading.{rest, kind_at, ReadsHeading}
use Rattle.st_parser.proofs.names.keywords.Given as goal

abbrev pub invariant-parts : goal.invariant-parts
invariant-parts l = record { ahead : l.fn.at ≤ l.at; read : r.is_keyword (kind_at l.tokens l.fn.at) ≡ true → ReadsHeading (rest l.source l.tokens l.fn.at) l.text.items l.parameters (rest l.source l.tokens l.at) }

abbrev pub decreases-parts : goal.decreases-parts
decreases-parts l = length l.tokens - l.at
