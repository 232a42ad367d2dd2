use Rattle.std.proofs.Common.{◌≡◌, ◌≤◌, ◌-◌, ◌*◌, ◌+◌, length}
use Rattle.st_parser.specs.Reading.{rest, ReadsItems}
use Rattle.st_parser.proofs.literal_arrays.+array.Given as goal

abbrev pub decreases-item : goal.decreases-item
decreases-item l = 4 * (length l.tokens.now - l.at.now) + 0

abbrev pub decreases-items : goal.decreases-items
decreases-items l = 4 * (length l.tokens.now - l.at.now) + 1

abbrev pub decreases-array : goal.decreases-array
decreases-array l = 4 * (length l.tokens.now - l.at.now) + 2

abbrev pub invariant-items-items : goal.invariant-items-items
invariant-items-items l = record { ahead : l.fn.at ≤ l.at; read : ReadsItems (rest l.source l.tokens l.fn.at) l.fn.all l.all (rest l.source l.tokens l.at) }

abbrev pub decreases-items-items : goal.decreases-items-items
decreases-items-items l = length l.tokens - l.at
