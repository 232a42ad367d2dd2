use Rattle.std.proofs.Common.{◌≡◌, ◌≤◌, ◌-◌, ◌*◌, ◌+◌, length, true, false}
use Rattle.st_parser.specs.Reading as r
use Rattle.st_parser.specs.Reading.{rest, kind_at, start_at, NotId, NotBinary, ReadsBinaries, ReadsCascade, ReadsMore, SoFar}
use Rattle.st_parser.proofs.read.+read.Given as goal

abbrev pub decreases-primary : goal.decreases-primary
decreases-primary l = 16 * (length l.tokens.now - l.at.now) + 0

abbrev pub decreases-unit : goal.decreases-unit
decreases-unit l = 16 * (length l.tokens.now - l.at.now) + 1

abbrev pub decreases-binary : goal.decreases-binary
decreases-binary l = 16 * (length l.tokens.now - l.at.now) + 2

abbrev pub decreases-binaries : goal.decreases-binaries
decreases-binaries l = 16 * (length l.tokens.now - l.at.now) + 3

abbrev pub decreases-messages : goal.decreases-messages
decreases-messages l = 16 * (length l.tokens.now - l.at.now) + 4

abbrev pub decreases-argument : goal.decreases-argument
decreases-argument l = 16 * (length l.tokens.now - l.at.now) + 5

abbrev pub decreases-keyword : goal.decreases-keyword
decreases-keyword l = 16 * (length l.tokens.now - l.at.now) + 6

abbrev pub decreases-keywords : goal.decreases-keywords
decreases-keywords l = 16 * (length l.tokens.now - l.at.now) + 7

abbrev pub decreases-long : goal.decreases-long
decreases-long l = 16 * (length l.tokens.now - l.at.now) + 8

abbrev pub decreases-again : goal.decreases-again
decreases-again l = 16 * (length l.tokens.now - l.at.now) + 8

abbrev pub decreases-receiver : goal.decreases-receiver
decreases-receiver l = 16 * (length l.tokens.now - l.at.now) + 9

abbrev pub decreases-cascade : goal.decreases-cascade
decreases-cascade l = 16 * (length l.tokens.now - l.at.now) + 9

abbrev pub decreases-expr : goal.decreases-expr
decreases-expr l = 16 * (length l.tokens.now - l.at.now) + 10

abbrev pub decreases-statement : goal.decreases-statement
decreases-statement l = 16 * (length l.tokens.now - l.at.now) + 11

abbrev pub decreases-in_parens : goal.decreases-in_parens
decreases-in_parens l = 16 * (length l.tokens.now - l.at.now) + 11

abbrev pub decreases-statements : goal.decreases-statements
decreases-statements l = 16 * (length l.tokens.now - l.at.now) + 12

abbrev pub decreases-block : goal.decreases-block
decreases-block l = 16 * (length l.tokens.now - l.at.now) + 13

abbrev pub invariant-binaries-chain : goal.invariant-binaries-chain
invariant-binaries-chain l = record { ahead : l.fn.at ≤ l.at; stops : NotId (rest l.source l.tokens l.fn.at) → NotId (rest l.source l.tokens l.at); read : ReadsBinaries (rest l.source l.tokens l.fn.at) l.fn.chain l.chain (rest l.source l.tokens l.at) }

abbrev pub decreases-binaries-chain : goal.decreases-binaries-chain
decreases-binaries-chain l = length l.tokens - l.at

abbrev pub invariant-cascade-chain : goal.invariant-cascade-chain
invariant-cascade-chain l = record { ahead : l.fn.at ≤ l.at; read : ReadsCascade (rest l.source l.tokens l.fn.at) l.fn.chain l.chain (rest l.source l.tokens l.at) }

abbrev pub decreases-cascade-chain : goal.decreases-cascade-chain
decreases-cascade-chain l = length l.tokens - l.at

abbrev pub invariant-keywords-words : goal.invariant-keywords-words
invariant-keywords-words l = record { ahead : l.fn.at ≤ l.at; stops : NotBinary (rest l.source l.tokens l.at); read : r.is_keyword (kind_at l.tokens l.fn.at) ≡ true → SoFar (rest l.source l.tokens l.fn.at) l.start l.text.items l.arguments (rest l.source l.tokens l.at) }

abbrev pub decreases-keywords-words : goal.decreases-keywords-words
decreases-keywords-words l = length l.tokens - l.at

abbrev pub invariant-statements-statements : goal.invariant-statements-statements
invariant-statements-statements l = record { ahead : l.fn.at ≤ l.at; read : ReadsMore (rest l.source l.tokens l.fn.at) l.fn.done l.done (rest l.source l.tokens l.at) }

abbrev pub decreases-statements-statements : goal.decreases-statements-statements
decreases-statements-statements l = length l.tokens - l.at
