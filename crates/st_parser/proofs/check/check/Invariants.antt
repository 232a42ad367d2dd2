use Rattle.std.proofs.Common.{◌≡◌, [], reverse, drop}
use Rattle.st_parser.specs.Finding.{fault_from}
use Rattle.st_parser.proofs.check.check.Given as goal

abbrev pub invariant-tokens : goal.invariant-tokens
invariant-tokens l = fault_from l.text l.spoiled l.fn.start [] l.tokens ≡ fault_from l.text l.spoiled l.now (reverse l.levels) (drop l.token-index l.tokens)
