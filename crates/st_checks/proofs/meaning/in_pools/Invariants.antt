use Rattle.std.proofs.Common.{◌≡◌, drop}
use Rattle.st_checks.specs.Meanings.{in_pools}
use Rattle.st_checks.proofs.meaning.in_pools.Given as goal

abbrev pub invariant-loop-pool : goal.invariant-loop-pool
invariant-loop-pool l = in_pools l.table l.pools l.name ≡ in_pools l.table (drop l.pool-index l.pools) l.name
