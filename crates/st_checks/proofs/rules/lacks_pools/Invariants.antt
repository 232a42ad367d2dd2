use Rattle.std.proofs.Common.{◌≡◌, take, false, not}
use Rattle.std.specs.List.{list_any}
use Rattle.st_checks.specs.Declarations.{declares_pool}
use Rattle.st_checks.proofs.rules.lacks_pools.Given as goal

abbrev pub invariant-loop-pool : goal.invariant-loop-pool
invariant-loop-pool l = list_any (λ pool. not (list_any (declares_pool pool) l.table)) (take l.pool-index l.pools) ≡ false
