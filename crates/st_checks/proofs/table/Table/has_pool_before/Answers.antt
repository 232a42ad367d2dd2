use Rattle.std.proofs.Common.{◌∙◌, ap, take}
use Rattle.std.specs.List.{list_any}
use Rattle.st_checks.specs.Keys.{TextKey, has_key}
use Rattle.st_checks.proofs.Keys.{any-pool}
use Rattle.st_checks.proofs.table.Table.has_pool_before.Goals as goal

pub returns : goal.returns
returns c = c.has_before.ensures ∙ ap (λ (k : TextKey). list_any (has_key k) (take c.args.n c.args.self.now)) c.pool.ensures ∙ any-pool c.args.name.now (take c.args.n c.args.self.now)
