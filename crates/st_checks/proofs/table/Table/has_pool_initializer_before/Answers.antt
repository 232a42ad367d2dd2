use Rattle.std.proofs.Common.{◌∙◌, ap, take}
use Rattle.std.specs.List.{list_any}
use Rattle.st_checks.specs.Keys.{TextKey, has_key}
use Rattle.st_checks.proofs.Keys.{any-pool_initializer}
use Rattle.st_checks.proofs.table.Table.has_pool_initializer_before.Goals as goal

pub returns : goal.returns
returns c = c.has_before.ensures ∙ ap (λ (k : TextKey). list_any (has_key k) (take c.args.n c.args.self.now)) c.pool_initializer.ensures ∙ any-pool_initializer c.args.pool.now c.args.name.now (take c.args.n c.args.self.now)
