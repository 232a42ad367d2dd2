use Rattle.std.proofs.Common.{◌∙◌, ap}
use Rattle.std.specs.List.{list_any}
use Rattle.st_checks.specs.Keys.{TextKey, has_key}
use Rattle.st_checks.proofs.Keys.{any-in_pool}
use Rattle.st_checks.proofs.table.Table.has_in_pool.Goals as goal

pub returns : goal.returns
returns c = c.has.ensures ∙ ap (λ (k : TextKey). list_any (has_key k) c.args.self.now) c.in_pool.ensures ∙ any-in_pool c.args.pool.now c.args.name.now c.args.self.now
