use Rattle.std.proofs.Common.{◌∙◌, ap}
use Rattle.std.specs.List.{find}
use Rattle.st_checks.specs.Keys.{TextKey, has_key}
use Rattle.st_checks.proofs.Keys.{find-in_pool}
use Rattle.st_checks.proofs.table.Table.in_pool.Goals as goal

pub returns : goal.returns
returns c = c.unit.ensures ∙ ap (λ (k : TextKey). find (has_key k) c.args.self.now) c.in_pool.ensures ∙ find-in_pool c.args.pool.now c.args.name.now c.args.self.now
