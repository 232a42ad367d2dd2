use Rattle.std.proofs.Common.{◌∙◌, ap}
use Rattle.std.specs.List.{find}
use Rattle.st_checks.specs.Keys.{TextKey, has_key}
use Rattle.st_checks.proofs.Keys.{find-global}
use Rattle.st_checks.proofs.table.Table.global.Goals as goal

pub returns : goal.returns
returns c = c.unit.ensures ∙ ap (λ (k : TextKey). find (has_key k) c.args.self.now) c.global.ensures ∙ find-global c.args.name.now c.args.self.now
