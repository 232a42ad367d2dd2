use Rattle.std.proofs.Common.{◌∙◌, ap}
use Rattle.std.specs.List.{list_any}
use Rattle.st_checks.specs.Keys.{TextKey, has_key}
use Rattle.st_checks.proofs.Keys.{any-class}
use Rattle.st_checks.proofs.table.Table.has_class.Goals as goal

pub returns : goal.returns
returns c = c.has.ensures ∙ ap (λ (k : TextKey). list_any (has_key k) c.args.self.now) c.class.ensures ∙ any-class c.args.name.now c.args.self.now
