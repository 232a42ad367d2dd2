use Rattle.std.proofs.Common.{◌∙◌, ap, is_some}
use Rattle.st_checks.specs.Keys.{first_unit, has_key, text_key}
use Rattle.st_checks.proofs.Places.{first_place-some}
use Rattle.st_checks.proofs.table.Table.has.Goals as goal

pub returns : goal.returns
unfolding first_unit
returns c = c.is_some.ensures ∙ ap is_some c.first.ensures ∙ first_place-some (has_key (text_key c.args.key)) c.args.self.now
