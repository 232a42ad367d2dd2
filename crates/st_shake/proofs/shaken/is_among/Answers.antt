use Rattle.std.proofs.Common.{◌∙◌, ap}
use Rattle.std.specs.Option.{is_some}
use Rattle.st_shake.proofs.Texts.{found-has}
use Rattle.st_shake.proofs.shaken.is_among.Goals as goal

pub returns : goal.returns
returns c = c.is_some.ensures ∙ ap is_some c.find.ensures ∙ found-has c.args.selectors.now c.args.selector.now
