use Rattle.std.proofs.Common.{◌∙◌, ap}
use Rattle.st_shake.specs.Shaken.{shaken}
use Rattle.st_shake.proofs.Kept.{kept-shaken}
use Rattle.st_shake.proofs.shaken.shake.Goals as goal

pub returns : goal.returns
returns c = c.in_ok-kept.ensures ∙ kept-shaken c.as_slice-units.result.now c.in_ok-selectors.selectors c.in_ok-selectors.ensures ∙ ap shaken c.as_slice-units.ensures
