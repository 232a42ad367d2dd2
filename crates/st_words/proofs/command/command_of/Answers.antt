use Rattle.std.proofs.Common.{◌∙◌}
use Rattle.std.proofs.lemmas.Result.{IfOk-weaker}
use Rattle.st_words.proofs.Rules.{the_app-simple}
use Rattle.st_words.proofs.Faults.{refused-none, taken-rows}
use Rattle.st_words.proofs.command.command_of.Goals as goal

pub returns-in-Ok-clause-command : goal.returns-in-Ok-clause-command
returns-in-Ok-clause-command c = taken-rows _ _ _ _ c.in-Ok.ensures.fails (c.in-Ok.ensures.found the_app-simple).0 c.command_in.ensures.command

pub returns-in-Err-clause-command : goal.returns-in-Err-clause-command
returns-in-Err-clause-command c = IfOk-weaker c.refused.result _ _ (λ x h. h.0 ∙ refused-none _ _ c.in-Err.error c.in-Err.ensures.fails h.1) c.refused.ensures
