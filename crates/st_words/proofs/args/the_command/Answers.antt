use Rattle.std.proofs.Common.{◌∙◌, ap₂}
use Rattle.std.proofs.lemmas.Result.{IfOk-weaker}
use Rattle.clap.specs.Words.{with_rule}
use Rattle.st_words.proofs.Rules.{bare, seven_rules}
use Rattle.st_words.proofs.args.the_command.Goals as goal

pub returns : goal.returns
returns c = IfOk-weaker c.arg-7.result _ _ (λ x adds.
    adds.shape c.stats.ensures.local
    ∙ ap₂ with_rule (c.in_ok-arg-6.ensures.shape c.number-5.ensures.local
    ∙ ap₂ with_rule (c.in_ok-arg-5.ensures.shape c.number-4.ensures.local
    ∙ ap₂ with_rule (c.in_ok-arg-4.ensures.shape c.number-3.ensures.local
    ∙ ap₂ with_rule (c.in_ok-arg-3.ensures.shape c.number-2.ensures.local
    ∙ ap₂ with_rule (c.in_ok-arg-2.ensures.shape c.number.ensures.local
    ∙ ap₂ with_rule (c.in_ok-arg.ensures.shape c.task.ensures.local
    ∙ ap₂ with_rule (bare c.new.result c.no_binary_name.result c.disable_help_flag.result c.disable_version_flag.result c.new.ensures.app c.no_binary_name.ensures c.disable_help_flag.ensures c.disable_version_flag.ensures)
    c.task.ensures.rule) c.number.ensures.rule) c.number-2.ensures.rule) c.number-3.ensures.rule) c.number-4.ensures.rule) c.number-5.ensures.rule) c.stats.ensures.rule
    ∙ seven_rules) c.arg-7.ensures
