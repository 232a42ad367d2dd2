-- The command is simple, and no argument has a rule on another.
use Rattle.std.proofs.Common.{◌≡◌, true, refl, ap, codes}
use Rattle.clap.specs.Simple.{on_top}
use Rattle.clap.specs.Words.{Shape, app_of, new_app, with_rule, is_simple, is_simple_and_free}
use Rattle.clap.specs.declared.builder.command.Command.TheViews.{out-Command as fields_of}
use Rattle.clap.specs.declared.builder.command.Command.{Command}
use Rattle.st_words.specs.CommandLine.{the_app, bare_app, task_rule, number_rule, stats_rule}

pub the_app-simple_and_free : is_simple_and_free the_app ≡ true
unfolding the_app
the_app-simple_and_free = refl

pub the_app-simple : is_simple the_app ≡ true
unfolding the_app
the_app-simple = refl

-- the arguments, one after another
pub seven_rules : with_rule (with_rule (with_rule (with_rule (with_rule (with_rule (with_rule bare_app
    task_rule)
    (number_rule (codes "steps") 0 1000000000000))
    (number_rule (codes "depth") 1 1000000))
    (number_rule (codes "cells") 0 67108864))
    (number_rule (codes "seed") 0 4294967295))
    (number_rule (codes "size") 1 10000))
    stats_rule ≡ the_app
unfolding the_app
seven_rules = refl

-- the settings, one after another
pub bare : (new binary help version : Command) → app_of new ≡ new_app (codes "stx") → fields_of binary ≡ record (fields_of new) { no_binary_name = true } → fields_of help ≡ record (fields_of binary) { disable_help_flag = true } → fields_of version ≡ record (fields_of help) { disable_version_flag = true } → app_of version ≡ bare_app
bare new binary help version app b h v = rw (v, h, b) (ap (on_top (λ (s : Shape). let t : Shape = record s { no_binary_name = true; disable_help_flag = true; disable_version_flag = true } in t)) app)
