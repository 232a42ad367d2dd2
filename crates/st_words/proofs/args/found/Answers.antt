use Rattle.std.proofs.Common.{◌≡◌, true, subst, map, string_bytes}
use Rattle.clap.specs.Words.{App, fault_of, FailsBy, is_simple_and_free}
use Rattle.st_words.proofs.Rules.{the_app-simple_and_free}
use Rattle.st_words.proofs.args.found.Goals as goal

pub returns-clause-fails : goal.returns-clause-fails
returns-clause-fails c =
    let P : App → Type 0 = λ a. is_simple_and_free a ≡ true → FailsBy (fault_of a (map string_bytes c.args.words.now)) c.try_get_matches_from.result in
    subst P c.in_ok-the_command.ensures c.try_get_matches_from.ensures.kinds the_app-simple_and_free
