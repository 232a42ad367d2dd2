use Rattle.std.proofs.Common.{◌∙◌, ap}
use Rattle.std.specs.Str.Parse.{ParsesUnsigned, ExplainsUnsignedError, HasUnsignedDigitsIfOk}
use Rattle.clap.specs.Words.{found_of}
use Rattle.clap.proofs.WalkLemmas.{one_text-rows}
use Rattle.st_words.specs.CommandLine.{number_or}
use Rattle.st_words.proofs.Numbers.{reads_number}
use Rattle.st_words.proofs.command.number.Goals as goal

pub returns : goal.returns
returns c = c.unwrap_or.ensures ∙ reads_number 32 c.args.default (λ bs r. ParsesUnsigned 32 10 bs r × ExplainsUnsignedError 10 bs r × HasUnsignedDigitsIfOk bs r) (λ u x g. g.0) _ c.get_one.result c.get_one.ensures.none c.get_one.ensures.value ∙ ap (number_or 32 c.args.default) (one_text-rows (found_of c.args.matches.now) c.args.name.now)
