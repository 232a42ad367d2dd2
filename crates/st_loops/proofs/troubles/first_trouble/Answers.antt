use Rattle.std.proofs.Common.{◌∙◌}
use Rattle.st_loops.specs.Kinds.{message_of}
use Rattle.st_loops.proofs.Begun.{loop_trouble-is}
use Rattle.st_loops.proofs.troubles.first_trouble.Goals as goal

pub returns : goal.returns
returns c = λ p s r. c.loop_trouble.ensures ∙ loop_trouble-is p s (message_of c.args.kind) r c.args.arguments.now
