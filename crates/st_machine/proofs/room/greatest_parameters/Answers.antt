use Rattle.std.proofs.Common.{◌∙◌}
use Rattle.st_machine.proofs.GreatestRoom.{parameters_end}
use Rattle.st_machine.proofs.room.greatest_parameters.Goals as goal

pub returns : goal.returns
returns c = parameters_end c.args.codes.now c.loop-code.code-index c.loop-code.most c.loop-code-test.false ∙ c.loop-code.invariant
