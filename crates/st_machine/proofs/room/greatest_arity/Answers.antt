use Rattle.std.proofs.Common.{◌∙◌, arith}
use Rattle.st_machine.proofs.GreatestRoom.{arity_more, arity_end}
use Rattle.st_machine.proofs.room.greatest_arity.Goals as goal

pub loop-name-preserved : goal.loop-name-preserved
loop-name-preserved c = rw (c.greatest-most.ensures, c.limited.ensures, c.arity_of.ensures) (arity_more c.args.names.now c.loop-name.name c.loop-name.most c.text.result.now c.text.ensures ∙ c.loop-name.invariant)

pub returns : goal.returns
returns c = arity_end c.args.names.now c.loop-name.name c.loop-name.most (omega arith) ∙ c.loop-name.invariant
