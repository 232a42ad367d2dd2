use Rattle.std.proofs.Common.{◌∙◌, ap}
use Rattle.st_machine.specs.Seen.{Seen}
use Rattle.st_sprint.specs.Dashes.{written_on}
use Rattle.st_sprint.proofs.Sprints.{stores_any}
use Rattle.st_sprint.proofs.instructions.store_of.Goals as goal

pub returns : goal.returns
returns g c = rw c.after_instruction.ensures (stores_any c.args.budget.steps c.args.budget.turns c.args.variable c.args.frame c.args.machine.now c.write_on.new.machine c.requires.steps c.requires.turns c.requires.comes c.requires.body (c.write_on.ensures ∙ ap (λ (s : Seen). written_on c.args.variable c.args.frame s) c.count.ensures))
