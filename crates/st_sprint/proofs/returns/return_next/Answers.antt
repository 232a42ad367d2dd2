use Rattle.st_sprint.proofs.Returning.{returns_so}
use Rattle.st_sprint.proofs.Sprints.{then_run}
use Rattle.st_sprint.proofs.returns.return_next.Goals as goal

pub returns-in-Some : goal.returns-in-Some
returns-in-Some g c =
    then_run (returns_so c.args.budget.steps c.args.budget.turns c.in-Some.home c.take_value-value.result c.args.machine.now c.take_value-value.new.machine c.requires.steps c.requires.turns c.requires.comes c.in-Some.ensures c.take_value-value.ensures.value c.take_value-value.ensures.taken) (rw c.after_instruction.ensures at c.return_to.ensures)
