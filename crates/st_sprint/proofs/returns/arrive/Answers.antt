use Rattle.std.proofs.Common.{◌≡◌, true, sym, ◌∙◌}
use Rattle.st_sprint.specs.Returns.{is_home}
use Rattle.st_sprint.proofs.Returning.{arrives_so}
use Rattle.st_sprint.proofs.Sprints.{then_run}
use Rattle.st_sprint.proofs.returns.arrive.Goals as goal

pub returns-then-is_home : goal.returns-then-is_home
returns-then-is_home g c =
    let there : is_home c.args.home c.args.machine.now.stack ≡ true = sym c.is_home.ensures ∙ c.if-is_home.true in
    then_run (arrives_so c.args.budget.steps c.args.budget.turns c.args.home c.args.value c.args.machine.now c.drop_innermost.new.machine c.if-budget-gt0.true there c.drop_innermost.ensures) (rw c.after_step-left.ensures at c.deliver.ensures)
