use Rattle.std.proofs.Common.{◌<◌, arith}
use Rattle.st_sprint.proofs.Begun.{activate_steps}
use Rattle.st_sprint.proofs.works.activate.Goals as goal

pub returns : goal.returns
returns g c =
    let more : 0 < c.args.budget.steps = omega (arith, c.if-budget-eq0.false) in
    rw c.after_step.ensures (activate_steps c.args.budget.steps c.args.budget.turns c.args.closure c.args.env c.args.machine.now c.activate.new.self more c.activate.ensures)
