use Rattle.std.proofs.Common.{◌≡◌, ◌<◌, true, sym, ◌∙◌, arith}
use Rattle.st_machine.specs.Opening.{has_step}
use Rattle.st_sprint.proofs.AtOnce.{replies_at_once}
use Rattle.st_sprint.proofs.Sprints.{then_run}
use Rattle.st_sprint.proofs.messages.send_built_in.Goals as goal

pub returns-in-Some : goal.returns-in-Some
returns-in-Some g c =
    let more : 0 < c.args.budget.steps = omega (arith, c.if-budget-eq0.false) in
    let step : has_step c.args.machine.now ≡ true = sym c.may_step.ensures ∙ c.if-not-may_step.false in
    then_run (replies_at_once c.args.budget.steps c.args.budget.turns c.args.selector c.args.row c.args.receiver c.args.env c.in-Some.reply c.args.machine.now c.quiet_reply_of.new.machine c.step.new.self more c.requires.finds c.in-Some.ensures.made step c.step.ensures.counted) (rw c.after_step.ensures at c.go_on_with.ensures)
