use Rattle.std.proofs.Common.{◌≡◌, ◌∙◌, ap, refl}
use Rattle.st_contexts.specs.Stack.{top_env}
use Rattle.st_machine.specs.Seen.{Seen}
use Rattle.st_sprint.proofs.Sprints.{supers, then_run}
use Rattle.st_sprint.proofs.instructions.super_of.Goals as goal

pub returns : goal.returns
returns g c =
    let env : c.env-env.result ≡ top_env c.args.machine.now.stack = c.env-env.ensures ∙ ap (λ (s : Seen). top_env s.stack) c.machine.view_is in
    then_run (supers c.args.budget.steps c.args.budget.turns c.args.selector c.args.arguments c.take_operands-receiver.result c.env-env.result c.args.frame c.args.machine.now c.take_operands-receiver.new.machine _ c.requires.steps c.requires.turns c.requires.comes c.requires.body env c.take_operands-receiver.ensures.receiver c.take_operands-receiver.ensures.taken refl) (rw c.after_instruction-left.ensures at c.super_send.ensures)
