use Rattle.std.proofs.Common.{◌≡◌, ◌<◌, ◌-◌, true, sym, ◌∙◌, ap, arith}
use Rattle.st_machine.specs.Opening.{has_step, stepped, entered}
use Rattle.st_machine.specs.Passing.{fits_in}
use Rattle.st_machine.specs.Seen.{Seen}
use Rattle.st_sprint.specs.declared.budget.Budget.{Budget}
use Rattle.st_sprint.proofs.Begun.{enter_steps}
use Rattle.st_sprint.proofs.Sprints.{then_run, one_step, step_taken}
use Rattle.st_sprint.proofs.FoundAbove.{super_begins}
use Rattle.st_sprint.proofs.supers.super_method.Goals as goal

pub returns-then-step : goal.returns-then-step
returns-then-step g c =
    let fits : fits_in c.args.machine.now.passed.values c.args.machine.now.passed ≡ true = sym c.passes.ensures.fits ∙ c.if-passes.true in
    let step : has_step c.args.machine.now ≡ true = sym (ap (λ (s : Seen). has_step s) c.passes.ensures.same) ∙ sym c.step.ensures.answer ∙ c.if-step.true in
    let counted : c.step.new.self ≡ one_step c.args.machine.now = c.step.ensures.counted ∙ ap (λ (s : Seen). stepped s) c.passes.ensures.same ∙ step_taken c.args.machine.now step in
    let more : 1 < c.args.budget.steps = c.if-budget-gt1.true in
    let one : 0 < c.args.budget.steps = omega (arith, more) in
    let two : 0 < c.args.budget.steps - 1 = omega (arith, more) in
    let rest : c.after_step-then-step.result ≡ record { steps = c.args.budget.steps - 1 - 1; turns = c.args.budget.turns } = c.after_step-then-step.ensures ∙ ap (λ (b : Budget). record { steps = b.steps - 1; turns = b.turns }) c.after_step.ensures in
    rw rest (then_run (super_begins c.args.budget.steps c.args.budget.turns c.args.selector c.args.code c.args.class c.args.receiver c.args.env c.args.machine.now one c.requires.finds fits step) (enter_steps (c.args.budget.steps - 1) c.args.budget.turns c.args.code c.args.receiver c.args.env (one_step c.args.machine.now) c.enter.new.self two (c.enter.ensures ∙ ap (λ (s : Seen). entered c.args.code c.args.receiver c.args.env s) counted)))
