use Rattle.std.proofs.Common.{◌≡◌, ◌<◌, Some, sym, ◌∙◌, ap, arith}
use Rattle.st_contexts.specs.Moving.{body_of}
use Rattle.st_machine.specs.Seen.{Seen}
use Rattle.st_sprint.proofs.Begun.{reaches}
use Rattle.st_sprint.proofs.values.deliver_to_body.Goals as goal

pub returns-in-Some : goal.returns-in-Some
returns-in-Some g c =
    let body : body_of c.args.machine.now.stack ≡ Some c.in-Some.field-0.now = ap (λ (s : Seen). body_of s.stack) (sym c.machine.view_is) ∙ sym c.in-Some.ensures in
    let more : 0 < c.args.budget.steps = omega (arith, c.if-budget-eq0.false) in
    rw c.after_step.ensures (reaches c.args.budget.steps c.args.budget.turns c.in-Some.field-0.now c.args.value c.args.machine.now c.push_on.new.machine more c.requires.runs body c.push_on.ensures)
