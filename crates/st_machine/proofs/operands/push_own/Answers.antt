use Rattle.std.proofs.Common.{◌+◌, sym, ◌∙◌, ap, false, drop}
use Rattle.st_contexts.specs.Stack.{value_pushed}
use Rattle.st_machine.specs.Operands.{own_pushed}
use Rattle.st_machine.proofs.Loops.{own_step, own_stay, own_end}
use Rattle.st_machine.proofs.operands.push_own.Goals as goal
use Rattle.st_machine.proofs.operands.push_own.Goals.{then-not-is_captured, else-not-is_captured}

pub loop-index-preserved : goal.loop-index-preserved
loop-index-preserved c = elim c.if-not-is_captured.branch [
  | then-not-is_captured w ↦ own_step c.args.captured.now c.args.arguments.now c.loop-index.index false c.loop-index.contexts c.if-not-is_captured.contexts c.loop-index-test.true w.if-not-is_captured.true (w.contexts-is ∙ w.push_value.ensures ∙ ap (λ v. value_pushed v c.loop-index.contexts) w.argument.ensures) ∙ c.loop-index.invariant
  | else-not-is_captured w ↦ ap (λ s. own_pushed (drop (c.loop-index.index + 1) c.args.captured.now) (drop (c.loop-index.index + 1) c.args.arguments.now) s) w.contexts-is ∙ own_stay c.args.captured.now c.args.arguments.now c.loop-index.index false c.loop-index.contexts c.loop-index-test.true w.if-not-is_captured.false ∙ c.loop-index.invariant
]

pub returns : goal.returns
returns c = sym (own_end c.args.captured.now (drop c.loop-index.index c.args.arguments.now) c.loop-index.index c.loop-index.contexts c.loop-index-test.false) ∙ c.loop-index.invariant
