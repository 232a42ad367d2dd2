use Rattle.std.proofs.Common.{sym, ◌∙◌}
use Rattle.unwind.proofs.Drops.{reached_contexts, reached_answer, taken_contexts, taken_answer, one_drop, ended_contexts, ended_answer}
use Rattle.unwind.proofs.unwound.unwind_to.Goals as goal

pub returns-then-innermost-target-clause-contexts : goal.returns-then-innermost-target-clause-contexts
returns-then-innermost-target-clause-contexts c = reached_contexts c.args.target c.args.held c.args.contexts.now c.loop-innermost.contexts c.loop-innermost.invariant c.in-Some.innermost (sym c.in-Some.is ∙ c.numbered.ensures) c.if-innermost-target.true

pub returns-then-innermost-target-clause-answer : goal.returns-then-innermost-target-clause-answer
returns-then-innermost-target-clause-answer c = reached_answer c.args.target c.args.held c.args.contexts.now c.loop-innermost.contexts c.loop-innermost.invariant c.in-Some.innermost (sym c.in-Some.is ∙ c.numbered.ensures) c.if-innermost-target.true

pub returns-in-Some-action_of-clause-contexts : goal.returns-in-Some-action_of-clause-contexts
returns-in-Some-action_of-clause-contexts c = c.keep.ensures ∙ taken_contexts c.args.target c.args.held c.args.contexts.now c.loop-innermost.contexts c.loop-innermost.invariant c.in-Some.innermost (sym c.in-Some.is ∙ c.numbered.ensures) c.in-Some-action_of.block c.if-innermost-target.false (sym c.in-Some-action_of.is ∙ c.action_of.ensures)

pub returns-in-Some-action_of-clause-answer : goal.returns-in-Some-action_of-clause-answer
returns-in-Some-action_of-clause-answer c = taken_answer c.args.target c.args.held c.args.contexts.now c.loop-innermost.contexts c.loop-innermost.invariant c.in-Some.innermost (sym c.in-Some.is ∙ c.numbered.ensures) c.in-Some-action_of.block c.if-innermost-target.false (sym c.in-Some-action_of.is ∙ c.action_of.ensures)

pub loop-innermost-preserved : goal.loop-innermost-preserved
loop-innermost-preserved c = rw c.pop.ensures (one_drop c.args.target c.args.held c.args.contexts.now c.loop-innermost.contexts c.loop-innermost.invariant c.in-Some.innermost (sym c.in-Some.is ∙ c.numbered.ensures) c.if-innermost-target.false (sym c.in_default-action_of.is ∙ c.action_of.ensures))

pub returns-clause-contexts : goal.returns-clause-contexts
returns-clause-contexts c = ended_contexts c.args.target c.args.held c.args.contexts.now c.loop-innermost.contexts c.loop-innermost.invariant (sym c.in_default.is ∙ c.numbered.ensures)

pub returns-clause-answer : goal.returns-clause-answer
returns-clause-answer c = ended_answer c.args.target c.args.held c.args.contexts.now c.loop-innermost.contexts c.loop-innermost.invariant (sym c.in_default.is ∙ c.numbered.ensures)
