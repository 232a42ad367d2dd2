-- Why the selectors are counted: the lemmas of Counts.antt.
use Rattle.std.proofs.Common.{◌∙◌, sym, arith}
use Rattle.st_opening.proofs.Counts.{counted-less, counted-more}
use Rattle.st_opening.proofs.opened.are_counted.Goals as goal

pub returns-then-arity_of : goal.returns-then-arity_of
returns-then-arity_of c = sym (counted-less c.args.names.now c.loop-name.name c.text.result.now c.text.ensures (omega (arith, c.arity_of.ensures, c.if-arity_of.true))) ∙ c.loop-name.invariant

pub loop-name-preserved : goal.loop-name-preserved
loop-name-preserved c = counted-more c.args.names.now c.loop-name.name c.text.result.now c.text.ensures (omega (arith, c.arity_of.ensures, c.if-arity_of.false)) ∙ c.loop-name.invariant
