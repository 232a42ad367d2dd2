use Rattle.std.proofs.Common.{◌∙◌, sym, arith}
use Rattle.st_checks.proofs.NameLists.{distinct_none, distinct_more}
use Rattle.st_checks.proofs.lists.distinct.Goals as goal

pub returns-then-not-added : goal.returns-then-not-added
returns-then-not-added c = distinct_none c.args.names.now c.loop-name.set c.loop-name.name-index c.as_bytes.result.now c.name-item.result (omega arith) (c.as_bytes.ensures ∙ c.name-item.is) c.loop-name.invariant.0 (sym c.if-not-added.true ∙ c.in_ok-added.ensures.added)

pub loop-name-preserved : goal.loop-name-preserved
loop-name-preserved c = distinct_more c.args.names.now c.loop-name.set c.add.new.self c.loop-name.name-index c.as_bytes.result.now c.name-item.result (omega arith) (c.as_bytes.ensures ∙ c.name-item.is) c.loop-name.invariant (sym c.if-not-added.false ∙ c.in_ok-added.ensures.added) c.in_ok-added.ensures.names
