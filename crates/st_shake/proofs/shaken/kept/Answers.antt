use Rattle.std.proofs.Common.{◌∷◌, ◌++◌, [], ◌∙◌, ap}
use Rattle.st_tree.specs.declared.units.Unit.{Unit}
use Rattle.st_shake.specs.Shaken.{stays}
use Rattle.st_shake.proofs.Kept.{gained-if, kept-more, same-if}
use Rattle.st_shake.proofs.shaken.kept.Goals as goal
use Rattle.st_shake.proofs.shaken.kept.Goals.{then-stays+in_ok-copy+in_ok-push, else-stays}

pub loop-unit-preserved : goal.loop-unit-preserved
loop-unit-preserved c =
    kept-more c.args.selectors.now c.args.units.now c.loop-unit.unit-index c.unit-item.result c.loop-unit.all c.if-stays.all c.loop-unit-test.true c.unit-item.is c.loop-unit.invariant (elim c.if-stays.branch [
      | then-stays+in_ok-copy+in_ok-push w ↦
          gained-if c.stays.result (stays c.args.selectors.now c.unit-item.result) c.unit-item.result c.loop-unit.all c.if-stays.all w.if-stays.true c.stays.ensures (w.all-is ∙ w.in_ok-push.ensures.ok ∙ ap (λ (u : Unit). c.loop-unit.all ++ u ∷ []) w.in_ok-copy.ensures)
      | else-stays w ↦
          w.all-is ∙ same-if c.stays.result (stays c.args.selectors.now c.unit-item.result) c.unit-item.result c.loop-unit.all w.if-stays.false c.stays.ensures
    ])
