use Rattle.std.proofs.Common.{List, refl}
use Rattle.st_tree.specs.declared.units.Unit.{Unit}
use Rattle.st_code.specs.Written.{named_unit, named_units}
use Rattle.st_literals.specs.Gathered.{kind_literals, units_literals, seen_literals}
use Rattle.st_literals.proofs.Gathering.{gathered-next, gathered-end, unit-first}
use Rattle.st_literals.proofs.gather.literals_of.Goals as goal

pub loop-unit-preserved : goal.loop-unit-preserved
loop-unit-preserved c =
    gathered-next (λ (us : List Unit). units_literals (named_units us)) (λ (u : Unit). kind_literals (named_unit u)) (λ u us. unit-first u us) (seen_literals c.loop-unit.all) (seen_literals c.gather_unit.new.all) (units_literals (named_units c.args.units.now)) c.args.units.now c.loop-unit.unit-index c.unit-item.result c.unit-item.is c.loop-unit-test.true c.loop-unit.invariant c.in_ok-gather_unit.ensures

pub returns : goal.returns
unfolding named_units
returns c =
    gathered-end (λ (us : List Unit). units_literals (named_units us)) refl (seen_literals c.loop-unit.all) (units_literals (named_units c.args.units.now)) c.args.units.now c.loop-unit.unit-index c.loop-unit-test.false c.loop-unit.invariant
