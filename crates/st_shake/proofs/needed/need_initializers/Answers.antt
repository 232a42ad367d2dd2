use Rattle.std.proofs.Common.{List, refl}
use Rattle.st_tree.specs.declared.units.Unit.{Unit}
use Rattle.st_code.specs.Written.{named_unit, named_units}
use Rattle.program_image.specs.Spelled.{spelled}
use Rattle.program_image.proofs.Spelling.{spelled-next, spelled-end}
use Rattle.st_shake.specs.Needed.{first_kind, texts_of}
use Rattle.st_shake.proofs.Spelling.{unit-first}
use Rattle.st_shake.proofs.needed.need_initializers.Goals as goal

pub loop-unit-preserved : goal.loop-unit-preserved
loop-unit-preserved c =
    spelled-next (λ (us : List Unit). texts_of (named_units us)) (λ (u : Unit). first_kind (named_unit u)) (λ u us. unit-first u us) c.loop-unit.names c.need_unit.new.names (spelled c.args.names.now (texts_of (named_units c.args.units.now))) c.args.units.now c.loop-unit.unit-index c.unit-item.result c.unit-item.is c.loop-unit-test.true c.loop-unit.invariant c.in_ok-need_unit.ensures

pub returns : goal.returns
unfolding named_units
returns c =
    spelled-end (λ (us : List Unit). texts_of (named_units us)) refl c.loop-unit.names (spelled c.args.names.now (texts_of (named_units c.args.units.now))) c.args.units.now c.loop-unit.unit-index c.loop-unit-test.false c.loop-unit.invariant
