use Rattle.st_checks.proofs.ClassMaps.{classes-more}
use Rattle.st_checks.proofs.classes.Classes.new.Goals as goal

pub loop-unit-preserved : goal.loop-unit-preserved
loop-unit-preserved c = classes-more c.loop-unit.by_name c.note_class.new.classes c.args.units.now c.loop-unit.unit-index c.unit-item.result c.loop-unit-test.true c.unit-item.is c.loop-unit.invariant c.in_ok-note_class.ensures
