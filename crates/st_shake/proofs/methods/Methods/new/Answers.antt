use Rattle.std.proofs.Common.{ap}
use Rattle.st_code.specs.Written.{named_units}
use Rattle.st_shake.specs.Table.{entry_methods}
use Rattle.st_shake.proofs.Tables.{methods-more, no-table, table-more}
use Rattle.st_shake.proofs.methods.Methods.new.Goals as goal

pub loop-unit-init : goal.loop-unit-init
unfolding named_units
loop-unit-init c = record { table = no-table c.new-entries.result.items c.new-last.result c.new-entries.ensures.items c.new-last.ensures.empty; methods = ap entry_methods c.new-entries.ensures.items }

pub loop-unit-preserved : goal.loop-unit-preserved
loop-unit-preserved c =
    record {
      table = table-more c.loop-unit.entries.items c.add_unit.new.entries.items c.loop-unit.last c.add_unit.new.last c.unit-item.result c.loop-unit.invariant.table c.in_ok-add_unit.ensures;
      methods = methods-more c.loop-unit.entries.items c.add_unit.new.entries.items c.loop-unit.last c.add_unit.new.last c.args.units.now c.loop-unit.unit-index c.unit-item.result c.loop-unit-test.true c.unit-item.is c.in_ok-add_unit.ensures c.loop-unit.invariant.methods;
    }
