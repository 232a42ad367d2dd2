use Rattle.std.proofs.Common.{arith}
use Rattle.st_checks.proofs.ClassMaps.{set-more}
use Rattle.st_checks.proofs.classes.set_of.Goals as goal

pub loop-name-preserved : goal.loop-name-preserved
loop-name-preserved c = set-more c.loop-name.all c.insert.new.self c.args.names.now c.loop-name.name-index c.name-item.result c.as_bytes.result (omega arith) c.name-item.is c.as_bytes.ensures c.loop-name.invariant c.in_ok-insert.ensures.keys
