use Rattle.std.proofs.Common.{[], map}
use Rattle.st_code.specs.Resolved.{without}
use Rattle.st_compiler.specs.Bytes.{bytes_now}
use Rattle.st_compiler.proofs.Mentioned.{without-next}
use Rattle.st_compiler.proofs.names.Mentions.without.Goals as goal

pub loop-name-preserved : goal.loop-name-preserved
loop-name-preserved c =
    without-next c.as_slice-name-items.result.now (record { ref_ptr = (0, 0); now = [] }) c.loop-name.name-index c.args.scope.now c.loop-name.others c.push_free.new.self (without (map bytes_now c.as_slice-name-items.result.now) c.args.scope.now) c.loop-name-test.true c.in_ok-push_free.ensures c.loop-name.invariant
