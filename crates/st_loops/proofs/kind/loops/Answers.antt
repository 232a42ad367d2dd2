use Rattle.std.proofs.Common.{refl}
use Rattle.st_code.specs.BuiltIns.{numbered_messages}
use Rattle.st_loops.proofs.kind.loops.Goals as goal

pub returns : goal.returns
unfolding numbered_messages
returns c = refl
