use Rattle.std.proofs.Common.{refl}
use Rattle.st_code.specs.BuiltIns.{numbered_messages}
use Rattle.st_messages.specs.Rows.{plain_rows}
use Rattle.st_messages.proofs.table.rows.Goals as goal

pub returns : goal.returns
unfolding plain_rows numbered_messages
returns c = refl
