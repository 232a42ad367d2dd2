-- A byte too many is one of the line that isn't whole.
use Rattle.std.proofs.Common.{arith}
use Rattle.st_trace.proofs.Opening.{beyond}
use Rattle.st_trace.proofs.auditing.judge_taken.Goals as goal

pub returns-then-room-eq0-clause-judges : goal.returns-then-room-eq0-clause-judges
returns-then-room-eq0-clause-judges c =
    beyond c.args.audit.now c.args.audit.now c.args.bytes.now c.line.result c.requires.some (omega (arith, c.room.ensures.room, c.if-room-eq0.true)) c.line.ensures
