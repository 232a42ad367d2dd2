-- At the end of the input the lines are judged as a whole.
use Rattle.std.proofs.Common.{arith}
use Rattle.st_trace.proofs.Opening.{finished}
use Rattle.st_trace.proofs.auditing.turn.Goals as goal

pub returns-in-Ok-eq0-clause-turns : goal.returns-in-Ok-eq0-clause-turns
returns-in-Ok-eq0-clause-turns g c =
    finished c.args.audit.now (g.S.Source.left c.args.source.now) (g.S.Source.left c.take.new.self) _ c.in-Ok-eq0.field-0 c.finish.result (omega (arith, c.in-Ok-eq0.field-0-test)) c.in-Ok-eq0.ensures.bytes c.finish.ensures
