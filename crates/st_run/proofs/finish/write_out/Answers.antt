use Rattle.st_run.proofs.CallLemmas.{writes_all, writes_part}
use Rattle.st_run.proofs.finish.write_out.Goals as goal

pub returns-in-Ok : goal.returns-in-Ok
returns-in-Ok g c = λ report same. writes_all _ _ report same c.in-Ok.ensures.all

pub returns-in-Err : goal.returns-in-Err
returns-in-Err g c = λ report same. writes_part _ _ report same c.in-Err.ensures.cause.failed c.in-Err.ensures.part
