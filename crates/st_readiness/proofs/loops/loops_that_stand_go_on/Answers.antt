-- Why loops begin and go on: the laws of ReadyLoops.antt.
use Rattle.st_readiness.proofs.loops.loops_that_stand_go_on.Goals as goal
use Rattle.st_readiness.proofs.ReadyLoops.{loops_may_begin, loops_go_on}

pub returns-clause-begin : goal.returns-clause-begin
returns-clause-begin c = loops_may_begin

pub returns-clause-on : goal.returns-clause-on
returns-clause-on c = loops_go_on
