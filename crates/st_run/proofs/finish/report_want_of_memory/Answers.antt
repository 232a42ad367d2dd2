use Rattle.st_run.proofs.CallLemmas.{tells_want, told_or_wanted}
use Rattle.st_run.proofs.finish.report_want_of_memory.Goals as goal

pub returns-clause-status : goal.returns-clause-status
returns-clause-status g c = told_or_wanted _ _ c.tell.ensures.told

pub returns-clause-finishes : goal.returns-clause-finishes
returns-clause-finishes g c = λ outcome out same. tells_want outcome out _ _ same c.tell.ensures.told c.tell.ensures.part
