-- What is concluded of all that the source gave.
use Rattle.st_trace.proofs.Opening.{concludes_judged, concludes_open}
use Rattle.st_trace.proofs.auditing.audit.Goals as goal

pub returns-in-Ok-clause-judged : goal.returns-in-Ok-clause-judged
returns-in-Ok-clause-judged g c = concludes_judged _ _ _ c.in-Ok.ensures.answers

pub returns-in-Ok-clause-fault : goal.returns-in-Ok-clause-fault
returns-in-Ok-clause-fault g c = concludes_open _ _ _ c.in-Ok.ensures.answers
