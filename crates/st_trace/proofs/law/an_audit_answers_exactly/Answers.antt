-- Why an audit answers so: the walk over lines and bytes of Walking.antt.
use Rattle.st_trace.proofs.law.an_audit_answers_exactly.Goals as goal
use Rattle.st_trace.proofs.Walking.{audits_each, audits_once}

pub returns-clause-each : goal.returns-clause-each
returns-clause-each c = audits_each

pub returns-clause-once : goal.returns-clause-once
returns-clause-once c = audits_once
