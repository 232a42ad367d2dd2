-- Why the auditor agrees: the laws of Verdicts.antt and Keeping.antt.
use Rattle.st_trace.proofs.law.the_auditor_agrees.Goals as goal
use Rattle.st_trace.proofs.Agreement.{auditor_agrees}

pub returns : goal.returns
returns c = auditor_agrees
